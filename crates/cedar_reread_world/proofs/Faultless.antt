-- SPDX-License-Identifier: Apache-2.0
-- A type that unfolds has no fault, each of its references has a target, and it refers to no common type that reaches itself.
use Rattle.std.proofs.Common.{◌≡◌, ◌++◌, ◌⊎◌, inl, inr, false, cond, List, [], ◌∷◌, Some, None, refl, sym, ap, ◌∙◌, subst}
use Rattle.std.specs.List.{filter}
use Rattle.std.specs.Option.{is_none, is_some}
use Rattle.cedar_closure.proofs.ChainLaws.{Reaches-push}
use Rattle.cedar_closure.specs.Chains.{one, more}
use Rattle.cedar_data.specs.Firsts.{AllPass, SomePasses}
use Rattle.cedar_names.specs.Components.{has_cedar}
use Rattle.cedar_reread_world.proofs.Tests.{inside}
use Rattle.cedar_schema_error.specs.FullNames.{FullName}
use Rattle.cedar_sound.proofs.NothingMissed.{pass_append}
use Rattle.cedar_unfold.specs.Faults.{attribute_faults, common_fault, either_fault, extension_fault, faults, of_target, reserved_fault}
use Rattle.cedar_unfold.specs.Meanings.{MeansCommon, MeansEntity, Meanings, definition_of, is_common}
use Rattle.cedar_unfold.specs.Resolved.{Resolved, ResolvedAttributes}
use Rattle.cedar_unfold.specs.UnfoldPhases.{IsCircular, Refers}
use Rattle.cedar_unfold.specs.Unfolds.{Unfolds, UnfoldsEach, boolean, long, string, extension, set, closed, entity, common, either_common, either_entity, none, each}
use Rattle.cedar_unfold.specs.Written.{Written, WrittenAttributes, attribute_common_references, attribute_references, common_references, references}

module _ {N : Type 0} (m : Meanings N) where
  mutual
    -- no fault
    pub faultless : (t : Written N) (T : Resolved) → Unfolds m t T → faults m t ≡ []
    faultless _ _ boolean = refl
    faultless _ _ long = refl
    faultless _ _ string = refl
    faultless _ _ (extension {e} known) = ap (λ b. extension_fault b e) known
    faultless _ _ (set {t} {T} u) = faultless t T u
    faultless _ _ (closed {ws} {rs} us) = faultless_each ws rs us
    faultless _ _ (entity {r} {name} e free) = ap (of_target (λ n. reserved_fault (has_cedar n) n)) e ∙ ap (λ b. reserved_fault b name) free
    faultless _ _ (common {r} x u) = ap (of_target (λ n. common_fault (is_common m n) n)) x.targeted ∙ ap (λ o. common_fault (is_some o) x.name) x.defined
    faultless _ _ (either_common {r} x u) = ap (of_target (λ n. either_fault (is_common m n) n)) x.targeted ∙ ap (λ o. either_fault (is_some o) x.name) x.defined
    faultless _ _ (either_entity {r} {name} x) =
        ap (of_target (λ n. either_fault (is_common m n) n)) x.targeted ∙ (λ i. either_fault (is_some (x.no_common i)) name) ∙ ap (λ b. reserved_fault b name) x.free

    faultless_each : (ws : WrittenAttributes N) (rs : ResolvedAttributes) → UnfoldsEach m ws rs → attribute_faults m ws ≡ []
    faultless_each _ _ none = refl
    faultless_each _ _ (each {t = t} {T} {ws} {rs} u us) = λ i. faultless t T u i ++ faultless_each ws rs us i

  abbrev HasTarget : N → Type 0
  HasTarget r = is_none (m.target r) ≡ false

  mutual
    -- each reference has a target
    pub targeted : (t : Written N) (T : Resolved) → Unfolds m t T → AllPass HasTarget (references t)
    targeted _ _ boolean = tt
    targeted _ _ long = tt
    targeted _ _ string = tt
    targeted _ _ (extension known) = tt
    targeted _ _ (set {t} {T} u) = targeted t T u
    targeted _ _ (closed {ws} {rs} us) = targeted_each ws rs us
    targeted _ _ (entity e free) = (ap is_none e, tt)
    targeted _ _ (common x u) = (ap is_none x.targeted, tt)
    targeted _ _ (either_common x u) = (ap is_none x.targeted, tt)
    targeted _ _ (either_entity x) = (ap is_none x.targeted, tt)

    targeted_each : (ws : WrittenAttributes N) (rs : ResolvedAttributes) → UnfoldsEach m ws rs → AllPass HasTarget (attribute_references ws)
    targeted_each _ _ none = tt
    targeted_each _ _ (each {t = t} {T} {ws} {rs} u us) = pass_append HasTarget (references t) (attribute_references ws) (targeted t T u) (targeted_each ws rs us)

  -- so none is missing
  pub none_missing : (rs : List N) → AllPass HasTarget rs → filter (λ r. is_none (m.target r)) rs ≡ []
  none_missing [] all = refl
  none_missing (r ∷ rs) all = ap (λ b. cond b (r ∷ filter (λ r. is_none (m.target r)) rs) (filter (λ r. is_none (m.target r)) rs)) all.0 ∙ none_missing rs all.1

  -- ---- no common type that it refers to reaches itself

  abbrev NamesIn : Written N → FullName → Type 0
  NamesIn t name = SomePasses (λ r. m.target r ≡ Some name) (common_references t)

  pub some_append : (P : N → Type 0) (xs ys : List N) → SomePasses P (xs ++ ys) → SomePasses P xs ⊎ SomePasses P ys
  some_append P [] ys h = inr h
  some_append P (x ∷ xs) ys (inl h) = inl (inl h)
  some_append P (x ∷ xs) ys (inr h) = by (some_append P xs ys h)
    where
      by : SomePasses P xs ⊎ SomePasses P ys → SomePasses P (x ∷ xs) ⊎ SomePasses P ys
      by (inl h) = inl (inr h)
      by (inr h) = inr h

  -- what a circular name refers to is circular
  turned : (n : FullName) → IsCircular m n → (next : FullName) × Refers m n next × IsCircular m next
  turned n (one s) = (n, s, one s)
  turned n (more {b = x} s rest) = (x, s, Reaches-push rest s)

  same_definition : (r : N) (t : Written N) (n : FullName) → MeansCommon m r t → m.target r ≡ Some n → definition_of m n ≡ Some t
  same_definition r t n x e = ap (definition_of m) (inside n x.name (sym e ∙ x.targeted)) ∙ x.defined

  into : (t : Written N) (n : FullName) → definition_of m n ≡ Some t → IsCircular m n → ((b : FullName) → NamesIn t b → IsCircular m b → ⊥) → ⊥
  into t n defined circle rest =
      let next = turned n circle in
      rest next.0 (subst (λ t. NamesIn t next.0) (inside next.1.definition t (sym next.1.defined ∙ defined)) next.1.refers) next.2

  through : (r : N) (t : Written N) (n : FullName) → MeansCommon m r t → (m.target r ≡ Some n) ⊎ ⊥ → IsCircular m n → ((b : FullName) → NamesIn t b → IsCircular m b → ⊥) → ⊥
  through r t n x (inl e) circle rest = into t n (same_definition r t n x e) circle rest
  through r t n x (inr e) circle rest = e

  undefined : (r : N) (name n : FullName) → MeansEntity m r name → (m.target r ≡ Some n) ⊎ ⊥ → IsCircular m n → ⊥
  undefined r name n x (inr e) circle = e
  undefined r name n x (inl e) circle =
      let next = turned n circle in
      let found : Some next.1.definition ≡ None = sym next.1.defined ∙ ap (definition_of m) (inside n name (sym e ∙ x.targeted)) ∙ x.no_common in
      absurd (cc)

  split : (t : Written N) (ws : WrittenAttributes N) (n : FullName) → (NamesIn t n → ⊥) → (SomePasses (λ r. m.target r ≡ Some n) (attribute_common_references ws) → ⊥)
      → SomePasses (λ r. m.target r ≡ Some n) (common_references t ++ attribute_common_references ws) → ⊥
  split t ws n f g h = by (some_append (λ r. m.target r ≡ Some n) (common_references t) (attribute_common_references ws) h)
    where
      by : NamesIn t n ⊎ SomePasses (λ r. m.target r ≡ Some n) (attribute_common_references ws) → ⊥
      by (inl h) = f h
      by (inr h) = g h

  mutual
    acyclic : (t : Written N) (T : Resolved) → Unfolds m t T → (n : FullName) → NamesIn t n → IsCircular m n → ⊥
    acyclic _ _ boolean n h circle = h
    acyclic _ _ long n h circle = h
    acyclic _ _ string n h circle = h
    acyclic _ _ (extension known) n h circle = h
    acyclic _ _ (set {t} {T} u) n h circle = acyclic t T u n h circle
    acyclic _ _ (closed {ws} {rs} us) n h circle = acyclic_each ws rs us n h circle
    acyclic _ _ (entity e free) n h circle = h
    acyclic _ _ (common {r} {t} {T} x u) n h circle = through r t n x h circle (λ b. acyclic t T u b)
    acyclic _ _ (either_common {r} {t} {T} x u) n h circle = through r t n x h circle (λ b. acyclic t T u b)
    acyclic _ _ (either_entity {r} {name} x) n h circle = undefined r name n x h circle

    acyclic_each : (ws : WrittenAttributes N) (rs : ResolvedAttributes) → UnfoldsEach m ws rs → (n : FullName) → SomePasses (λ r. m.target r ≡ Some n) (attribute_common_references ws) → IsCircular m n → ⊥
    acyclic_each _ _ none n h circle = h
    acyclic_each _ _ (each {t = t} {T} {ws} {rs} u us) n h circle = split t ws n (λ h. acyclic t T u n h circle) (λ h. acyclic_each ws rs us n h circle) h

  -- where each common type unfolds, none reaches itself
  pub no_cycle : ((n : FullName) (t : Written N) → definition_of m n ≡ Some t → (T : Resolved) × Unfolds m t T) → (n : FullName) → IsCircular m n → ⊥
  no_cycle unfolded n circle =
      let next = turned n circle in
      let made = unfolded n next.1.definition next.1.defined in
      into next.1.definition n next.1.defined circle (λ b. acyclic next.1.definition made.0 made.1 b)
