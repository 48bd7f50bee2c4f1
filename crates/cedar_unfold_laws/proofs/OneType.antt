-- SPDX-License-Identifier: Apache-2.0
-- A type without faults unfolds where the common types that it names do.
use Rattle.std.proofs.Common.{◌≡◌, ℕ, Bool, true, false, List, [], ◌∷◌, ◌++◌, Option, Some, None, inl, inr, refl, sym, ap, ◌∙◌, subst}
use Rattle.std.specs.Bool.{IsTrue}
use Rattle.std.specs.Option.{is_some}
use Rattle.cedar_data.specs.Firsts.{AllPass, SomePasses}
use Rattle.cedar_names.specs.Components.{has_cedar}
use Rattle.cedar_schema_error.specs.FullNames.{FullName}
use Rattle.cedar_schema_error.specs.Refusals.{Refusal}
use Rattle.cedar_unfold.specs.Faults.{faults, attribute_faults, open_fault, extension_fault, reserved_fault, entity_fault, either_fault, common_fault, of_target}
use Rattle.cedar_unfold.specs.Meanings.{Meanings, definition_of, is_common}
use Rattle.cedar_unfold.specs.Resolved.{ResolvedAttributes}
use Rattle.cedar_unfold.specs.Resolved as resolved
use Rattle.cedar_unfold.specs.Unfolds.{Unfolds, UnfoldsEach, boolean, long, string, extension, set, closed, entity, common, either_common, either_entity, none, each}
use Rattle.cedar_unfold.specs.Written.{Written, WrittenAttributes, Boolean, Long, String, Extension, Set, Record, Entity, EntityOrCommon, CommonTypeRef, no_attributes, attribute, references, attribute_references, common_references, attribute_common_references}
use Rattle.cedar_unfold.proofs.Keeping.{append-empty-left, append-empty-right}
use Rattle.cedar_unfold_laws.specs.Reached.{DoesUnfold}

some-left : {X : Type 0} (P : X → Type 0) (xs ys : List X) → SomePasses P xs → SomePasses P (xs ++ ys)
some-left P [] ys s = absurd s
some-left P (x ∷ xs) ys (inl here) = inl here
some-left P (x ∷ xs) ys (inr later) = inr (some-left P xs ys later)

some-right : {X : Type 0} (P : X → Type 0) (xs ys : List X) → SomePasses P ys → SomePasses P (xs ++ ys)
some-right P [] ys s = s
some-right P (x ∷ xs) ys s = inr (some-right P xs ys s)

pass-left : {X : Type 0} (P : X → Type 0) (xs ys : List X) → AllPass P (xs ++ ys) → AllPass P xs
pass-left P [] ys all = tt
pass-left P (x ∷ xs) ys all = (all.0, pass-left P xs ys all.1)

pass-right : {X : Type 0} (P : X → Type 0) (xs ys : List X) → AllPass P (xs ++ ys) → AllPass P ys
pass-right P [] ys all = all
pass-right P (x ∷ xs) ys all = pass-right P xs ys all.1

there : {A : Type 0} (o : Option A) → IsTrue (is_some o) → (x : A) × (o ≡ Some x)
there None h = absurd cc
there (Some x) h = (x, refl)

closed_record : (is_open : Bool) → open_fault is_open ≡ [] → is_open ≡ false
closed_record true e = absurd cc
closed_record false e = refl

known_extension : (known : Bool) (e : List ℕ) → extension_fault known e ≡ [] → IsTrue known
known_extension true e faultless = refl
known_extension false e faultless = absurd cc

free_name : (reserved : Bool) (name : FullName) → reserved_fault reserved name ≡ [] → reserved ≡ false
free_name true name e = absurd cc
free_name false name e = refl

entity_name : (known : Bool) (name : FullName) → known ≡ false → either_fault known name ≡ [] → entity_fault name ≡ []
entity_name true name is e = absurd cc
entity_name false name is e = e

no_violation : (known : Bool) (name : FullName) → known ≡ false → common_fault known name ≡ [] → ⊥
no_violation true name is e = absurd cc
no_violation false name is e = absurd cc

-- what stands at a target is what stands at the reference
at_target : (f : FullName → List Refusal) (o : Option FullName) (name : FullName) → o ≡ Some name → of_target f o ≡ [] → f name ≡ []
at_target f o name is e = sym (ap (of_target f) is) ∙ e

module _ {N : Type 0} (m : Meanings N) where
  abbrev EachUnfold : WrittenAttributes N → Type 0
  EachUnfold ws = (Ts : ResolvedAttributes) × UnfoldsEach m ws Ts

  -- each reference has a target
  abbrev Targeted : List N → Type 0
  Targeted rs = AllPass (λ r. IsTrue (is_some (m.target r))) rs

  -- the reference has this target
  abbrev IsTarget : FullName → N → Type 0
  IsTarget name r = m.target r ≡ Some name

  -- each common type that one of the references names unfolds
  abbrev Known : List N → Type 0
  Known rs = (name : FullName) (t : Written N) → SomePasses (IsTarget name) rs → definition_of m name ≡ Some t → DoesUnfold m t

  either_from : (r : N) (name : FullName) → m.target r ≡ Some name → either_fault (is_common m name) name ≡ [] → Known (r ∷ []) → DoesUnfold m (EntityOrCommon r)
  either_from r name is faultless known = by_definition (definition_of m name) refl where
    by_definition : (o : Option (Written N)) → definition_of m name ≡ o → DoesUnfold m (EntityOrCommon r)
    by_definition (Some t) defined =
        let (T, unfolds) = known name t (inl is) defined in
        (T, either_common (record { name = name; targeted = is; defined = defined }) unfolds)
    by_definition None undefined =
        let free = free_name (has_cedar name) name (entity_name (is_common m name) name (ap is_some undefined) faultless) in
        (resolved.Entity name, either_entity (record { targeted = is; no_common = undefined; free = free }))

  common_from : (r : N) (name : FullName) → m.target r ≡ Some name → common_fault (is_common m name) name ≡ [] → Known (r ∷ []) → DoesUnfold m (CommonTypeRef r)
  common_from r name is faultless known = by_definition (definition_of m name) refl where
    by_definition : (o : Option (Written N)) → definition_of m name ≡ o → DoesUnfold m (CommonTypeRef r)
    by_definition (Some t) defined =
        let (T, unfolds) = known name t (inl is) defined in
        (T, common (record { name = name; targeted = is; defined = defined }) unfolds)
    by_definition None undefined = absurd (no_violation (is_common m name) name (ap is_some undefined) faultless)

  mutual
    pub unfolds_from : (t : Written N) → Targeted (references t) → faults m t ≡ [] → Known (common_references t) → DoesUnfold m t
    unfolds_from Boolean targeted faultless known = (resolved.Boolean, boolean)
    unfolds_from Long targeted faultless known = (resolved.Long, long)
    unfolds_from String targeted faultless known = (resolved.String, string)
    unfolds_from (Extension e) targeted faultless known = (resolved.Extension (e ∷ []), extension (known_extension (m.is_extension e) e faultless))
    unfolds_from (Set t) targeted faultless known =
        let (T, unfolds) = unfolds_from t targeted faultless known in
        (resolved.Set T, set unfolds)
    unfolds_from (Record ws is_open) targeted faultless known =
        let (Ts, parts) = each_from ws targeted (append-empty-right (open_fault is_open) (attribute_faults m ws) faultless) known in
        let no_others = closed_record is_open (append-empty-left (open_fault is_open) (attribute_faults m ws) faultless) in
        (resolved.Record Ts false, subst (λ b. Unfolds m (Record ws b) (resolved.Record Ts false)) (sym no_others) (closed parts))
    unfolds_from (Entity r) targeted faultless known =
        let (name, is) = there (m.target r) targeted.0 in
        (resolved.Entity name, entity is (free_name (has_cedar name) name (at_target entity_fault (m.target r) name is faultless)))
    unfolds_from (EntityOrCommon r) targeted faultless known =
        let (name, is) = there (m.target r) targeted.0 in
        either_from r name is (at_target (λ n. either_fault (is_common m n) n) (m.target r) name is faultless) known
    unfolds_from (CommonTypeRef r) targeted faultless known =
        let (name, is) = there (m.target r) targeted.0 in
        common_from r name is (at_target (λ n. common_fault (is_common m n) n) (m.target r) name is faultless) known

    each_from : (ws : WrittenAttributes N) → Targeted (attribute_references ws) → attribute_faults m ws ≡ [] → Known (attribute_common_references ws) → EachUnfold ws
    each_from no_attributes targeted faultless known = (resolved.no_attributes, none)
    each_from (attribute name required t ws) targeted faultless known =
        let (T, unfolds) = unfolds_from t (pass-left (λ r. IsTrue (is_some (m.target r))) (references t) (attribute_references ws) targeted)
        (append-empty-left (faults m t) (attribute_faults m ws) faultless)
        (λ n u s defined. known n u (some-left (IsTarget n) (common_references t) (attribute_common_references ws) s) defined) in
        let (Ts, parts) = each_from ws (pass-right (λ r. IsTrue (is_some (m.target r))) (references t) (attribute_references ws) targeted)
        (append-empty-right (faults m t) (attribute_faults m ws) faultless)
        (λ n u s defined. known n u (some-right (IsTarget n) (common_references t) (attribute_common_references ws) s) defined) in
        (resolved.attribute name required T Ts, each unfolds parts)
