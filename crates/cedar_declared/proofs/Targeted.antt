-- SPDX-License-Identifier: Apache-2.0
-- What comes of a reference, by whether it may stand for a declared name.
use Rattle.std.proofs.Common.{◌≡◌, ◌||◌, ℕ, List, IsTrue, not, map, Bool, true, false, cond, [], ◌∷◌, Option, Some, None, refl, sym, ap, ◌∙◌, is_some, subst, unwrap_or, MatchResult, MatchOption}
use Rattle.std.specs.List.{find}
use Rattle.std.specs.BTreeMap.{is_at}
use Rattle.std.specs.Ordering.{is_eq, ordering_then}
use Rattle.std.specs.declared.cmp.Ordering.{Ordering}
use Rattle.std.specs.declared.cmp.Ordering.TheVariants.{Less, Equal, Greater}
use Rattle.cedar_data.specs.Sets.{contains}
use Rattle.cedar_names.proofs.NameOrder.{words_cmp-equal}
use Rattle.cedar_names.specs.EntityUids.{eid_of, eid_text, entity_type_of}
use Rattle.cedar_names.specs.Names.{entity_words, name_of}
use Rattle.cedar_names.specs.Order.{word_cmp, words_cmp}
use Rattle.cedar_names.specs.declared.entity_uid.EntityUID.{EntityUID}
use Rattle.cedar_schema_error.specs.FullNames.{FullName, uid_cmp, uid_in}
use Rattle.std.specs.Result.{result_err, result_ok}
use Rattle.cedar_written.specs.Reference.{named}
use Rattle.cedar_schema_error.specs.declared.schema_error.SchemaError.{SchemaError}
use Rattle.cedar_schema_error.specs.declared.schema_error.SchemaError.TheVariants.{TypeNotDefined}
use Rattle.std.specs.declared.result.Result.{Result}
use Rattle.cedar_declared.specs.Held.{names_of}
use Rattle.cedar_declared.specs.declared.all_defs.AllDefs.{AllDefs}
use Rattle.std.specs.declared.result.Result.TheVariants.{Ok, Err}
use Rattle.cedar_names.specs.Components.{components, has_cedar}
use Rattle.cedar_names.specs.declared.internal_name.InternalName.{InternalName}
use Rattle.cedar_written.specs.Possibilities.{kind_of, leading, possibilities_of}
use Rattle.cedar_written.specs.declared.conditional_name.ConditionalName.{ConditionalName}
use Rattle.cedar_written.specs.declared.reference_type.ReferenceType.{ReferenceType}
use Rattle.cedar_schema_error.specs.declared.name_errors.TypeNotDefinedError.{TypeNotDefinedError}
use Rattle.cedar_declared.specs.Names.{Names, is_action, is_declared}
use Rattle.cedar_declared.specs.Targets.{action_at, found, or_refused, resolved, resolving}

module _ (names : Names) (n : ConditionalName) where
  abbrev is_target : InternalName → Bool
  is_target p = is_declared names (kind_of n) (components p)

  -- it becomes the first, where that is declared
  pub resolved_first : (first : InternalName) (b : Bool) → first ≡ (possibilities_of n).head → b ≡ is_declared names (kind_of n) (components (possibilities_of n).head) → b ≡ true → Ok first ≡ resolved names n
  resolved_first first b same is yes-declared =
      ap (λ p. Ok p) same
      ∙ sym (ap (λ d. or_refused (record { undefined_types = leading n [] }) (cond d (Some (possibilities_of n).head) (find is_target (possibilities_of n).tail))) (sym is ∙ yes-declared))

  -- one of the others is declared
  pub some_other : (kind : ReferenceType) (others : List InternalName) (b : Bool) → kind ≡ kind_of n → others ≡ (possibilities_of n).tail → b ≡ is_some (find (λ p. is_declared names (kind_of n) (components p)) (possibilities_of n).tail) → b ≡ true → is_some (find (λ p. is_declared names kind (components p)) others) ≡ true
  some_other kind others b k o is yes-found = (λ i. is_some (find (λ q. is_declared names (k i) (components q)) (o i))) ∙ sym is ∙ yes-found

  after_first : (b : Bool) (first : InternalName) (o : Option InternalName) → b ≡ false → cond b (Some first) o ≡ o
  after_first b first o none = ap (λ b. cond b (Some first) o) none

  -- else it becomes the first of the others that is
  pub resolved_other : (kind : ReferenceType) (others : List InternalName) (r : InternalName) (b : Bool) → kind ≡ kind_of n → others ≡ (possibilities_of n).tail → find (λ p. is_declared names kind (components p)) others ≡ Some r
      → b ≡ is_declared names (kind_of n) (components (possibilities_of n).head) → b ≡ false → Ok r ≡ resolved names n
  resolved_other kind others r b k o is first none =
      sym (ap (or_refused (record { undefined_types = leading n [] }))
      (after_first (is_target (possibilities_of n).head) (possibilities_of n).head (find is_target (possibilities_of n).tail) (sym first ∙ none)
      ∙ (λ i. find (λ q. is_declared names (sym k i) (components q)) (sym o i)) ∙ is))

  none_by : (o : Option InternalName) → is_some o ≡ false → (e : TypeNotDefinedError) → Err e ≡ or_refused e o
  none_by None is e = refl
  none_by (Some r) is e = absurd (cc)

  -- none is
  pub refused_as : (e : TypeNotDefinedError) (b c : Bool) → e ≡ record { undefined_types = leading n [] } → b ≡ is_declared names (kind_of n) (components (possibilities_of n).head) → b ≡ false
      → c ≡ is_some (find (λ p. is_declared names (kind_of n) (components p)) (possibilities_of n).tail) → c ≡ false → Err e ≡ resolved names n
  refused_as e b c same first none others none-found =
      ap Err same
      ∙ none_by (found names n) (ap is_some (after_first (is_target (possibilities_of n).head) (possibilities_of n).head (find is_target (possibilities_of n).tail) (sym first ∙ none)) ∙ sym others ∙ none-found) (record { undefined_types = leading n [] })

-- a refused reference is refused by the step
pub refused_step : (names : Names) (k : ReferenceType) (n : ConditionalName) (e : TypeNotDefinedError) → Err e ≡ resolved names n → resolving names (named k n) ≡ Err (TypeNotDefined e)
refused_step names k n e is = by (found names n) is
  where
    by : (o : Option InternalName) → Err e ≡ or_refused (record { undefined_types = leading n [] }) o → or_refused (TypeNotDefined (record { undefined_types = leading n [] })) o ≡ Err (TypeNotDefined e)
    by None is = ap (λ x. Err (TypeNotDefined x)) (sym (ap (λ r. unwrap_or (result_err r) e) is))
    by (Some r) is = absurd (subst (λ r. MatchResult r (λ v. ⊥) (λ v. Unit {0})) is tt)

-- a reference that becomes a name does so by the step
pub accepted_step : (names : Names) (k : ReferenceType) (n : ConditionalName) (r : InternalName) → Ok r ≡ resolved names n → resolving names (named k n) ≡ Ok r
accepted_step names k n r is = by (record { undefined_types = leading n [] }) (found names n) is
  where
    by : (e : TypeNotDefinedError) (o : Option InternalName) → ◌≡◌ {A = Result InternalName TypeNotDefinedError} (Ok r) (or_refused e o)
        → ◌≡◌ {A = Result InternalName SchemaError} (or_refused (TypeNotDefined e) o) (Ok r)
    by e None is = absurd (subst (λ r. MatchResult r (λ v. Unit {0}) (λ v. ⊥)) is tt)
    by e (Some s) is = ap (λ x. Ok x) (sym (ap (λ x. unwrap_or (result_ok x) r) is))

-- no action is of a type with `__cedar`
unreserved : (u : EntityUID) → has_cedar (entity_words (entity_type_of u)) ≡ false
unreserved u = not_true (has_cedar (entity_words (entity_type_of u))) (name_of (entity_type_of u)).unreserved
  where
    not_true : (b : Bool) → IsTrue (not b) → b ≡ false
    not_true true e = let p : false ≡ true = e in absurd (cc)
    not_true false e = refl

no_action : (ty : FullName) (id : List ℕ) → has_cedar ty ≡ true → (us : List EntityUID) → contains uid_cmp (map uid_in us) (record { ty = ty; id = id }) ≡ false
no_action ty id reserved [] = refl
no_action ty id reserved (u ∷ us) = either_off _ _ (apart (is_at (uid_cmp (record { ty = ty; id = id })) (uid_in u)) refl) (no_action ty id reserved us)
  where
    either_off : (a b : Bool) → a ≡ false → b ≡ false → (a || b) ≡ false
    either_off a b p q = ap (λ a. a || b) p ∙ q

    first_equal : (a b : Ordering) → is_eq (ordering_then a b) ≡ true → a ≡ Equal
    first_equal Equal b e = refl
    first_equal Less b e = let p : false ≡ true = e in absurd (cc)
    first_equal Greater b e = let p : false ≡ true = e in absurd (cc)

    apart : (b : Bool) → is_at (uid_cmp (record { ty = ty; id = id })) (uid_in u) ≡ b → b ≡ false
    apart false e = refl
    apart true e =
        let same : ty ≡ entity_words (entity_type_of u) = (words_cmp-equal ty (entity_words (entity_type_of u))).0 (first_equal (words_cmp ty (entity_words (entity_type_of u))) (word_cmp id (eid_text (eid_of u))) e) in
        let p : has_cedar (entity_words (entity_type_of u)) ≡ true = sym (ap has_cedar same) ∙ reserved in
        let q : has_cedar (entity_words (entity_type_of u)) ≡ false = unreserved u in
        absurd (cc)

-- so it is not declared
pub reserved_undeclared : (d : AllDefs) (id : List ℕ) (ty : InternalName) (o : Option EntityUID) → MatchOption o (has_cedar (components ty) ≡ true) (λ u. uid_in u ≡ action_at id ty) → o ≡ None → false ≡ is_action (names_of d) (action_at id ty)
reserved_undeclared d id ty o is none = sym (no_action (components ty) id (subst (λ o. MatchOption o (has_cedar (components ty) ≡ true) (λ u. uid_in u ≡ action_at id ty)) none is) d.actions)

pub ruleset targeted = (resolved_first, some_other, resolved_other, refused_as)
