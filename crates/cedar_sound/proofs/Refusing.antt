-- SPDX-License-Identifier: Apache-2.0
-- Each phase refuses in one way at most, and not where it passes; so a world is sound or refused in one way, not both.
use Rattle.std.specs.Prelude.{◌≡◌, ◌||◌, IsTrue, List, [], ◌∷◌}
use Rattle.std.specs.Ordering.{is_eq}
use Rattle.std.specs.declared.cmp.Ordering.{Ordering}
use Rattle.std.proofs.Common.{refl, sym, ap, ◌∙◌, subst}
use Rattle.cedar_data.specs.Firsts.{IsLeast}
use Rattle.cedar_data.specs.Sets.{contains}
use Rattle.cedar_data.proofs.Exact.{IsExact, one_set}
use Rattle.cedar_data.proofs.Judging.{Judges, again_or_not, apart_of_list, none_first, one_again, one_first, one_least, one_of_list}
use Rattle.cedar_shadowing.specs.of_declared.Names.{Names}
use Rattle.cedar_duplicates.specs.Duplicates.{duplicate, same_declared}
use Rattle.cedar_names.proofs.NameOrder.{words_cmp-equal}
use Rattle.cedar_names.specs.Order.{words_cmp}
use Rattle.cedar_duplicates.specs.of_schema_error.FullNames.{FullName}
use Rattle.cedar_duplicates.specs.of_schema_error.Refusals.{ActionNotDefined, ActionShadowing, CycleInActionHierarchy, Refusal, ReservedName, TypeNotDefined, TypeShadowing, UndeclaredEntityTypes}
use Rattle.cedar_shadowing.specs.Shadowing.{ActionShadows, IsLeastPair, ShadowPasses, ShadowPhase, ShadowRefuses, ShadowsAction, ShadowsType, TypeShadows, shadow_phases}
use Rattle.cedar_sound.specs.References.{MissingActions, MissingTypes, ReferencePhase, ReferencesPass, ReferencesRefuse, ReservedTargets, reference_phases}
use Rattle.cedar_sound.specs.Sound.{ActionCycles, Cause, Duplicates, Passes, Phase, References, RefusesAt, Shadowing, Sound, UndeclaredTypes, Unfolding, all_declared, phases}
use Rattle.cedar_sound.proofs.JobJudging.{not_both_unfolding, one_why_not}
use Rattle.cedar_sound.proofs.NameOrders.{names_exact, uids_exact}
use Rattle.cedar_world.specs.Definitions.{Namespace}
use Rattle.cedar_world.specs.Descents.{ActionDescendsFrom}
use Rattle.cedar_world.specs.Missing.{missing_actions, missing_types, reserved_targets}
use Rattle.cedar_world.specs.Undeclared.{IsUndeclared}
use Rattle.cedar_world.specs.Worlds.{World, all_namespaces, job, names, own}

module _ {A : Type 0} {cmp : A → A → Ordering} (order : IsExact cmp) where
  -- there is one least pair at most
  one_pair : (R : A → A → Type 0) (f : A → A → Refusal) (a b c d : A) → IsLeastPair cmp R a b → IsLeastPair cmp R c d → f a b ≡ f c d
  one_pair R f a b c d p q =
      let same : a ≡ c = one_least order (λ x. (y : A) × R x y) a c p.first q.first in
      let also : IsLeast cmp (R c) b = subst (λ x. IsLeast cmp (R x) b) same p.second in
      ap (λ x. f x b) same ∙ ap (f c) (one_least order (R c) b d also q.second)

-- a list has one first and one rest
one_list : {A : Type 0} (xs : List A) (f : A → List A → Refusal) (e e' : Refusal) → (x : A) × (rest : List A) × (e ≡ f x rest) × (xs ≡ x ∷ rest)
    → (x : A) × (rest : List A) × (e' ≡ f x rest) × (xs ≡ x ∷ rest) → e ≡ e'
one_list xs f e e' r r' =
    let is : e ≡ f r.0 r.1 = r.2 in
    let is' : e' ≡ f r'.0 r'.1 = r'.2 in
    let split : xs ≡ r.0 ∷ r.1 = r.3 in
    let split' : xs ≡ r'.0 ∷ r'.1 = r'.3 in
    cc

-- two lists that are one are refused alike
same_lists : {A : Type 0} (f : A → List A → Refusal) (x y : A) (xs ys : List A) → x ∷ xs ≡ y ∷ ys → f x xs ≡ f y ys
same_lists f x y xs ys e = cc

-- the first name of a list is in it
first_in : (n : FullName) (ns : List FullName) → IsTrue (contains words_cmp (n ∷ ns) n)
first_in n ns = ap (λ o. is_eq o || contains words_cmp ns n) ((words_cmp-equal n n).1 refl)

module _ (own : Names) where
  apart_shadows : (p : ShadowPhase) (e : Refusal) → ShadowPasses own p → ShadowRefuses own p e → ⊥
  apart_shadows TypeShadows e passes r = passes r.0 r.1 r.3.second.holds
  apart_shadows ActionShadows e passes r = passes r.0 r.1 r.3.second.holds

  one_shadows : (p : ShadowPhase) (e e' : Refusal) → ShadowRefuses own p e → ShadowRefuses own p e' → e ≡ e'
  one_shadows TypeShadows e e' r r' = r.2 ∙ one_pair names_exact (ShadowsType own) TypeShadowing r.0 r.1 r'.0 r'.1 r.3 r'.3 ∙ sym r'.2
  one_shadows ActionShadows e e' r r' = r.2 ∙ one_pair uids_exact (ShadowsAction own) ActionShadowing r.0 r.1 r'.0 r'.1 r.3 r'.3 ∙ sym r'.2

  pub judges_shadows : Judges (ShadowPasses own) (ShadowRefuses own)
  judges_shadows = record { apart = apart_shadows; one = one_shadows }

module _ (names : Names) (all : List Namespace) where
  apart_references : (p : ReferencePhase) (e : Refusal) → ReferencesPass names all p → ReferencesRefuse names all p e → ⊥
  apart_references MissingTypes e passes r = none_first (missing_types names all) r.0 passes (r.1, r.3)
  apart_references MissingActions e passes r = none_first (missing_actions names all) r.0 passes (r.1, r.3)
  apart_references ReservedTargets e passes r = none_first (reserved_targets names all) r.0 passes r.2

  one_references : (p : ReferencePhase) (e e' : Refusal) → ReferencesRefuse names all p e → ReferencesRefuse names all p e' → e ≡ e'
  one_references MissingTypes e e' r r' = one_list (missing_types names all) TypeNotDefined e e' r r'
  one_references MissingActions e e' r r' = one_list (missing_actions names all) ActionNotDefined e e' r r'
  one_references ReservedTargets e e' r r' = r.1 ∙ ap ReservedName (one_first (reserved_targets names all) r.0 r'.0 r.2 r'.2) ∙ sym r'.1

  pub judges_references : Judges (ReferencesPass names all) (ReferencesRefuse names all)
  judges_references = record { apart = apart_references; one = one_references }

module _ (W : World) where
  apart_phase : (p : Phase) (e : Refusal) → Passes W p → RefusesAt W p e → ⊥
  apart_phase Shadowing e passes r = apart_of_list (judges_shadows (own W)) shadow_phases e passes r
  apart_phase References e passes r = apart_of_list (judges_references (names W) (all_namespaces W)) reference_phases e passes r
  apart_phase Duplicates e passes r = again_or_not same_declared [] (all_declared (all_namespaces W)) r.0 passes r.2
  apart_phase Unfolding e passes r = not_both_unfolding (job W) e passes r
  apart_phase ActionCycles e passes r = passes r.0 r.2.holds
  apart_phase UndeclaredTypes e passes r = passes r.0 ((r.3.members r.0).0 (first_in r.0 r.1))

  one_phase : (p : Phase) (e e' : Refusal) → RefusesAt W p e → RefusesAt W p e' → e ≡ e'
  one_phase Shadowing e e' r r' = one_of_list (judges_shadows (own W)) shadow_phases e e' r r'
  one_phase References e e' r r' = one_of_list (judges_references (names W) (all_namespaces W)) reference_phases e e' r r'
  one_phase Duplicates e e' r r' = r.1 ∙ ap duplicate (one_again same_declared [] (all_declared (all_namespaces W)) r.0 r'.0 r.2 r'.2) ∙ sym r'.1
  one_phase Unfolding e e' r r' = one_why_not (job W) e e' r r'
  one_phase ActionCycles e e' r r' = r.1 ∙ ap CycleInActionHierarchy (one_least uids_exact (λ u. ActionDescendsFrom W u u) r.0 r'.0 r.2 r'.2) ∙ sym r'.1
  one_phase UndeclaredTypes e e' r r' = r.2 ∙ same_lists UndeclaredEntityTypes r.0 r'.0 r.1 r'.1 (one_set names_exact (IsUndeclared W) (r.0 ∷ r.1) (r'.0 ∷ r'.1) r.3 r'.3) ∙ sym r'.2

  pub judges_phases : Judges (Passes W) (RefusesAt W)
  judges_phases = record { apart = apart_phase; one = one_phase }

-- no sound world is refused
pub sound_or_refused : (W : World) (e : Refusal) → Sound W → Cause W e → ⊥
unfolding Sound Cause
sound_or_refused W = apart_of_list (judges_phases W) phases

-- a world is refused in one way at most
pub one_cause : (W : World) (e e' : Refusal) → Cause W e → Cause W e' → e ≡ e'
unfolding Cause
one_cause W = one_of_list (judges_phases W) phases
