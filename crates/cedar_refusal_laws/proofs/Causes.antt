-- SPDX-License-Identifier: Apache-2.0
-- A test of refusals that nothing passes with which a phase refuses a world: no cause of the world passes it.
use Rattle.std.proofs.Common.{◌≡◌, ◌||◌, Bool, false, IsTrue, List, [], ◌∷◌, inl, inr, ap, ◌∙◌}
use Rattle.std.specs.Ordering.{is_eq}
use Rattle.cedar_data.specs.Firsts.{AllPass, FirstAgain, IsFirst}
use Rattle.cedar_data.specs.Sets.{contains}
use Rattle.cedar_names.specs.Order.{words_cmp}
use Rattle.cedar_sound.proofs.NameOrders.{names_exact}
use Rattle.cedar_sound.proofs.SortedMaps.{itself}
use Rattle.cedar_sound.specs.References.{MissingActions, MissingTypes, ReferencePhase, ReferencesPass, ReferencesRefuse, ReservedTargets, reference_phases}
use Rattle.cedar_sound.specs.Sound.{ActionCycles, Cause, Duplicates, Passes, Phase, References, RefusesAt, Shadowing, UndeclaredTypes, Unfolding, all_declared, phases}
use Rattle.cedar_sound.specs.of_duplicates.Duplicates.{Declared, duplicate, same_declared}
use Rattle.cedar_sound.specs.of_shadowing.Shadowing.{ActionShadows, ShadowPasses, ShadowPhase, ShadowRefuses, TypeShadows, shadow_phases}
use Rattle.cedar_schema_error.specs.FullNames.{FullName, Uid}
use Rattle.cedar_schema_error.specs.NameReferences.{ActionReference, NameReference}
use Rattle.cedar_schema_error.specs.Refusals.{ActionNotDefined, ActionShadowing, ContextOrShapeNotRecord, CycleInActionHierarchy, CycleInCommonTypeReferences, DeepPlace, Place, Refusal, ReservedName, TooDeep, TypeNotDefined, TypeShadowing, UndeclaredEntityTypes, UsePlace}
use Rattle.cedar_schema_error.specs.Refusals as place
use Rattle.cedar_world.specs.of_unfold.Faults.{faults}
use Rattle.cedar_world.specs.of_unfold.UnfoldPhases.{CommonCycles, CommonDepths, CommonFaults, UnfoldPasses, UnfoldPhase, UnfoldRefuses, Uses, UsePasses, UseRefuses, UnfoldsPast, UnfoldsWithin, WhyNotUnfoldable, unfold_phases}
use Rattle.cedar_world.specs.of_unfold.Written.{Written}
use Rattle.cedar_world.specs.Missing.{reserved_targets}
use Rattle.cedar_world.specs.Undeclared.{IsUndeclared}
use Rattle.cedar_world.specs.Worlds.{World, all_namespaces, common_types, job, meanings, names, own, uses}
use Rattle.cedar_refusal_laws.proofs.Members.{of_first, of_first_refused, pass_each_item}

-- the refusal fails the test
abbrev pub Fails : (Refusal → Bool) → Refusal → Type 0
Fails test e = test e ≡ false

-- what is said of the test, whatever the world: refusals of phases that fail it
pub record SparesPhases (test : Refusal → Bool) : Type 0 where
  pub type_shadows : (a b : FullName) → test (TypeShadowing a b) ≡ false
  pub action_shadows : (a b : Uid) → test (ActionShadowing a b) ≡ false
  pub no_type : (r : NameReference) (rs : List NameReference) → test (TypeNotDefined r rs) ≡ false
  pub no_action : (r : ActionReference) (rs : List ActionReference) → test (ActionNotDefined r rs) ≡ false
  pub circular_type : (name : FullName) → test (CycleInCommonTypeReferences name) ≡ false
  pub too_deep : (place : DeepPlace) → test (TooDeep place) ≡ false
  pub no_record : (place : UsePlace) → test (ContextOrShapeNotRecord place) ≡ false
  pub circular_action : (uid : Uid) → test (CycleInActionHierarchy uid) ≡ false

module _ (W : World) (test : Refusal → Bool) where
  -- and in this world: refusals for targets with `__cedar`, for what stands twice, for faults of types, and for what is undeclared
  pub record SparesWorld : Type 0 where
    pub reserved : (name : FullName) → IsFirst (reserved_targets (names W) (all_namespaces W)) name → test (ReservedName name) ≡ false
    pub twice : (d : Declared) → FirstAgain same_declared [] (all_declared (all_namespaces W)) d → test (duplicate d) ≡ false
    pub common_faults : AllPass (λ c. AllPass (Fails test) (faults (meanings W) c.1)) (common_types W)
    pub use_faults : AllPass (λ u. AllPass (Fails test) (faults (meanings W) u.1)) (uses W)
    pub undeclared : (name : FullName) (others : List FullName) → IsUndeclared W name → test (UndeclaredEntityTypes name others) ≡ false

-- the first name of a list is in it
first_in : (n : FullName) (ns : List FullName) → IsTrue (contains words_cmp (n ∷ ns) n)
first_in n ns = ap (λ o. is_eq o || contains words_cmp ns n) (itself names_exact.total n)

module _ (W : World) (test : Refusal → Bool) (always : SparesPhases test) (here : SparesWorld W test) where
  shadow_fails : (p : ShadowPhase) (e : Refusal) → ShadowRefuses (own W) p e → Fails test e
  shadow_fails TypeShadows e r = ap test r.2 ∙ always.type_shadows r.0 r.1
  shadow_fails ActionShadows e r = ap test r.2 ∙ always.action_shadows r.0 r.1

  reference_fails : (p : ReferencePhase) (e : Refusal) → ReferencesRefuse (names W) (all_namespaces W) p e → Fails test e
  reference_fails MissingTypes e r = ap test r.2 ∙ always.no_type r.0 r.1
  reference_fails MissingActions e r = ap test r.2 ∙ always.no_action r.0 r.1
  reference_fails ReservedTargets e r = ap test r.1 ∙ here.reserved r.0 r.2

  use_fails : (u : UsePlace × Written NameReference) (e : Refusal) → AllPass (Fails test) (faults (meanings W) u.1) → UseRefuses (meanings W) u e → Fails test e
  use_fails u e h r = elim r [
    | inl fault ↦ of_first (Fails test) (faults (meanings W) u.1) e h fault
    | inr later ↦ elim later [ inl deep ↦ ap test deep.2 ∙ always.too_deep (Place u.0) | inr misfit ↦ ap test misfit.2 ∙ always.no_record u.0 ]
  ]

  unfold_fails : (p : UnfoldPhase) (e : Refusal) → UnfoldRefuses (job W) p e → Fails test e
  unfold_fails CommonCycles e r = ap test r.1 ∙ always.circular_type r.0
  unfold_fails CommonFaults e r = of_first_refused (λ c. faults (meanings W) c.1 ≡ []) (λ c. AllPass (Fails test) (faults (meanings W) c.1)) (λ c. IsFirst (faults (meanings W) c.1)) (Fails test)
      (λ c e h first. of_first (Fails test) (faults (meanings W) c.1) e h first) (common_types W) e here.common_faults r
  unfold_fails CommonDepths e r = of_first_refused (λ c. UnfoldsWithin (meanings W) c.1) (λ c. Unit {0}) (λ c e. UnfoldsPast (meanings W) c.1 × (e ≡ TooDeep (place.CommonType c.0))) (Fails test)
      (λ c e u past. ap test past.1 ∙ always.too_deep (place.CommonType c.0)) (common_types W) e (pass_each_item (λ c. Unit {0}) (λ c. tt) (common_types W)) r
  unfold_fails Uses e r = of_first_refused (UsePasses (meanings W)) (λ u. AllPass (Fails test) (faults (meanings W) u.1)) (UseRefuses (meanings W)) (Fails test) use_fails (uses W) e here.use_faults r

  unfolding_fails : (e : Refusal) → WhyNotUnfoldable (job W) e → Fails test e
  unfolding WhyNotUnfoldable
  unfolding_fails e r = of_first_refused (UnfoldPasses (job W)) (λ p. Unit {0}) (UnfoldRefuses (job W)) (Fails test) (λ p e u. unfold_fails p e) unfold_phases e (tt, (tt, (tt, (tt, tt)))) r

  phase_fails : (p : Phase) (e : Refusal) → RefusesAt W p e → Fails test e
  phase_fails Shadowing e r = of_first_refused (ShadowPasses (own W)) (λ p. Unit {0}) (ShadowRefuses (own W)) (Fails test) (λ p e u. shadow_fails p e) shadow_phases e (tt, (tt, tt)) r
  phase_fails References e r = of_first_refused (ReferencesPass (names W) (all_namespaces W)) (λ p. Unit {0}) (ReferencesRefuse (names W) (all_namespaces W)) (Fails test) (λ p e u. reference_fails p e) reference_phases e (tt, (tt, (tt, tt))) r
  phase_fails Duplicates e r = ap test r.1 ∙ here.twice r.0 r.2
  phase_fails Unfolding e r = unfolding_fails e r
  phase_fails ActionCycles e r = ap test r.1 ∙ always.circular_action r.0
  phase_fails UndeclaredTypes e r = ap test r.2 ∙ here.undeclared r.0 r.1 ((r.3.members r.0).0 (first_in r.0 r.1))

  -- no cause passes the test
  pub cause_fails : (e : Refusal) → Cause W e → test e ≡ false
  unfolding Cause
  cause_fails e r = of_first_refused (Passes W) (λ p. Unit {0}) (RefusesAt W) (Fails test) (λ p e u. phase_fails p e) phases e (tt, (tt, (tt, (tt, (tt, (tt, tt)))))) r
