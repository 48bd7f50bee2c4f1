-- SPDX-License-Identifier: Apache-2.0
-- A job whose references have targets can be done, or is refused.
use Rattle.std.proofs.Common.{◌≡◌, ◌⊎◌, ◌≤◌, ◌<◌, inl, inr, Bool, true, false, cond, IsTrue, List, [], ◌∷◌, Option, Some, None, refl, ap, ◌∙◌, subst}
use Rattle.std.proofs.lemmas.Bool.{cases_lt}
use Rattle.std.specs.BTreeMap.{is_at}
use Rattle.std.specs.Map.{keys_of}
use Rattle.std.specs.Option.{is_some}
use Rattle.std.specs.declared.cmp.Ordering.{Ordering}
use Rattle.cedar_closure.specs.Chains.{Reaches, one, more}
use Rattle.cedar_data.proofs.Exact.{IsExact}
use Rattle.cedar_data.specs.Firsts.{AllPass, IsFirst, IsLeast, SomePasses}
use Rattle.cedar_data.specs.Maps.{IsSortedMap, get}
use Rattle.cedar_names.specs.Order.{words_cmp}
use Rattle.cedar_schema_error.specs.FullNames.{FullName}
use Rattle.cedar_schema_error.specs.Refusals.{CommonType, Context, ContextOrShapeNotRecord, CycleInCommonTypeReferences, Place, Refusal, Shape, Tags, TooDeep, UsePlace}
use Rattle.cedar_unfold.specs.Faults.{faults}
use Rattle.cedar_unfold.specs.Meanings.{Meanings, is_common}
use Rattle.cedar_unfold.specs.Resolved.{Resolved, deepest, is_record, nest}
use Rattle.cedar_unfold.specs.UnfoldPhases.{CommonCycles, CommonDepths, CommonFaults, Fits, IsCircular, Job, Refers, Unfoldable, UnfoldPasses, UnfoldRefuses, UnfoldsPast, UnfoldsWithin, UsePasses, UseRefuses, Uses, WhyNotUnfoldable}
use Rattle.cedar_unfold.specs.Unfolds.{Unfolds}
use Rattle.cedar_unfold.specs.Written.{Written, common_references, references}
use Rattle.cedar_unfold.proofs.Filling.{found-passes}
use Rattle.cedar_unfold_laws.specs.Reached.{DoesUnfold, IsFlawless}
use Rattle.cedar_unfold_laws.proofs.Walking.{without_cycle}
use Rattle.cedar_sound.proofs.Chains.{Among, at-same}
use Rattle.cedar_sound.proofs.Descendants.{below, below-set}
use Rattle.cedar_decided_laws.proofs.Deciding.{Decided, decided_in, decided_true}
use Rattle.cedar_decided_laws.proofs.Least.{none_or_least}
use Rattle.cedar_decided_laws.proofs.Lists.{Judged, all_judged, each_item, empty_or_not, first_judged, from_some, some_weaker}

-- an item that is found is among the keys
pub found_key : {A D : Type 0} {cmp : A → A → Ordering} → IsExact cmp → (a : A) (d : D) (es : List (A × D)) → get cmp es a ≡ Some d → Among (keys_of es) a
found_key order a d [] is = absurd (cc)
found_key {A} {D} {cmp} order a d (e ∷ es) is = by (is_at (cmp a) e.0) refl is (found_key order a d es)
  where
    by : (b : Bool) → is_at (cmp a) e.0 ≡ b → cond b (Some e.1) (get cmp es a) ≡ Some d → (get cmp es a ≡ Some d → Among (keys_of es) a) → Among (keys_of (e ∷ es)) a
    by true at found later = inl (at-same order a e.0 at)
    by false at found later = inr (later found)

module _ (order : IsExact words_cmp) {N : Type 0} (m : Meanings N) (sorted : IsSortedMap words_cmp m.common_types) where
  -- ---- common types that reach themselves

  -- the target of a reference, where it is a common type
  abbrev common_of : Option FullName → Option FullName
  common_of None = None
  common_of (Some name) = cond (is_common m name) (Some name) None

  of_common : (o : Option FullName) (name : FullName) → common_of o ≡ Some name → (o ≡ Some name) × IsTrue (is_common m name)
  of_common None name e = absurd (cc)
  of_common (Some n) name e = by (is_common m n) refl e
    where
      by : (b : Bool) → is_common m n ≡ b → cond b (Some n) None ≡ Some name → (Some n ≡ Some name) × IsTrue (is_common m name)
      by true is same = let one : n ≡ name = cc in (same, subst (λ x. is_common m x ≡ true) one is)
      by false is same = absurd (cc)

  parts : (a b : FullName) → Refers m a b → (d : Written N) × (get words_cmp m.common_types a ≡ Some d) × SomePasses (λ r. common_of (m.target r) ≡ Some b) (common_references d)
  parts a b refers = (
    refers.definition,
    refers.defined,
    some_weaker (λ r. m.target r ≡ Some b) (λ r. common_of (m.target r) ≡ Some b) (λ r is. ap common_of is ∙ ap (λ t. cond t (Some b) None) refers.common) (common_references refers.definition) refers.refers,
  )

  made : (a b : FullName) (d : Written N) → get words_cmp m.common_types a ≡ Some d → SomePasses (λ r. common_of (m.target r) ≡ Some b) (common_references d) → Refers m a b
  made a b d defined some = record {
    definition = d;
    defined = defined;
    refers = some_weaker (λ r. common_of (m.target r) ≡ Some b) (λ r. m.target r ≡ Some b) (λ r is. (of_common (m.target r) b is).0) (common_references d) some;
    common = from_some (λ r. common_of (m.target r) ≡ Some b) (IsTrue (is_common m b)) (λ r is. (of_common (m.target r) b is).1) (common_references d) some;
  }

  circular_decided : (name : FullName) → Decided (IsCircular m name)
  circular_decided name = decided_in {cmp = words_cmp} (λ low. Reaches (Refers m) low name) (below order m.common_types common_references (λ r. common_of (m.target r)) (Refers m) parts made name)
      (below-set order m.common_types common_references (λ r. common_of (m.target r)) (Refers m) parts made sorted name) name

  source : {a b : FullName} → Reaches (Refers m) a b → Among (keys_of m.common_types) a
  source {a} (one s) = found_key order a s.definition m.common_types s.defined
  source {a} (more s r) = found_key order a s.definition m.common_types s.defined

  abbrev NoCycle : Type 0
  NoCycle = (name : FullName) → IsCircular m name → ⊥

  cycle_or_none : NoCycle ⊎ ((name : FullName) × IsLeast words_cmp (IsCircular m) name)
  cycle_or_none = none_or_least order (IsCircular m) circular_decided (keys_of m.common_types) (λ name r. source r)

  -- ---- what unfolds

  -- each reference of the type has a target
  abbrev pub IsTargeted : Written N → Type 0
  IsTargeted t = AllPass (λ r. IsTrue (is_some (m.target r))) (references t)

  -- a common type unfolds within what a type may nest, or deeper
  abbrev pub IsWithin : FullName × Written N → Type 0
  IsWithin c = UnfoldsWithin m c.1

  abbrev pub IsTooDeep : FullName × Written N → Refusal → Type 0
  IsTooDeep c e = UnfoldsPast m c.1 × (e ≡ TooDeep (CommonType c.0))

  module _ (targeted : AllPass (λ c. IsTargeted c.1) m.common_types) (acyclic : NoCycle) (faultless : AllPass (λ c. faults m c.1 ≡ []) m.common_types) where
    flawless : AllPass (λ c. IsFlawless m c.1) m.common_types
    flawless = by m.common_types targeted faultless
      where
        by : (cs : List (FullName × Written N)) → AllPass (λ c. IsTargeted c.1) cs → AllPass (λ c. faults m c.1 ≡ []) cs → AllPass (λ c. IsFlawless m c.1) cs
        by [] t f = tt
        by (c ∷ cs) t f = (record { targeted = t.0; faultless = f.0 }, by cs t.1 f.1)

    unfolds : (t : Written N) → IsFlawless m t → DoesUnfold m t
    unfolds t is = without_cycle m t (λ name r. acyclic name) is (λ name d r defined. found-passes (IsFlawless m) (is_at (words_cmp name)) m.common_types d flawless defined)

    depth_judged : (c : FullName × Written N) → DoesUnfold m c.1 → Judged IsWithin IsTooDeep c
    depth_judged c does = by (cases_lt deepest (nest does.0))
      where
        by : (deepest < nest does.0) ⊎ (nest does.0 ≤ deepest) → Judged IsWithin IsTooDeep c
        by (inl past) = inr (TooDeep (CommonType c.0), ((does.0, does.1, past), refl))
        by (inr within) = inl (does.0, does.1, within)

    depths_judged : (cs : List (FullName × Written N)) → AllPass (λ c. IsFlawless m c.1) cs → AllPass (Judged IsWithin IsTooDeep) cs
    depths_judged [] all = tt
    depths_judged (c ∷ cs) all = (depth_judged c (unfolds c.1 all.0), depths_judged cs all.1)

    fits_decided : (place : UsePlace) (T : Resolved) → Decided (Fits place T)
    fits_decided (Shape name) T = decided_true (is_record T)
    fits_decided (Tags name) T = inl tt
    fits_decided (Context uid) T = decided_true (is_record T)

    module _ (u : UsePlace × Written N) (none : faults m u.1 ≡ []) where
      fit_judged : (T : Resolved) → Unfolds m u.1 T → nest T ≤ deepest → Decided (Fits u.0 T) → Judged (UsePasses m) (UseRefuses m) u
      fit_judged T does within (inl fits) = inl (record { faultless = none; resolved = T; unfolds = does; within = within; fits = fits })
      fit_judged T does within (inr misfit) = inr (ContextOrShapeNotRecord u.0, inr (inr (none, record { resolved = T; unfolds = does; within = within; misfit = misfit }, refl)))

      nest_judged : (T : Resolved) → Unfolds m u.1 T → (deepest < nest T) ⊎ (nest T ≤ deepest) → Judged (UsePasses m) (UseRefuses m) u
      nest_judged T does (inl past) = inr (TooDeep (Place u.0), inr (inl (none, (T, does, past), refl)))
      nest_judged T does (inr within) = fit_judged T does within (fits_decided u.0 T)

    use_judged : (u : UsePlace × Written N) → IsTargeted u.1 → (faults m u.1 ≡ []) ⊎ ((e : Refusal) × IsFirst (faults m u.1) e) → Judged (UsePasses m) (UseRefuses m) u
    use_judged u t (inl none) =
        let does = unfolds u.1 (record { targeted = t; faultless = none }) in
        nest_judged u none does.0 does.1 (cases_lt deepest (nest does.0))
    use_judged u t (inr first) = inr (first.0, inl first.1)

    uses_judged : (us : List (UsePlace × Written N)) → AllPass (λ u. IsTargeted u.1) us → AllPass (Judged (UsePasses m) (UseRefuses m)) us
    uses_judged [] all = tt
    uses_judged (u ∷ us) all = (use_judged u all.0 (empty_or_not (faults m u.1)), uses_judged us all.1)

module _ (order : IsExact words_cmp) {N : Type 0} (work : Job N) (sorted : IsSortedMap words_cmp work.meanings.common_types)
    (commons : AllPass (λ c. AllPass (λ r. IsTrue (is_some (work.meanings.target r))) (references c.1)) work.meanings.common_types)
    (uses : AllPass (λ u. AllPass (λ r. IsTrue (is_some (work.meanings.target r))) (references u.1)) work.uses) where
  cycles_judged : Judged (UnfoldPasses work) (UnfoldRefuses work) CommonCycles
  cycles_judged = by (cycle_or_none order work.meanings sorted)
    where
      by : NoCycle order work.meanings sorted ⊎ ((name : FullName) × IsLeast words_cmp (IsCircular work.meanings) name) → Judged (UnfoldPasses work) (UnfoldRefuses work) CommonCycles
      by (inl none) = inl none
      by (inr least) = inr (CycleInCommonTypeReferences least.0, (least.0, refl, least.1))

  -- the definition of a common type has no fault, or a first
  abbrev IsFaultless : FullName × Written N → Type 0
  IsFaultless c = faults work.meanings c.1 ≡ []

  abbrev IsFirstFault : FullName × Written N → Refusal → Type 0
  IsFirstFault c = IsFirst (faults work.meanings c.1)

  fault_judged : (c : FullName × Written N) → Judged IsFaultless IsFirstFault c
  fault_judged c = empty_or_not (faults work.meanings c.1)

  faults_judged : Judged (UnfoldPasses work) (UnfoldRefuses work) CommonFaults
  faults_judged = all_judged IsFaultless IsFirstFault work.meanings.common_types (each_item (Judged IsFaultless IsFirstFault) fault_judged work.meanings.common_types)

  module _ (acyclic : UnfoldPasses work CommonCycles) (faultless : UnfoldPasses work CommonFaults) where
    within_judged : Judged (UnfoldPasses work) (UnfoldRefuses work) CommonDepths
    within_judged = all_judged (IsWithin order work.meanings sorted) (IsTooDeep order work.meanings sorted) work.meanings.common_types
        (depths_judged order work.meanings sorted commons acyclic faultless work.meanings.common_types (flawless order work.meanings sorted commons acyclic faultless))

    all_uses_judged : Judged (UnfoldPasses work) (UnfoldRefuses work) Uses
    all_uses_judged = all_judged (UsePasses work.meanings) (UseRefuses work.meanings) work.uses
        (uses_judged order work.meanings sorted commons acyclic faultless work.uses uses)

  -- the job can be done, or is refused
  pub job_judged : Unfoldable work ⊎ ((e : Refusal) × WhyNotUnfoldable work e)
  unfolding Unfoldable WhyNotUnfoldable
  job_judged =
      first_judged (UnfoldPasses work) (UnfoldRefuses work) CommonCycles (CommonFaults ∷ CommonDepths ∷ Uses ∷ []) cycles_judged
      (λ acyclic. first_judged (UnfoldPasses work) (UnfoldRefuses work) CommonFaults (CommonDepths ∷ Uses ∷ []) faults_judged
      (λ faultless. first_judged (UnfoldPasses work) (UnfoldRefuses work) CommonDepths (Uses ∷ []) (within_judged acyclic faultless)
      (λ within. first_judged (UnfoldPasses work) (UnfoldRefuses work) Uses [] (all_uses_judged acyclic faultless) (λ used. inl tt))))
