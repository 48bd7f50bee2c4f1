-- SPDX-License-Identifier: Apache-2.0
-- A job and the one over full names pass and are refused alike.
use Rattle.std.proofs.Common.{◌≡◌, ◌++◌, List, [], ◌∷◌, Some, refl, inl, inr, sym, ap, ◌∙◌, subst}
use Rattle.std.specs.List.{AllZip}
use Rattle.cedar_schema_error.specs.of_closure.Chains.{Reaches, one, more}
use Rattle.cedar_data.specs.Firsts.{IsFirst}
use Rattle.cedar_schema_error.specs.FullNames.{FullName}
use Rattle.cedar_schema_error.specs.Refusals.{Refusal, UsePlace, CommonType, Place, TooDeep, ContextOrShapeNotRecord}
use Rattle.cedar_world.specs.of_unfold.Faults.{faults, attribute_faults, of_target, entity_fault, either_fault, common_fault, open_fault}
use Rattle.cedar_world.specs.of_unfold.Meanings.{Meanings, definition_of, full_meanings, is_common}
use Rattle.cedar_world.specs.of_unfold.Resolved.{Resolved}
use Rattle.cedar_world.specs.of_unfold.UnfoldPhases.{Refers, UnfoldsWithin, UnfoldsPast, UsePasses, UseRefuses, Job, IsCircular, Fits, Unfoldable, WhyNotUnfoldable, UnfoldsAt, IsUnfolded, UnfoldPhase, UnfoldPasses, UnfoldRefuses, unfold_phases, full_job, CommonCycles, CommonFaults, CommonDepths, Uses}
use Rattle.cedar_world.specs.of_unfold.Unfolds.{Unfolds}
use Rattle.cedar_world.specs.of_unfold.Written.{Written, WrittenAttributes, common_references, attribute_common_references}
use Rattle.cedar_world.specs.Qualified.{Qualifies, QualifiesEach, QualifiesAt, QualifiesJob}
use Rattle.cedar_world.specs.Qualified as q
use Rattle.cedar_qualified.proofs.AlikeLists.{AllZip-append, AllZip-flip, all_pass_alike, first_refused_alike, some_passes_alike, turned}
use Rattle.cedar_qualified.proofs.AlikeLookups.{back_by, same_there, there_by}
use Rattle.cedar_qualified.proofs.Bridging.{definitions, unfolds_back}

module _ {N : Type 0} (m : Meanings N) (full : List (FullName × Written FullName)) (commons : AllZip (QualifiesAt m.target) m.common_types full) where
  abbrev m' : Meanings FullName
  m' = full_meanings full m.is_extension

  is_common_there : (name : FullName) → is_common m name ≡ is_common m' name
  is_common_there name = same_there (Qualifies m.target) (definition_of m name) (definition_of m' name) (definitions m full commons name)

  -- the same faults
  mutual
    pub faults_there : {t : Written N} {u : Written FullName} → Qualifies m.target t u → faults m t ≡ faults m' u
    faults_there q.boolean = refl
    faults_there q.long = refl
    faults_there q.string = refl
    faults_there q.extension = refl
    faults_there (q.set f) = faults_there f
    faults_there (q.record_of {is_open = is_open} fs) = ap (λ l. open_fault is_open ++ l) (faults_of_there fs)
    faults_there (q.entity a) = ap (of_target entity_fault) a
    faults_there (q.either {name = name} a) =
        ap (of_target (λ name. either_fault (is_common m name) name)) a ∙ ap (λ b. either_fault b name) (is_common_there name)
    faults_there (q.common {name = name} a) =
        ap (of_target (λ name. common_fault (is_common m name) name)) a ∙ ap (λ b. common_fault b name) (is_common_there name)

    pub faults_of_there : {ts : WrittenAttributes N} {us : WrittenAttributes FullName} → QualifiesEach m.target ts us → attribute_faults m ts ≡ attribute_faults m' us
    faults_of_there q.none = refl
    faults_of_there (q.each {t = t} {us = us} f fs) = ap (λ l. faults m t ++ l) (faults_of_there fs) ∙ ap (λ l. l ++ attribute_faults m' us) (faults_there f)

  -- the same references
  abbrev IsTarget : N → FullName → Type 0
  IsTarget r name = m.target r ≡ Some name

  mutual
    pub references_there : {t : Written N} {u : Written FullName} → Qualifies m.target t u → AllZip IsTarget (common_references t) (common_references u)
    references_there q.boolean = tt
    references_there q.long = tt
    references_there q.string = tt
    references_there q.extension = tt
    references_there (q.set f) = references_there f
    references_there (q.record_of fs) = references_of_there fs
    references_there (q.entity a) = tt
    references_there (q.either a) = (a, tt)
    references_there (q.common a) = (a, tt)

    pub references_of_there : {ts : WrittenAttributes N} {us : WrittenAttributes FullName} → QualifiesEach m.target ts us → AllZip IsTarget (attribute_common_references ts) (attribute_common_references us)
    references_of_there q.none = tt
    references_of_there (q.each {t = t} {u = u} {ts = ts} {us = us} f fs) =
        AllZip-append IsTarget (common_references t) (attribute_common_references ts) (common_references u) (attribute_common_references us) (references_there f) (references_of_there fs)

  pub refers_there : (a b : FullName) → Refers m a b → Refers m' a b
  refers_there a b h =
      let found = there_by (Qualifies m.target) (definition_of m a) (definition_of m' a) h.definition (definitions m full commons a) h.defined in
      record {
        definition = found.0;
        defined = found.1;
        refers = some_passes_alike IsTarget (λ r. m.target r ≡ Some b) (λ n. Some n ≡ Some b) (λ r n t p. sym t ∙ p) (common_references h.definition) (common_references found.0) (references_there found.2) h.refers;
        common = sym (is_common_there b) ∙ h.common;
      }

  pub refers_back : (a b : FullName) → Refers m' a b → Refers m a b
  refers_back a b h =
      let found = back_by (Qualifies m.target) (definition_of m a) (definition_of m' a) h.definition (definitions m full commons a) h.defined in
      record {
        definition = found.0;
        defined = found.1;
        refers = some_passes_alike (λ n r. IsTarget r n) (λ n. Some n ≡ Some b) (λ r. m.target r ≡ Some b) (λ n r t p. t ∙ p) (common_references h.definition) (common_references found.0)
            (AllZip-flip IsTarget (common_references found.0) (common_references h.definition) (references_there found.2)) h.refers;
        common = is_common_there b ∙ h.common;
      }

  pub reaches_there : {a b : FullName} → Reaches (Refers m) a b → Reaches (Refers m') a b
  reaches_there (one h) = one (refers_there _ _ h)
  reaches_there (more h rest) = more (refers_there _ _ h) (reaches_there rest)

  pub reaches_back : {a b : FullName} → Reaches (Refers m') a b → Reaches (Refers m) a b
  reaches_back (one h) = one (refers_back _ _ h)
  reaches_back (more h rest) = more (refers_back _ _ h) (reaches_back rest)

-- meanings of two kinds of references, by which types that are alike have the same faults and unfold alike, and the same common types reach each other
module _ {N M : Type 0} (m : Meanings N) (n : Meanings M) (Alike : Written N → Written M → Type 0)
    (faults_same : (t : Written N) (u : Written M) → Alike t u → faults m t ≡ faults n u)
    (unfolds_same : (t : Written N) (u : Written M) (T : Resolved) → Alike t u → Unfolds m t T → Unfolds n u T)
    (circular_there : (name : FullName) → IsCircular m name → IsCircular n name) (circular_back : (name : FullName) → IsCircular n name → IsCircular m name) where
  abbrev At : {K : Type 0} → K × Written N → K × Written M → Type 0
  At a b = (b.0 ≡ a.0) × Alike a.1 b.1

  faultless_there : (a : FullName × Written N) (b : FullName × Written M) → At a b → faults m a.1 ≡ [] → faults n b.1 ≡ []
  faultless_there a b h e = sym (faults_same a.1 b.1 h.1) ∙ e

  first_there : {K : Type 0} (a : K × Written N) (b : K × Written M) (e : Refusal) → At a b → IsFirst (faults m a.1) e → IsFirst (faults n b.1) e
  first_there a b e h first = (first.0, sym (faults_same a.1 b.1 h.1) ∙ first.1)

  within_there : (a : FullName × Written N) (b : FullName × Written M) → At a b → UnfoldsWithin m a.1 → UnfoldsWithin n b.1
  within_there a b h w = (w.0, unfolds_same a.1 b.1 w.0 h.1 w.1, w.2)

  past_there : (a : FullName × Written N) (b : FullName × Written M) (e : Refusal) → At a b → UnfoldsPast m a.1 × (e ≡ TooDeep (CommonType a.0)) → UnfoldsPast n b.1 × (e ≡ TooDeep (CommonType b.0))
  past_there a b e h w = ((w.0.0, unfolds_same a.1 b.1 w.0.0 h.1 w.0.1, w.0.2), w.1 ∙ ap (λ name. TooDeep (CommonType name)) (sym h.0))

  use_passes_there : (a : UsePlace × Written N) (b : UsePlace × Written M) → At a b → UsePasses m a → UsePasses n b
  use_passes_there a b h p = record {
    faultless = sym (faults_same a.1 b.1 h.1) ∙ p.faultless;
    resolved = p.resolved;
    unfolds = unfolds_same a.1 b.1 p.resolved h.1 p.unfolds;
    within = p.within;
    fits = subst (λ place. Fits place p.resolved) (sym h.0) p.fits;
  }

  use_refuses_there : (a : UsePlace × Written N) (b : UsePlace × Written M) (e : Refusal) → At a b → UseRefuses m a e → UseRefuses n b e
  use_refuses_there a b e h (inl first) = inl (first_there a b e h first)
  use_refuses_there a b e h (inr (inl deep)) =
      inr (inl (sym (faults_same a.1 b.1 h.1) ∙ deep.0, (deep.1.0, unfolds_same a.1 b.1 deep.1.0 h.1 deep.1.1, deep.1.2), deep.2 ∙ ap (λ place. TooDeep (Place place)) (sym h.0)))
  use_refuses_there a b e h (inr (inr other)) =
      inr (inr (
        sym (faults_same a.1 b.1 h.1) ∙ other.0,
        record {
          resolved = other.1.resolved;
          unfolds = unfolds_same a.1 b.1 other.1.resolved h.1 other.1.unfolds;
          within = other.1.within;
          misfit = λ fits. other.1.misfit (subst (λ place. Fits place other.1.resolved) h.0 fits);
        },
        other.2 ∙ ap ContextOrShapeNotRecord (sym h.0),
      ))

  module _ (us : List (UsePlace × Written N)) (vs : List (UsePlace × Written M)) (commons : AllZip At m.common_types n.common_types) (uses : AllZip At us vs) where
    abbrev old : Job N
    old = record { meanings = m; uses = us }

    abbrev new : Job M
    new = record { meanings = n; uses = vs }

    passes_there : (p : UnfoldPhase) → UnfoldPasses old p → UnfoldPasses new p
    passes_there CommonCycles h = λ name c. h name (circular_back name c)
    passes_there CommonFaults h = all_pass_alike At (λ c. faults m c.1 ≡ []) (λ c. faults n c.1 ≡ []) faultless_there m.common_types n.common_types commons h
    passes_there CommonDepths h = all_pass_alike At (λ c. UnfoldsWithin m c.1) (λ c. UnfoldsWithin n c.1) within_there m.common_types n.common_types commons h
    passes_there Uses h = all_pass_alike At (UsePasses m) (UsePasses n) use_passes_there us vs uses h

    refuses_there : (p : UnfoldPhase) (e : Refusal) → UnfoldRefuses old p e → UnfoldRefuses new p e
    refuses_there CommonCycles e h = (h.0, h.1, record { holds = circular_there h.0 h.2.holds; least = λ y c. h.2.least y (circular_back y c) })
    refuses_there CommonFaults e h =
        first_refused_alike At (λ c. faults m c.1 ≡ []) (λ c. faults n c.1 ≡ []) (λ c. IsFirst (faults m c.1)) (λ c. IsFirst (faults n c.1)) faultless_there first_there m.common_types n.common_types e commons h
    refuses_there CommonDepths e h =
        first_refused_alike At (λ c. UnfoldsWithin m c.1) (λ c. UnfoldsWithin n c.1) (λ c e. UnfoldsPast m c.1 × (e ≡ TooDeep (CommonType c.0))) (λ c e. UnfoldsPast n c.1 × (e ≡ TooDeep (CommonType c.0)))
        within_there past_there m.common_types n.common_types e commons h
    refuses_there Uses e h = first_refused_alike At (UsePasses m) (UsePasses n) (UseRefuses m) (UseRefuses n) use_passes_there use_refuses_there us vs e uses h

    same_phases : {P : Type 0} (xs : List P) → AllZip (λ (p r : P). r ≡ p) xs xs
    same_phases [] = tt
    same_phases (x ∷ xs) = (refl, same_phases xs)

    pub unfoldable_there : Unfoldable old → Unfoldable new
    unfolding Unfoldable
    unfoldable_there h =
        all_pass_alike (λ p r. r ≡ p) (UnfoldPasses old) (UnfoldPasses new) (λ p r e h. subst (UnfoldPasses new) (sym e) (passes_there p h)) unfold_phases unfold_phases (same_phases unfold_phases) h

    pub why_not_there : (e : Refusal) → WhyNotUnfoldable old e → WhyNotUnfoldable new e
    unfolding WhyNotUnfoldable
    why_not_there e h =
        first_refused_alike (λ p r. r ≡ p) (UnfoldPasses old) (UnfoldPasses new) (UnfoldRefuses old) (UnfoldRefuses new)
        (λ p r e h. subst (UnfoldPasses new) (sym e) (passes_there p h)) (λ p r e q h. subst (λ x. UnfoldRefuses new x e) (sym q) (refuses_there p e h)) unfold_phases unfold_phases e (same_phases unfold_phases) h

-- where the job over full names can be done, so can the job; and what that is refused for, this is
module _ {N : Type 0} (work : Job N) (full : List (FullName × Written FullName)) (vs : List (UsePlace × Written FullName)) (h : QualifiesJob work full vs) where
  abbrev k : Meanings N
  k = work.meanings

  abbrev k' : Meanings FullName
  k' = full_meanings full work.meanings.is_extension

  abbrev Back : Written FullName → Written N → Type 0
  Back u t = Qualifies k.target t u

  pub unfoldable_back : Unfoldable (full_job full vs work.meanings.is_extension) → Unfoldable work
  unfoldable_back = unfoldable_there k' k Back (λ u t q. sym (faults_there k full h.commons_are q)) (λ u t T q e. unfolds_back k full h.commons_are e t q)
      (λ name. reaches_back k full h.commons_are) (λ name. reaches_there k full h.commons_are) vs work.uses (turned (Qualifies k.target) k.common_types full h.commons_are) (turned (Qualifies k.target) work.uses vs h.uses_are)

  pub cause_back : (e : Refusal) → WhyNotUnfoldable (full_job full vs work.meanings.is_extension) e → WhyNotUnfoldable work e
  cause_back = why_not_there k' k Back (λ u t q. sym (faults_there k full h.commons_are q)) (λ u t T q e. unfolds_back k full h.commons_are e t q)
      (λ name. reaches_back k full h.commons_are) (λ name. reaches_there k full h.commons_are) vs work.uses (turned (Qualifies k.target) k.common_types full h.commons_are) (turned (Qualifies k.target) work.uses vs h.uses_are)

  table_back : {K : Type 0} (ts : List (K × Written N)) (us : List (K × Written FullName)) (made : List (K × Resolved)) → AllZip (QualifiesAt k.target) ts us
      → AllZip (UnfoldsAt (full_job full vs work.meanings.is_extension)) us made → AllZip (UnfoldsAt work) ts made
  table_back [] [] [] a b = tt
  table_back [] [] (x ∷ xs) a b = absurd b
  table_back [] (u ∷ us) made a b = absurd a
  table_back (t ∷ ts) [] made a b = absurd a
  table_back (t ∷ ts) (u ∷ us) [] a b = absurd b
  table_back (t ∷ ts) (u ∷ us) (x ∷ xs) a b = ((b.0.0 ∙ a.0.0, unfolds_back k full h.commons_are b.0.1 t.1 a.0.1), table_back ts us xs a.1 b.1)

  pub unfolded_back : (commons : List (FullName × Resolved)) (uses : List (UsePlace × Resolved)) → IsUnfolded (full_job full vs work.meanings.is_extension) commons uses → IsUnfolded work commons uses
  unfolded_back commons uses u = record { commons_are = table_back k.common_types full commons h.commons_are u.commons_are; uses_are = table_back work.uses vs uses h.uses_are u.uses_are }
