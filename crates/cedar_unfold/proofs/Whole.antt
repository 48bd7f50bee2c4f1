-- SPDX-License-Identifier: Apache-2.0
-- From what loops answer to what the phases on common types ask and refuse.
use Rattle.std.proofs.Common.{◌≡◌, ℕ, ◌≤◌, inl, inr, ⊎_elim, Bool, List, [], ◌∷◌, ◌++◌, Option, Some, None, Contains, refl, sym, ap, ◌∙◌, subst, arith}
use Rattle.std.proofs.lemmas.Cmp.{eq_by_cmp_equiv}
use Rattle.std.proofs.lemmas.List.Elements.{Contains-append_right}
use Rattle.std.proofs.lemmas.Map.Keys.{IsDistinct-from_sorted}
use Rattle.std.proofs.lemmas.Map.Views.{lookup-from_Contains}
use Rattle.std.proofs.lemmas.Option.{none-some}
use Rattle.std.specs.List.{AllZip, flat_map}
use Rattle.std.specs.List.Sorted.{IsStrictlySortedBy}
use Rattle.std.specs.Map.{keys_of}
use Rattle.cedar_data.specs.Firsts.{AllPass, FirstRefused, IsFirst}
use Rattle.cedar_names.specs.Order.{words_cmp}
use Rattle.cedar_schema_error.specs.FullNames.{FullName}
use Rattle.cedar_schema_error.specs.Refusals.{Refusal, TooDeep, CommonType}
use Rattle.cedar_unfolding.specs.Faults.{faults}
use Rattle.cedar_unfold.specs.Finished.{within, common_of}
use Rattle.cedar_unfold.specs.Following.{first_of}
use Rattle.cedar_unfold.specs.Full.{IsFull}
use Rattle.cedar_unfolding.specs.Meanings.{Meanings, full_meanings, definition_of}
use Rattle.cedar_unfold.specs.Passing.{HasType, HasSome, LacksType}
use Rattle.cedar_unfolding.specs.Resolved.{Resolved, nest, deepest}
use Rattle.cedar_unfolding.specs.UnfoldPhases.{UnfoldsWithin, UnfoldsPast}
use Rattle.cedar_unfolding.specs.Unfolds.{Unfolds}
use Rattle.cedar_unfolding.specs.Written.{Written}
use Rattle.cedar_unfold.proofs.FollowingLemmas.{same_inside}
use Rattle.cedar_unfold.proofs.Positions.{names_total}
use Rattle.cedar_unfold.proofs.Ready.{within-some, within-none}

module _ (m : Meanings FullName) where
  abbrev all_faults : List (FullName × Written FullName) → List Refusal
  all_faults cs = flat_map (λ c. faults m c.1) cs

  -- the first fault of all is that of the first definition that has one
  pub first-refused : (cs : List (FullName × Written FullName)) (r : Refusal) → Some r ≡ first_of (all_faults cs) → FirstRefused (λ c. faults m c.1 ≡ []) (λ c. IsFirst (faults m c.1)) cs r
  first-refused [] r e = absurd (none-some r (sym e))
  first-refused (c ∷ cs) r e = by (faults m c.1) refl e (first-refused cs r) where
    by : (fs : List Refusal) → faults m c.1 ≡ fs → Some r ≡ first_of (fs ++ all_faults cs) → (Some r ≡ first_of (all_faults cs) → FirstRefused (λ c. faults m c.1 ≡ []) (λ c. IsFirst (faults m c.1)) cs r)
        → FirstRefused (λ c. faults m c.1 ≡ []) (λ c. IsFirst (faults m c.1)) (c ∷ cs) r
    by [] is e rest = inr (is, rest e)
    by (f ∷ fs) is e rest = inl (fs, is ∙ ap (λ x. x ∷ fs) (sym (same_inside r f e)))

  -- no fault of all is none of each
  pub none-refused : (cs : List (FullName × Written FullName)) → None ≡ first_of (all_faults cs) → AllPass (λ c. faults m c.1 ≡ []) cs
  none-refused [] e = tt
  none-refused (c ∷ cs) e = by (faults m c.1) refl e (none-refused cs) where
    by : (fs : List Refusal) → faults m c.1 ≡ fs → None ≡ first_of (fs ++ all_faults cs) → (None ≡ first_of (all_faults cs) → AllPass (λ c. faults m c.1 ≡ []) cs) → AllPass (λ c. faults m c.1 ≡ []) (c ∷ cs)
    by [] is e rest = (is, rest e)
    by (f ∷ fs) is e rest = absurd (none-some f e)

  -- under its name, a definition and what it unfolds to, which nests no deeper than a type may
  abbrev pub GivesCommon : FullName × Written FullName → FullName × Resolved → Type 0
  GivesCommon c made = (made.0 ≡ c.0) × Unfolds m c.1 made.1 × (nest made.1 ≤ deepest)

  module _ {table : FullName → Option (Option Resolved)} (full : IsFull m table) where
    -- what the table has of a definition
    unfolds_to : (name : FullName) (t : Written FullName) → definition_of m name ≡ Some t → (T : Resolved) × Unfolds m t T × (common_of (table name) ≡ within T)
    unfolds_to name t defined =
        let done = full.done name t defined in
        (done.ty, subst (λ t. Unfolds m t done.ty) (same_inside done.definition t (sym done.defined ∙ defined)) done.unfolds, ap common_of done.is)

    abbrev pub AreOwn : List (FullName × Written FullName) → Type 0
    AreOwn cs = (c : FullName × Written FullName) → Contains cs c → definition_of m c.0 ≡ Some c.1

    own_rest : (c : FullName × Written FullName) (cs : List (FullName × Written FullName)) → AreOwn (c ∷ cs) → AreOwn cs
    own_rest c cs own d h = own d (Contains-append_right (c ∷ []) cs d h)

    pub gives-commons : (cs : List (FullName × Written FullName)) (made : List (FullName × Resolved)) → AreOwn cs → AllZip (HasType table) (keys_of cs) made → AllZip GivesCommon cs made
    gives-commons [] [] own z = tt
    gives-commons [] (y ∷ ys) own z = absurd z
    gives-commons (c ∷ cs) [] own z = absurd z
    gives-commons (c ∷ cs) (y ∷ ys) own z =
        let (T, unfolds, is) = unfolds_to c.0 c.1 (own c (0, omega arith, refl)) in
        let (same, low) = within-some T y.1 (sym is ∙ z.0.1) in
        ((z.0.0, subst (Unfolds m c.1) (sym same) unfolds, subst (λ U. nest U ≤ deepest) (sym same) low), gives-commons cs ys (own_rest c cs own) z.1)

    pub first-deep : (cs : List (FullName × Written FullName)) (e : Refusal) → AreOwn cs → FirstRefused (HasSome table) (LacksType table) (keys_of cs) e
        → FirstRefused (λ c. UnfoldsWithin m c.1) (λ c e. UnfoldsPast m c.1 × (e ≡ TooDeep (CommonType c.0))) cs e
    first-deep [] e own r = absurd r
    first-deep (c ∷ cs) e own r =
        let (T, unfolds, is) = unfolds_to c.0 c.1 (own c (0, omega arith, refl)) in
        ⊎_elim
        (λ deep. inl ((T, unfolds, within-none T (sym is ∙ deep.0)), deep.1))
        (λ later.
        let (same, low) = within-some T later.0.0 (sym is ∙ later.0.1) in
        inr ((T, unfolds, low), first-deep cs e (own_rest c cs own) later.1))
        r

-- each definition is that of its name
pub own-definitions : (definitions : List (FullName × Written FullName)) (is_extension : List ℕ → Bool) → IsStrictlySortedBy words_cmp (keys_of definitions) → (c : FullName × Written FullName) → Contains definitions c → definition_of (full_meanings definitions is_extension) c.0 ≡ Some c.1
own-definitions definitions is_extension sorted c h = lookup-from_Contains (eq_by_cmp_equiv names_total) c.0 c.1 definitions (IsDistinct-from_sorted words_cmp (keys_of definitions) sorted) h
