-- SPDX-License-Identifier: Apache-2.0
-- What a full table says of any written type.
use Rattle.std.proofs.Common.{◌≡◌, ℕ, ◌<◌, ◌≤◌, ◌⊎◌, inl, inr, ⊎_elim, Bool, true, false, cond, nat_le, List, [], ◌∷◌, Option, Some, None, get_or, refl, sym, ap, ◌∙◌}
use Rattle.std.proofs.lemmas.Bool.{leb-true}
use Rattle.std.proofs.lemmas.Bool.Decides.{leb_tells}
use Rattle.std.proofs.lemmas.Option.{none-some}
use Rattle.std.specs.List.{AllByRecursion}
use Rattle.std.specs.List.Sorted.{IsStrictlySortedBy}
use Rattle.std.specs.Map.{keys_of}
use Rattle.std.specs.Option.{is_some}
use Rattle.cedar_data.specs.Firsts.{IsFirst}
use Rattle.cedar_names.specs.Order.{words_cmp}
use Rattle.cedar_schema_error.specs.FullNames.{FullName}
use Rattle.cedar_unfolding.specs.Faults.{faults, faults_by}
use Rattle.cedar_unfold.specs.Finished.{finished, within}
use Rattle.cedar_unfold.specs.Following.{first_of}
use Rattle.cedar_unfold.specs.Full.{IsFull}
use Rattle.cedar_unfolding.specs.Meanings.{Meanings, full_meanings, definition_of, is_common}
use Rattle.cedar_unfolding.specs.Resolved.{Resolved, nest, deepest}
use Rattle.cedar_unfold.specs.Tables.{place_of, is_among, is_tabled}
use Rattle.cedar_unfolding.specs.Written.{Written, common_references}
use Rattle.cedar_unfold.proofs.FollowingLemmas.{same_inside}
use Rattle.cedar_unfold.proofs.Keeping.{Finishes, finishes, IsKnown}
use Rattle.cedar_unfold.proofs.Positions.{placed, at_place, value_at, no_definition}

-- the first of a list, where there is one
pub first-is : {A : Type 0} (xs : List A) (x : A) → Some x ≡ first_of xs → IsFirst xs x
first-is [] x e = absurd (none-some x (sym e))
first-is (y ∷ ys) x e = (ys, ap (λ z. z ∷ ys) (sym (same_inside x y e)))

pub first-none : {A : Type 0} (xs : List A) → None ≡ first_of xs → xs ≡ []
first-none [] e = refl
first-none (y ∷ ys) e = absurd (none-some y e)

-- a type that is kept nests no deeper than a type may; one that is not nests deeper
pub within-some : (T U : Resolved) → within T ≡ Some U → (U ≡ T) × (nest T ≤ deepest)
within-some T U is = by_test (nat_le (nest T) deepest) refl is where
  by_test : (b : Bool) → nat_le (nest T) deepest ≡ b → cond b (Some T) None ≡ Some U → (U ≡ T) × (nest T ≤ deepest)
  by_test true e is = (sym (same_inside T U is), leb-true (nest T) deepest e)
  by_test false e is = absurd (none-some U is)

pub within-none : (T : Resolved) → within T ≡ None → deepest < nest T
within-none T is = by_test (nat_le (nest T) deepest) (leb_tells (nest T) deepest) is where
  by_test : (b : Bool) → ((nat_le (nest T) deepest ≡ true) × (nest T ≤ deepest)) ⊎ ((nat_le (nest T) deepest ≡ false) × (deepest < nest T)) → cond (nat_le (nest T) deepest) (Some T) None ≡ None → deepest < nest T
  by_test b tells empty = ⊎_elim (λ low. absurd (none-some T (sym empty ∙ ap (λ c. cond c (Some T) None) low.0))) (λ high. high.1) tells

from_each : {X : Type 0} (P : X → Type 0) (xs : List X) → ((x : X) → P x) → AllByRecursion P xs
from_each P [] each = tt
from_each P (x ∷ xs) each = (each x, from_each P xs each)

module _ (definitions : List (FullName × Written FullName)) (is_extension : List ℕ → Bool) where
  abbrev m : Meanings FullName
  m = full_meanings definitions is_extension

  -- with a full table, what is found of a type without faults is what it unfolds to
  pub finishes_full : {table : FullName → Option (Option Resolved)} → IsFull m table → (t : Written FullName) → faults m t ≡ [] → Finishes m t (finished table t)
  finishes_full {table} full t faultless = finishes definitions is_extension table t faultless (from_each (IsKnown definitions is_extension table) (common_references t) (λ n. known n (definition_of m n) refl)) where
    known : (n : FullName) (o : Option (Written FullName)) → definition_of m n ≡ o → IsKnown definitions is_extension table n
    known n None undefined = inr (undefined, full.missing n undefined)
    known n (Some u) defined = inl (full.done n u defined)

  -- a full table has the common types, and the faults by its names are those by their definitions
  module _ {table : FullName → Option (Option Resolved)} (full : IsFull m table) where
    tabled-common : (n : FullName) → is_tabled table n ≡ is_common m n
    tabled-common n = by_definition (definition_of m n) refl where
      by_definition : (o : Option (Written FullName)) → definition_of m n ≡ o → is_tabled table n ≡ is_common m n
      by_definition (Some u) defined = ap is_some (full.done n u defined).is ∙ sym (ap is_some defined)
      by_definition None undefined = ap is_some (full.missing n undefined) ∙ sym (ap is_some undefined)

    pub faults-full : (t : Written FullName) → faults_by Some (is_tabled table) is_extension t ≡ faults m t
    faults-full t = λ i. faults_by Some (λ n. tabled-common n i) is_extension t

  module _ (sorted : IsStrictlySortedBy words_cmp (keys_of definitions)) where
    among-common : (n : FullName) → is_among (keys_of definitions) n ≡ is_common m n
    among-common n = by_definition (definition_of m n) refl where
      by_definition : (o : Option (Written FullName)) → definition_of m n ≡ o → is_among (keys_of definitions) n ≡ is_common m n
      by_definition (Some u) defined = ap is_some (placed definitions n u defined) ∙ sym (ap is_some defined)
      by_definition None undefined = by_place (place_of (keys_of definitions) n) refl ∙ sym (ap is_some undefined) where
        by_place : (p : Option ℕ) → place_of (keys_of definitions) n ≡ p → is_some p ≡ false
        by_place None is = refl
        by_place (Some j) is =
            let (below, same) = at_place definitions n j is in
            absurd (none-some (get_or definitions j no_definition).1 (sym undefined ∙ ap (definition_of m) same ∙ value_at definitions sorted j below))

    -- the names of the common types tell what their definitions do
    pub known-same : is_among (keys_of definitions) ≡ is_common m
    known-same = λ i n. among-common n i
