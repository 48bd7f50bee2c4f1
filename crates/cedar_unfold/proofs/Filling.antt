-- SPDX-License-Identifier: Apache-2.0
-- A loop that finishes the common types in order.
use Rattle.std.proofs.Common.{◌≡◌, ℕ, ◌+◌, ◌<◌, ◌≤◌, inl, inr, Bool, true, false, cond, List, [], ◌∷◌, Option, Some, None, length, take, get_or, Contains, ⊎_elim, refl, sym, ap, ◌∙◌, subst, arith}
use Rattle.std.proofs.lemmas.List.{take_more, take_all}
use Rattle.std.proofs.lemmas.List.Elements.{Contains-push_cases, Contains-append_right}
use Rattle.std.proofs.lemmas.Option.{none-some}
use Rattle.std.specs.BTreeMap.{is_at}
use Rattle.std.specs.List.{AllByRecursion, position_or_len}
use Rattle.std.specs.List.Sorted.{IsStrictlySortedBy}
use Rattle.std.specs.Map.{keys_of, lookup}
use Rattle.cedar_types.specs.of_closure.Marks.{Leads}
use Rattle.cedar_data.specs.Firsts.{AllPass}
use Rattle.cedar_names.specs.Order.{words_cmp}
use Rattle.cedar_schema_error.specs.FullNames.{FullName}
use Rattle.cedar_sorting.specs.Orders.{IsOrder}
use Rattle.cedar_unfolding.specs.Faults.{faults}
use Rattle.cedar_unfold.specs.Finished.{finished}
use Rattle.cedar_unfold.specs.Full.{AreFaultless, IsDone, IsFull}
use Rattle.cedar_unfolding.specs.Meanings.{Meanings, full_meanings, definition_of}
use Rattle.cedar_unfolding.specs.Resolved.{Resolved}
use Rattle.cedar_unfold.specs.Rows.{row_of, written_rows}
use Rattle.cedar_unfold.specs.Tables.{place_of}
use Rattle.cedar_unfolding.specs.Written.{Written, common_references}
use Rattle.cedar_unfold.proofs.FollowingLemmas.{same_inside}
use Rattle.cedar_unfold.proofs.Keeping.{Finishes, finishes, IsKnown}
use Rattle.cedar_unfold.proofs.Positions.{same_name, filter-to, placed, at_place, value_at, row, length_names, length_rows, no_definition}

from_contains : {X : Type 0} (P : X → Type 0) (xs : List X) → ((x : X) → Contains xs x → P x) → AllByRecursion P xs
from_contains P [] each = tt
from_contains P (x ∷ xs) each = (each x (0, omega arith, refl), from_contains P xs (λ y c. each y (Contains-append_right (x ∷ []) xs y c)))

-- what passes of each value of a map passes of one that is found
pub found-passes : {K V : Type 0} (P : V → Type 0) (test : K → Bool) (es : List (K × V)) (v : V) → AllPass (λ e. P e.1) es → lookup test es ≡ Some v → P v
found-passes P test [] v all is = absurd (none-some v is)
found-passes {K} {V} P test (e ∷ es) v all is = by_test (found-passes P test es v all.1) (test e.0) is where
  by_test : (lookup test es ≡ Some v → P v) → (b : Bool) → cond b (Some e.1) (lookup test es) ≡ Some v → P v
  by_test later true is = subst P (same_inside e.1 v is) all.0
  by_test later false is = later is

module _ (definitions : List (FullName × Written FullName)) (is_extension : List ℕ → Bool) where
  abbrev m : Meanings FullName
  m = full_meanings definitions is_extension

  abbrev names : List FullName
  names = keys_of definitions

  -- the common types up to the k-th of the order are done
  pub record Filling (order : List ℕ) (k : ℕ) (table : FullName → Option (Option Resolved)) : Type 0 where
    pub done : (j : ℕ) → Contains (take k order) j → IsDone m table (get_or names j [])
    pub missing : (name : FullName) → definition_of m name ≡ None → table name ≡ None

  pub Filling-start : (order : List ℕ) (table : FullName → Option (Option Resolved)) → ((name : FullName) → table name ≡ None) → Filling order 0 table
  Filling-start order table empty = record {
    done = λ j c. absurd (nothing c);
    missing = λ name _. empty name;
  } where
    nothing : {j : ℕ} → Contains (take 0 order) j → ⊥
    nothing (k, l, e) = omega arith

  module _ (sorted : IsStrictlySortedBy words_cmp names) {order : List ℕ} (ordered : IsOrder (written_rows names definitions) order) where
    module _ (faultless : AreFaultless m) {k : ℕ} {table : FullName → Option (Option Resolved)} (sofar : Filling order k table) (inside : k < length order) where
      abbrev at : ℕ
      at = get_or order k 0

      below : at < length definitions
      below = subst (λ n. at < n) (length_rows definitions names) (ordered.within k 0 inside)

      module _ (key : FullName) (t : Written FullName) (is : key ≡ get_or names at []) (defined : definition_of m key ≡ Some t) where
        -- the definition at the position is this one
        same_definition : (get_or definitions at no_definition).1 ≡ t
        same_definition = same_inside (get_or definitions at no_definition).1 t (sym (value_at definitions sorted at (omega (arith, below, length_names definitions))) ∙ ap (definition_of m) (sym is) ∙ defined)

        leads : (n : FullName) (j : ℕ) → Contains (common_references t) n → place_of names n ≡ Some j → Leads (written_rows names definitions) at j
        leads n j c p = subst (λ r. Contains r j) (sym (row definitions names at below ∙ ap (row_of names) same_definition)) (filter-to (place_of names) (common_references t) n j c p)

        known : (n : FullName) → Contains (common_references t) n → (o : Option (Written FullName)) → definition_of m n ≡ o → IsKnown definitions is_extension table n
        known n c None undefined = inr (undefined, sofar.missing n undefined)
        known n c (Some u) is_defined =
            let j = position_or_len (is_at (words_cmp n)) names in
            let p : place_of names n ≡ Some j = placed definitions n u is_defined in
            inl (subst (IsDone m table) (sym (at_place definitions n j p).1) (sofar.done j (ordered.behind k j inside (leads n j c p))))

        -- what is found of the next
        found : Finishes m t (finished table t)
        found = finishes definitions is_extension table t (found-passes (λ t. faults m t ≡ []) (is_at (words_cmp key)) definitions t faultless defined) (from_contains (IsKnown definitions is_extension table) (common_references t) (λ n c. known n c (definition_of m n) refl))

        pub Filling-next : (entry : Option Resolved) (new : FullName → Option (Option Resolved)) → entry ≡ finished table t → new key ≡ Some entry → ((n : FullName) → is_at (words_cmp key) n ≡ false → new n ≡ table n) → Filling order (k + 1) new
        Filling-next entry new found_it put others = record {
          done = λ j c. ⊎_elim (λ earlier. still j (is_at (words_cmp key) (get_or names j [])) refl (sofar.done j earlier)) (λ this. subst (λ i. IsDone m new (get_or names i [])) this here) (Contains-push_cases (take k order) at j (subst (λ l. Contains l j) (take_more order k 0 inside) c));
          missing = λ n undefined. lacks n undefined (is_at (words_cmp key) n) refl;
        } where
          this_one : IsDone m new key
          this_one = record { definition = t; defined = defined; ty = found.ty; unfolds = found.unfolds; is = put ∙ ap Some (found_it ∙ found.is) }

          here : IsDone m new (get_or names at [])
          here = subst (IsDone m new) is this_one

          still : (j : ℕ) (b : Bool) → is_at (words_cmp key) (get_or names j []) ≡ b → IsDone m table (get_or names j []) → IsDone m new (get_or names j [])
          still j true same was = subst (IsDone m new) (same_name key (get_or names j []) same) this_one
          still j false apart was = record { definition = was.definition; defined = was.defined; ty = was.ty; unfolds = was.unfolds; is = others (get_or names j []) apart ∙ was.is }

          lacks : (n : FullName) → definition_of m n ≡ None → (b : Bool) → is_at (words_cmp key) n ≡ b → new n ≡ None
          lacks n undefined true same = absurd (none-some t (sym undefined ∙ ap (definition_of m) (sym (same_name key n same)) ∙ defined))
          lacks n undefined false apart = others n apart ∙ sofar.missing n undefined

    -- after the last
    pub Filling-end : {k : ℕ} {table : FullName → Option (Option Resolved)} → Filling order k table → length order ≤ k → IsFull m table
    Filling-end {k} {table} sofar all = record {
      done = done;
      missing = sofar.missing;
    } where
      done : (n : FullName) (t : Written FullName) → definition_of m n ≡ Some t → IsDone m table n
      done n t defined =
          let j = position_or_len (is_at (words_cmp n)) names in
          let (below, same) = at_place definitions n j (placed definitions n t defined) in
          let has : Contains order j = ordered.whole j (omega (arith, below, length_names definitions, length_rows definitions names)) in
          subst (IsDone m table) (sym same) (sofar.done j (subst (λ l. Contains l j) (sym (take_all k order all)) has))
