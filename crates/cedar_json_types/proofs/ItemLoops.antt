-- SPDX-License-Identifier: Apache-2.0
-- Loops that read the items of an array in order.
use Rattle.std.proofs.Common.{◌≡◌, ℕ, ◌+◌, List, [], ◌∷◌, ◌++◌, decimal, Option, Some, None, refl, sym, ap, ◌∙◌, subst, append_assoc, append-nil, drop, arith, ◌<◌}
use Rattle.serde_json.specs.Data.{Data, no_items}
use Rattle.serde_json.specs.View.{view, items_view}
use Rattle.serde_json.specs.declared.value.Value.{Value}
use Rattle.cedar_json_fault.specs.declared.json_error.JsonDeserializationError.{JsonDeserializationError}
use Rattle.cedar_json_types.specs.Faults.{Fault, under, items_fault}
use Rattle.cedar_json_types.specs.Shapes.{EachItem}
use Rattle.cedar_json_types.proofs.Chains.{first-skip, first-here, under-none}

-- a loop over `whole` that has `left` before it has read each item that it has passed, and found no fault
pub record ReadsItems {V : Type 0} (P : Data → V → Type 0) (fault : Data → Fault) (whole left : List Value) (place : ℕ) (made : List V) : Type 0 where
  pub done : List Value
  pub split : done ++ left ≡ whole
  pub shapes : EachItem P (items_view done) made
  pub clean : items_fault fault 0 (items_view whole) ≡ items_fault fault place (items_view left)

module _ {V : Type 0} where
  EachItem-next : (P : Data → V → Type 0) (done : List Value) (made : List V) (d : Value) (v : V) → EachItem P (items_view done) made → P (view d) v → EachItem P (items_view (done ++ d ∷ [])) (made ++ v ∷ [])
  EachItem-next P [] [] d v each is = (is, tt)
  EachItem-next P [] (m ∷ made) d v each is = absurd each
  EachItem-next P (e ∷ done) [] d v each is = absurd each
  EachItem-next P (e ∷ done) (m ∷ made) d v each is = (each.0, EachItem-next P done made d v each.1 is)

  pub ReadsItems-start : (P : Data → V → Type 0) (fault : Data → Fault) (whole left : List Value) (place : ℕ) (made : List V) → left ≡ whole → place ≡ 0 → made ≡ [] → ReadsItems P fault whole left place made
  ReadsItems-start P fault whole left place made all zeroth none = record {
    done = [];
    split = all;
    shapes = subst (λ m. EachItem P no_items m) (sym none) tt;
    clean = ap (λ es. items_fault fault 0 (items_view es)) (sym all) ∙ ap (λ n. items_fault fault n (items_view left)) (sym zeroth);
  }

  pub ReadsItems-next : {P : Data → V → Type 0} {fault : Data → Fault} {whole left rest : List Value} {place next : ℕ} {made more : List V} {value : Value} {v : V}
      → ReadsItems P fault whole left place made → left ≡ value ∷ rest → next ≡ place + 1 → P (view value) v → fault (view value) ≡ None → more ≡ made ++ v ∷ [] → ReadsItems P fault whole rest next more
  ReadsItems-next {P} {fault} {whole} {left} {rest} {place} {next} {made} {more} {value} {v} sofar at_left counted shape none pushed = record {
    done = sofar.done ++ value ∷ [];
    split = append_assoc sofar.done (value ∷ []) rest ∙ ap (λ l. sofar.done ++ l) (sym at_left) ∙ sofar.split;
    shapes = subst (λ m. EachItem P (items_view (sofar.done ++ value ∷ [])) m) (sym pushed) (EachItem-next P sofar.done made value v sofar.shapes shape);
    clean = sofar.clean ∙ ap (λ es. items_fault fault place (items_view es)) at_left ∙ first-skip _ _ _ (under-none (decimal place) _ none) refl ∙ ap (λ n. items_fault fault n (items_view rest)) (sym counted);
  }

  pub ReadsItems-shapes : {P : Data → V → Type 0} {fault : Data → Fault} {whole left : List Value} {place : ℕ} {made : List V} → ReadsItems P fault whole left place made → left ≡ [] → EachItem P (items_view whole) made
  ReadsItems-shapes {P} {made = made} sofar none = subst (λ es. EachItem P (items_view es) made) (sym (append-nil sofar.done) ∙ ap (λ l. sofar.done ++ l) (sym none) ∙ sofar.split) sofar.shapes

  pub ReadsItems-clean : {P : Data → V → Type 0} {fault : Data → Fault} {whole left : List Value} {place : ℕ} {made : List V} → ReadsItems P fault whole left place made → left ≡ [] → items_fault fault 0 (items_view whole) ≡ None
  ReadsItems-clean {fault = fault} {place = place} sofar none = sofar.clean ∙ ap (λ es. items_fault fault place (items_view es)) none

  pub ReadsItems-fault : {P : Data → V → Type 0} {fault : Data → Fault} {whole left rest : List Value} {place : ℕ} {made : List V} {value : Value} {e : JsonDeserializationError}
      → ReadsItems P fault whole left place made → left ≡ value ∷ rest → under (decimal place) (fault (view value)) ≡ Some e → items_fault fault 0 (items_view whole) ≡ Some e
  ReadsItems-fault {fault = fault} {place = place} sofar at_left found = sofar.clean ∙ ap (λ es. items_fault fault place (items_view es)) at_left ∙ first-here _ _ _ found

pub ruleset reads_items = (ReadsItems-start, ReadsItems-next, ReadsItems-shapes, ReadsItems-clean, ReadsItems-fault)
