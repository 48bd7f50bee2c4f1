-- SPDX-License-Identifier: Apache-2.0
-- Loops that check the items of an array in order.
use Rattle.std.proofs.Common.{◌≡◌, ℕ, ◌+◌, List, [], ◌∷◌, decimal, sym, ap, ◌∙◌}
use Rattle.std.specs.declared.result.Result.TheVariants.{Ok, Err}
use Rattle.cedar_data.specs.declared.memory.Failure.{Failure}
use Rattle.cedar_written.specs.Answers.{and_then}
use Rattle.serde_json.specs.Data.{Data}
use Rattle.serde_json.specs.View.{view, items_view}
use Rattle.serde_json.specs.declared.value.Value.{Value}
use Rattle.cedar_conform_fault.specs.declared.fault.Fault.{Fault}
use Rattle.cedar_conform.specs.Checks.{Check, Tells, each_item, passed, under}
use Rattle.cedar_conform.proofs.Told.{Tells-at, Tells-refused}

-- a loop over `whole` that has `left` before it has passed each item before
pub record PassesItems (check : Data → Check (Unit {0})) (whole left : List Value) (place : ℕ) : Type 0 where
  pub is : each_item check 0 (items_view whole) ≡ each_item check place (items_view left)

pub PassesItems-start : (check : Data → Check (Unit {0})) (whole left : List Value) (place : ℕ) → left ≡ whole → place ≡ 0 → PassesItems check whole left place
PassesItems-start check whole left place all zeroth = record {
  is = ap (λ es. each_item check 0 (items_view es)) (sym all) ∙ ap (λ n. each_item check n (items_view left)) (sym zeroth);
}

-- what comes of the items that are left, where the next one gives this
at_next : (check : Data → Check (Unit {0})) {left rest : List Value} {value : Value} (place : ℕ) → left ≡ value ∷ rest → each_item check place (items_view left) ≡ and_then (under (decimal place) (check (view value))) (λ _. each_item check (place + 1) (items_view rest))
at_next check place at_left = ap (λ es. each_item check place (items_view es)) at_left

pub PassesItems-next : {check : Data → Check (Unit {0})} {whole left rest : List Value} {place next : ℕ} {value : Value} → PassesItems check whole left place → left ≡ value ∷ rest → next ≡ place + 1 → check (view value) ≡ Ok tt → PassesItems check whole rest next
PassesItems-next {check} {rest = rest} {place = place} sofar at_left counted passes = record {
  is = sofar.is ∙ at_next check place at_left ∙ ap (λ c. and_then (under (decimal place) c) (λ _. each_item check (place + 1) (items_view rest))) passes ∙ ap (λ n. each_item check n (items_view rest)) (sym counted);
}

pub PassesItems-end : {check : Data → Check (Unit {0})} {whole left : List Value} {place : ℕ} → PassesItems check whole left place → left ≡ [] → each_item check 0 (items_view whole) ≡ Ok tt
PassesItems-end {check} {place = place} sofar none = sofar.is ∙ ap (λ es. each_item check place (items_view es)) none

pub PassesItems-refused : {check : Data → Check (Unit {0})} {whole left rest : List Value} {place : ℕ} {value : Value} (x : Failure Fault) → PassesItems check whole left place → left ≡ value ∷ rest → Tells (passed {T = Unit {0}}) (Err x) (under (decimal place) (check (view value))) → Tells (passed {T = Unit {0}}) (Err x) (each_item check 0 (items_view whole))
PassesItems-refused {check} {rest = rest} {place = place} {value = value} x sofar at_left told =
    Tells-at (passed {T = Unit {0}}) (Err x) (sofar.is ∙ at_next check place at_left) (Tells-refused (passed {T = Unit {0}}) (passed {T = Unit {0}}) x (under (decimal place) (check (view value))) (λ _. each_item check (place + 1) (items_view rest)) told)

pub ruleset each_item_passes = (PassesItems-start, PassesItems-next, PassesItems-end, PassesItems-refused)
