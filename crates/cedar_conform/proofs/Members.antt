-- SPDX-License-Identifier: Apache-2.0
-- Loops that check the members of an object in the order of their keys.
use Rattle.std.proofs.Common.{◌≡◌, ℕ, List, [], ◌∷◌, String, Global, string_bytes, sym, ap, ◌∙◌}
use Rattle.std.specs.declared.result.Result.TheVariants.{Ok, Err}
use Rattle.cedar_data.specs.declared.memory.Failure.{Failure}
use Rattle.cedar_written.specs.Answers.{and_then}
use Rattle.serde_json.specs.Data.{Data}
use Rattle.serde_json.specs.View.{view, members_view}
use Rattle.serde_json.specs.declared.value.Value.{Value}
use Rattle.cedar_conform_fault.specs.declared.fault.Fault.{Fault}
use Rattle.cedar_conform.specs.Checks.{Check, Tells, each_member, passed}
use Rattle.cedar_conform.proofs.Told.{Tells-at, Tells-refused}

abbrev pub Member : Type 0
Member = String Global × Value

-- a loop over `whole` that has `left` before it has passed each member before
pub record PassesMembers (check : List ℕ → Data → Check (Unit {0})) (whole left : List Member) : Type 0 where
  pub is : each_member check (members_view whole) ≡ each_member check (members_view left)

pub PassesMembers-start : (check : List ℕ → Data → Check (Unit {0})) (whole left : List Member) → left ≡ whole → PassesMembers check whole left
PassesMembers-start check whole left all = record { is = ap (λ es. each_member check (members_view es)) (sym all) }

at_next : (check : List ℕ → Data → Check (Unit {0})) {left rest : List Member} {key : String Global} {value : Value} → left ≡ (key, value) ∷ rest → each_member check (members_view left) ≡ and_then (check (string_bytes key) (view value)) (λ _. each_member check (members_view rest))
at_next check at_left = ap (λ es. each_member check (members_view es)) at_left

pub PassesMembers-next : {check : List ℕ → Data → Check (Unit {0})} {whole left rest : List Member} {key : String Global} {value : Value} → PassesMembers check whole left → left ≡ (key, value) ∷ rest → check (string_bytes key) (view value) ≡ Ok tt → PassesMembers check whole rest
PassesMembers-next {check} {rest = rest} sofar at_left passes = record {
  is = sofar.is ∙ at_next check at_left ∙ ap (λ c. and_then c (λ _. each_member check (members_view rest))) passes;
}

pub PassesMembers-end : {check : List ℕ → Data → Check (Unit {0})} {whole left : List Member} → PassesMembers check whole left → left ≡ [] → each_member check (members_view whole) ≡ Ok tt
PassesMembers-end {check} sofar none = sofar.is ∙ ap (λ es. each_member check (members_view es)) none

pub PassesMembers-refused : {check : List ℕ → Data → Check (Unit {0})} {whole left rest : List Member} {key : String Global} {value : Value} (x : Failure Fault) → PassesMembers check whole left → left ≡ (key, value) ∷ rest → Tells (passed {T = Unit {0}}) (Err x) (check (string_bytes key) (view value)) → Tells (passed {T = Unit {0}}) (Err x) (each_member check (members_view whole))
PassesMembers-refused {check} {rest = rest} {key = key} {value = value} x sofar at_left told =
    Tells-at (passed {T = Unit {0}}) (Err x) (sofar.is ∙ at_next check at_left) (Tells-refused (passed {T = Unit {0}}) (passed {T = Unit {0}}) x (check (string_bytes key) (view value)) (λ _. each_member check (members_view rest)) told)

pub ruleset each_member_passes = (PassesMembers-start, PassesMembers-next, PassesMembers-end, PassesMembers-refused)
