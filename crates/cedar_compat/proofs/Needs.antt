-- SPDX-License-Identifier: Apache-2.0
-- A loop that checks what new attributes require, in the order of their names.
use Rattle.std.proofs.Common.{◌≡◌, Bool, List, [], ◌∷◌, sym, ap, ◌∙◌}
use Rattle.std.specs.declared.result.Result.TheVariants.{Ok, Err}
use Rattle.cedar_data.specs.Answers.{and_then}
use Rattle.cedar_data.specs.declared.memory.Failure.{Failure}
use Rattle.cedar_unfold.specs.Resolved.{Resolved, ResolvedAttributes}
use Rattle.cedar_unfold.specs.ResolvedViews.{resolved_map}
use Rattle.cedar_unfold.proofs.ResolvedTypes.{resolved-attribute}
use Rattle.cedar_compat.specs.BreakChecks.{needed_check, required_check}
use Rattle.cedar_compat.specs.Changes.{break_of}
use Rattle.cedar_compat.specs.Checks.{Check, Tells}
use Rattle.cedar_compat.specs.declared.broken.Broken.{Broken}
use Rattle.cedar_compat.proofs.Rows.{Row}
use Rattle.cedar_compat.proofs.Told.{Tells-at, Tells-refused}

abbrev pub need_check : ResolvedAttributes → Row → Check
need_check old row = needed_check old row.0 row.1.is_required

-- a loop over `whole` that has `left` before it has found each attribute before required no more than before
pub record PassesNeeds (old : ResolvedAttributes) (whole left : List Row) : Type 0 where
  pub is : required_check old (resolved_map whole) ≡ required_check old (resolved_map left)

pub PassesNeeds-start : (old : ResolvedAttributes) (whole left : List Row) → left ≡ whole → PassesNeeds old whole left
PassesNeeds-start old whole left all = record { is = ap (λ es. required_check old (resolved_map es)) (sym all) }

at_row : (old : ResolvedAttributes) (row : Row) (rest : List Row) → required_check old (resolved_map (row ∷ rest)) ≡ and_then (need_check old row) (λ _. required_check old (resolved_map rest))
at_row old row rest = ap (λ (a : Bool × Resolved). and_then (needed_check old row.0 a.0) (λ _. required_check old (resolved_map rest))) (resolved-attribute row.1)

at_next : (old : ResolvedAttributes) {left rest : List Row} {row : Row} → left ≡ row ∷ rest → required_check old (resolved_map left) ≡ and_then (need_check old row) (λ _. required_check old (resolved_map rest))
at_next old {rest = rest} {row = row} at_left = ap (λ es. required_check old (resolved_map es)) at_left ∙ at_row old row rest

pub PassesNeeds-next : {old : ResolvedAttributes} {whole left rest : List Row} {row : Row} → PassesNeeds old whole left → left ≡ row ∷ rest → need_check old row ≡ Ok tt → PassesNeeds old whole rest
PassesNeeds-next {old} {rest = rest} sofar at_left passes = record {
  is = sofar.is ∙ at_next old at_left ∙ ap (λ c. and_then c (λ _. required_check old (resolved_map rest))) passes;
}

pub PassesNeeds-end : {old : ResolvedAttributes} {whole left : List Row} → PassesNeeds old whole left → left ≡ [] → required_check old (resolved_map whole) ≡ Ok tt
PassesNeeds-end {old} sofar none = sofar.is ∙ ap (λ es. required_check old (resolved_map es)) none

pub PassesNeeds-refused : {old : ResolvedAttributes} {whole left rest : List Row} {row : Row} (x : Failure Broken) → PassesNeeds old whole left → left ≡ row ∷ rest → Tells break_of (Err x) (need_check old row) → Tells break_of (Err x) (required_check old (resolved_map whole))
PassesNeeds-refused {old} {rest = rest} {row = row} x sofar at_left told =
    Tells-at break_of (Err x) (sofar.is ∙ at_next old at_left) (Tells-refused break_of x (need_check old row) (λ _. required_check old (resolved_map rest)) told)

pub ruleset each_needed = (PassesNeeds-start, PassesNeeds-next, PassesNeeds-end, PassesNeeds-refused)
