-- SPDX-License-Identifier: Apache-2.0
-- Attributes by name, and a loop that checks the old attributes in the order of their names.
use Rattle.std.proofs.Common.{◌≡◌, ℕ, Bool, true, false, if◌then◌else◌, List, [], ◌∷◌, Some, None, refl, sym, ap, ◌∙◌}
use Rattle.std.specs.Option.{option_map}
use Rattle.std.specs.declared.result.Result.TheVariants.{Ok, Err}
use Rattle.cedar_data.specs.Answers.{and_then}
use Rattle.cedar_data.specs.Maps.{get_text, is_text}
use Rattle.cedar_data.specs.declared.memory.Failure.{Failure}
use Rattle.cedar_types.specs.declared.ty.AttributeType.{AttributeType}
use Rattle.cedar_unfold.specs.Resolved.{Resolved, ResolvedAttributes}
use Rattle.cedar_unfold.specs.ResolvedViews.{resolved, resolved_attribute, resolved_map}
use Rattle.cedar_unfold.proofs.ResolvedTypes.{resolved-attribute}
use Rattle.cedar_compat.specs.BreakChecks.{attribute_check, attributes_check, type_check}
use Rattle.cedar_compat.specs.Changes.{break_of}
use Rattle.cedar_compat.specs.Checks.{Check, Tells}
use Rattle.cedar_compat.specs.Widening.{attribute_named, is_required, needs}
use Rattle.cedar_compat.specs.declared.broken.Broken.{Broken}
use Rattle.cedar_compat.proofs.Told.{Tells-at, Tells-refused}

abbrev pub Row : Type 0
Row = List ℕ × AttributeType

-- ---- attributes by name

by_first : (b : Bool) (e : Row) (es : List Row) (k : List ℕ) → attribute_named (resolved_map es) k ≡ option_map resolved_attribute (get_text es k) → (if b then Some (resolved_attribute e.1) else attribute_named (resolved_map es) k) ≡ option_map resolved_attribute (if b then Some e.1 else get_text es k)
by_first true e es k rest = refl
by_first false e es k rest = rest

seen : (es : List Row) (k : List ℕ) → attribute_named (resolved_map es) k ≡ option_map resolved_attribute (get_text es k)
seen [] k = refl
seen (e ∷ es) k = by_first (is_text k e.0) e es k (seen es k)

pub named-found : (es : List Row) (k : List ℕ) (a : AttributeType) → get_text es k ≡ Some a → attribute_named (resolved_map es) k ≡ Some (a.is_required, resolved a.attr_type)
named-found es k a is = seen es k ∙ ap (option_map resolved_attribute) is ∙ ap Some (resolved-attribute a)

pub named-missing : (es : List Row) (k : List ℕ) → get_text es k ≡ None → attribute_named (resolved_map es) k ≡ None
named-missing es k is = seen es k ∙ ap (option_map resolved_attribute) is

pub needs-found : (es : List Row) (k : List ℕ) (a : AttributeType) → get_text es k ≡ Some a → needs (resolved_map es) k ≡ a.is_required
needs-found es k a is = ap is_required (named-found es k a is)

pub needs-missing : (es : List Row) (k : List ℕ) → get_text es k ≡ None → needs (resolved_map es) k ≡ false
needs-missing es k is = ap is_required (named-missing es k is)

pub ruleset named = (named-found, named-missing, needs-found, needs-missing)

-- ---- the old attributes

-- the check of an attribute against the new ones
abbrev pub row_check : ResolvedAttributes → Row → Check
row_check new row = attribute_check row.0 (type_check (resolved row.1.attr_type)) (attribute_named new row.0)

-- a loop over `whole` that has `left` before it has passed each attribute before
pub record PassesRows (new : ResolvedAttributes) (whole left : List Row) : Type 0 where
  pub is : attributes_check (resolved_map whole) new ≡ attributes_check (resolved_map left) new

pub PassesRows-start : (new : ResolvedAttributes) (whole left : List Row) → left ≡ whole → PassesRows new whole left
PassesRows-start new whole left all = record { is = ap (λ es. attributes_check (resolved_map es) new) (sym all) }

at_row : (new : ResolvedAttributes) (row : Row) (rest : List Row) → attributes_check (resolved_map (row ∷ rest)) new ≡ and_then (row_check new row) (λ _. attributes_check (resolved_map rest) new)
at_row new row rest = ap (λ (a : Bool × Resolved). and_then (attribute_check row.0 (type_check a.1) (attribute_named new row.0)) (λ _. attributes_check (resolved_map rest) new)) (resolved-attribute row.1)

at_next : (new : ResolvedAttributes) {left rest : List Row} {row : Row} → left ≡ row ∷ rest → attributes_check (resolved_map left) new ≡ and_then (row_check new row) (λ _. attributes_check (resolved_map rest) new)
at_next new {rest = rest} {row = row} at_left = ap (λ es. attributes_check (resolved_map es) new) at_left ∙ at_row new row rest

pub PassesRows-next : {new : ResolvedAttributes} {whole left rest : List Row} {row : Row} → PassesRows new whole left → left ≡ row ∷ rest → row_check new row ≡ Ok tt → PassesRows new whole rest
PassesRows-next {new} {rest = rest} sofar at_left passes = record {
  is = sofar.is ∙ at_next new at_left ∙ ap (λ c. and_then c (λ _. attributes_check (resolved_map rest) new)) passes;
}

pub PassesRows-end : {new : ResolvedAttributes} {whole left : List Row} → PassesRows new whole left → left ≡ [] → attributes_check (resolved_map whole) new ≡ Ok tt
PassesRows-end {new} sofar none = sofar.is ∙ ap (λ es. attributes_check (resolved_map es) new) none

pub PassesRows-refused : {new : ResolvedAttributes} {whole left rest : List Row} {row : Row} (x : Failure Broken) → PassesRows new whole left → left ≡ row ∷ rest → Tells break_of (Err x) (row_check new row) → Tells break_of (Err x) (attributes_check (resolved_map whole) new)
PassesRows-refused {new} {rest = rest} {row = row} x sofar at_left told =
    Tells-at break_of (Err x) (sofar.is ∙ at_next new at_left) (Tells-refused break_of x (row_check new row) (λ _. attributes_check (resolved_map rest) new) told)

pub ruleset each_attribute = (PassesRows-start, PassesRows-next, PassesRows-end, PassesRows-refused)
