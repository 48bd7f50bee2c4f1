-- SPDX-License-Identifier: Apache-2.0
-- Loops that check the attributes of a record in the order of their names, and the names of attributes.
use Rattle.std.proofs.Common.{◌≡◌, ℕ, Bool, true, false, if◌then◌else◌, List, [], ◌∷◌, Some, refl, sym, ap, ◌∙◌}
use Rattle.std.specs.Prelude.{is_some}
use Rattle.std.specs.declared.result.Result.TheVariants.{Ok, Err}
use Rattle.cedar_data.specs.Maps.{get_text, is_text}
use Rattle.cedar_data.specs.declared.memory.Failure.{Failure}
use Rattle.cedar_written.specs.Answers.{and_then}
use Rattle.serde_json.specs.Data.{Data}
use Rattle.serde_json.specs.Find.{get}
use Rattle.cedar_types.specs.declared.ty.AttributeType.{AttributeType}
use Rattle.cedar_checks.specs.of_world.Schemas.{Schema}
use Rattle.cedar_unfold.specs.Resolved.{Resolved}
use Rattle.cedar_unfold.specs.ResolvedViews.{resolved, resolved_map}
use Rattle.cedar_unfold.proofs.ResolvedTypes.{resolved-attribute}
use Rattle.cedar_conform_fault.specs.declared.fault.Fault.{Fault}
use Rattle.cedar_conform.specs.Checks.{Check, Tells, passed}
use Rattle.cedar_conform.specs.Fits.{has_attribute}
use Rattle.cedar_conform.specs.ValueChecks.{attribute_check, attributes_check, value_check}
use Rattle.cedar_conform.proofs.Told.{Tells-at, Tells-refused}

abbrev pub Row : Type 0
Row = List ℕ × AttributeType

-- ---- names

by_first : (b : Bool) (es : List Row) (e : Row) (k : List ℕ) → has_attribute (resolved_map es) k ≡ is_some (get_text es k) → (if b then true else has_attribute (resolved_map es) k) ≡ is_some (if b then Some e.1 else get_text es k)
by_first true es e k rest = refl
by_first false es e k rest = rest

pub has_attribute-found : (es : List Row) (k : List ℕ) → has_attribute (resolved_map es) k ≡ is_some (get_text es k)
has_attribute-found [] k = refl
has_attribute-found (e ∷ es) k = by_first (is_text k e.0) es e k (has_attribute-found es k)

pub ruleset names = (has_attribute-found)

-- ---- attributes

module _ (S : Schema) where
  -- the check of an attribute of an object
  abbrev pub row_check : Data → Row → Check (Unit {0})
  row_check d row = attribute_check row.0 row.1.is_required (value_check S (resolved row.1.attr_type)) (get row.0 d)

  -- a loop over `whole` that has `left` before it has passed each attribute before
  pub record PassesRows (d : Data) (whole left : List Row) : Type 0 where
    pub is : attributes_check S (resolved_map whole) d ≡ attributes_check S (resolved_map left) d

  pub PassesRows-start : (d : Data) (whole left : List Row) → left ≡ whole → PassesRows d whole left
  PassesRows-start d whole left all = record { is = ap (λ es. attributes_check S (resolved_map es) d) (sym all) }

  at_row : (d : Data) (row : Row) (rest : List Row) → attributes_check S (resolved_map (row ∷ rest)) d ≡ and_then (row_check d row) (λ _. attributes_check S (resolved_map rest) d)
  at_row d row rest = ap (λ (a : Bool × Resolved). and_then (attribute_check row.0 a.0 (value_check S a.1) (get row.0 d)) (λ _. attributes_check S (resolved_map rest) d)) (resolved-attribute row.1)

  at_next : (d : Data) {left rest : List Row} {row : Row} → left ≡ row ∷ rest → attributes_check S (resolved_map left) d ≡ and_then (row_check d row) (λ _. attributes_check S (resolved_map rest) d)
  at_next d {rest = rest} {row = row} at_left = ap (λ es. attributes_check S (resolved_map es) d) at_left ∙ at_row d row rest

  pub PassesRows-next : {d : Data} {whole left rest : List Row} {row : Row} → PassesRows d whole left → left ≡ row ∷ rest → row_check d row ≡ Ok tt → PassesRows d whole rest
  PassesRows-next {d} {rest = rest} sofar at_left passes = record {
    is = sofar.is ∙ at_next d at_left ∙ ap (λ c. and_then c (λ _. attributes_check S (resolved_map rest) d)) passes;
  }

  pub PassesRows-end : {d : Data} {whole left : List Row} → PassesRows d whole left → left ≡ [] → attributes_check S (resolved_map whole) d ≡ Ok tt
  PassesRows-end {d} sofar none = sofar.is ∙ ap (λ es. attributes_check S (resolved_map es) d) none

  pub PassesRows-refused : {d : Data} {whole left rest : List Row} {row : Row} (x : Failure Fault) → PassesRows d whole left → left ≡ row ∷ rest → Tells (passed {T = Unit {0}}) (Err x) (row_check d row) → Tells (passed {T = Unit {0}}) (Err x) (attributes_check S (resolved_map whole) d)
  PassesRows-refused {d} {rest = rest} {row = row} x sofar at_left told =
      Tells-at (passed {T = Unit {0}}) (Err x) (sofar.is ∙ at_next d at_left) (Tells-refused (passed {T = Unit {0}}) (passed {T = Unit {0}}) x (row_check d row) (λ _. attributes_check S (resolved_map rest) d) told)

pub ruleset each_attribute = (PassesRows-start, PassesRows-next, PassesRows-end, PassesRows-refused)
