-- SPDX-License-Identifier: Apache-2.0
use Rattle.std.proofs.Common.{◌≡◌, ◌++◌}
use Rattle.std.specs.List.{flat_map}
use Rattle.cedar_names.specs.of_text.Lists.{elements, elements_left}
use Rattle.cedar_schema_error.specs.Joining.{actions_of, types_of}
use Rattle.cedar_schema_error.proofs.schema_error.SchemaError.join_nonempty.Given as goal

-- what is found so far, and what the errors that are left hold, is what all hold
abbrev pub invariant-loop-error : goal.invariant-loop-error
invariant-loop-error l = record {
  types : l.types.items ++ flat_map types_of (elements_left l.error-iterator) ≡ flat_map types_of (elements l.fn.errs);
  actions : l.actions.items ++ flat_map actions_of (elements_left l.error-iterator) ≡ flat_map actions_of (elements l.fn.errs);
}
