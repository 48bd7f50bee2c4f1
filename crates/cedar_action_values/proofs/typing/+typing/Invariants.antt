-- SPDX-License-Identifier: Apache-2.0
use Rattle.std.specs.Slice.Iter.{iter_rest}
use Rattle.cedar_types.specs.Values.{list_values, members}
use Rattle.cedar_written.proofs.Goes.{Goes}
use Rattle.cedar_action_values.specs.ActionValues.{typed_attribute}
use Rattle.cedar_action_values.proofs.Checking.{Checks}
use Rattle.cedar_action_values.proofs.typing.+typing.Given as goal

-- each field so far has its type
abbrev pub invariant-attribute_types-loop-name : goal.invariant-attribute_types-loop-name
invariant-attribute_types-loop-name l = Goes typed_attribute (members l.fn.fields) l.name-iterator l.types

-- the elements so far have types
abbrev pub invariant-type_of_set-loop-other : goal.invariant-type_of_set-loop-other
invariant-type_of_set-loop-other l = Checks (list_values l.fn.elements) (iter_rest l.other-iterator) l.element
