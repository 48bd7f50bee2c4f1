-- SPDX-License-Identifier: Apache-2.0
use Rattle.cedar_written.specs.WrittenTypes.{attribute_extension}
use Rattle.cedar_written.proofs.Found.{Finds}
use Rattle.cedar_written.proofs.type_calls.+extension.Given as goal

-- what is left decides with what was found
abbrev pub invariant-some_are_extensions-loop-attribute : goal.invariant-some_are_extensions-loop-attribute
invariant-some_are_extensions-loop-attribute g l = Finds attribute_extension l.fn.attributes l.attribute-iterator l.found
