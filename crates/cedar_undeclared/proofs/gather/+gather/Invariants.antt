-- SPDX-License-Identifier: Apache-2.0
use Rattle.cedar_missing.specs.of_declared.Held.{names_of}
use Rattle.cedar_written.specs.References.{references_of_attribute}
use Rattle.cedar_undeclared.proofs.Gathers.{Gathers}
use Rattle.cedar_undeclared.proofs.gather.+gather.Given as goal

-- what the attributes that are left add now is what all add
abbrev pub invariant-gather_in_attributes-loop-attribute : goal.invariant-gather_in_attributes-loop-attribute
invariant-gather_in_attributes-loop-attribute l = Gathers (names_of l.fn.all_defs) references_of_attribute l.fn.attributes l.attribute-iterator l.fn.names l.names
