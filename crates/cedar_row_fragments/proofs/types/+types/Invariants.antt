-- SPDX-License-Identifier: Apache-2.0
use Rattle.cedar_row_fragments.proofs.Remaining.{Remains}
use Rattle.cedar_row_fragments.proofs.types.+types.Given as goal

-- the attributes that are left are among all
abbrev pub invariant-add_attributes-loop-name : goal.invariant-add_attributes-loop-name
invariant-add_attributes-loop-name l = Remains l.attributes l.name-iterator
