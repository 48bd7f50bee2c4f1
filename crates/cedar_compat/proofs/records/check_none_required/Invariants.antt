-- SPDX-License-Identifier: Apache-2.0
use Rattle.cedar_types.specs.Types.{entries}
use Rattle.cedar_unfold.specs.Resolved.{no_attributes}
use Rattle.cedar_compat.proofs.Needs.{PassesNeeds}
use Rattle.cedar_compat.proofs.records.check_none_required.Given as goal

-- none of the attributes so far is required
abbrev pub invariant-loop-name : goal.invariant-loop-name
invariant-loop-name l = PassesNeeds no_attributes (entries l.new) l.name-iterator
