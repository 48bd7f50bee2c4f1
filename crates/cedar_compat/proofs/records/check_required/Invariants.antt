-- SPDX-License-Identifier: Apache-2.0
use Rattle.cedar_types.specs.Types.{entries}
use Rattle.cedar_unfold.specs.ResolvedViews.{resolved_map}
use Rattle.cedar_compat.proofs.Needs.{PassesNeeds}
use Rattle.cedar_compat.proofs.records.check_required.Given as goal

-- the new attributes so far require no more than the old ones
abbrev pub invariant-loop-name : goal.invariant-loop-name
invariant-loop-name l = PassesNeeds (resolved_map (entries l.old)) (entries l.new) l.name-iterator
