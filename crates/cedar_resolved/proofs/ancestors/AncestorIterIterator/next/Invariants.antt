-- SPDX-License-Identifier: Apache-2.0
use Rattle.std.proofs.Common.{◌≡◌, length}
use Rattle.cedar_resolved.specs.Queries.{ancestors_left}
use Rattle.cedar_resolved.proofs.ancestors.AncestorIterIterator.next.Given as goal

-- none of the entity types so far has the type among its descendants
abbrev pub invariant-loop-name : goal.invariant-loop-name
invariant-loop-name l = ancestors_left l.self ≡ ancestors_left l.initial.self

abbrev pub decreases-loop-name : goal.decreases-loop-name
decreases-loop-name l = length l.self.types
