-- SPDX-License-Identifier: Apache-2.0
use Rattle.std.proofs.Common.{◌≡◌, ◌++◌}
use Rattle.std.specs.Vec.Iter.{into_iter_items}
use Rattle.cedar_tree.specs.Paths.{ids_at}
use Rattle.cedar_tree.proofs.path.Path.into_iter.Given as goal

-- the nodes so far, and those of the identifiers that are left, are those of the namespace
abbrev pub invariant-loop-id : goal.invariant-loop-id
invariant-loop-id l = l.nodes.items ++ ids_at l.fn.self.loc (into_iter_items l.id-iterator) ≡ ids_at l.fn.self.loc l.fn.self.namespace
