-- SPDX-License-Identifier: Apache-2.0
use Rattle.std.proofs.Common.{◌≡◌, ◌++◌}
use Rattle.std.specs.Vec.Iter.{into_iter_items}
use Rattle.cedar_tables.proofs.apart.append_uses.Given as goal

-- the uses so far, with those that are left, are all
abbrev pub invariant-loop-entry : goal.invariant-loop-entry
invariant-loop-entry l = l.uses.items ++ into_iter_items l.entry-iterator ≡ l.fn.uses.items ++ l.fn.more.items
