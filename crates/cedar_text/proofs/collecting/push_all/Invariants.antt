-- SPDX-License-Identifier: Apache-2.0
use Rattle.std.proofs.Common.{◌≡◌, ◌++◌}
use Rattle.std.specs.Vec.Iter.{into_iter_items}
use Rattle.cedar_text.proofs.collecting.push_all.Given as goal

-- each item is put behind the others
abbrev pub invariant-loop-item : goal.invariant-loop-item
invariant-loop-item g l = l.all.items ++ into_iter_items l.item-iterator ≡ l.fn.all.items ++ l.fn.items.items
