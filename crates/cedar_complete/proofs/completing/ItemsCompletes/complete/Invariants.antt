-- SPDX-License-Identifier: Apache-2.0
use Rattle.std.specs.Vec.Iter.{into_iter_items}
use Rattle.cedar_declared.specs.Held.{names_of}
use Rattle.cedar_complete.proofs.Contents.{Lists}
use Rattle.cedar_complete.proofs.completing.ItemsCompletes.complete.Given as goal

-- each item so far is completed
abbrev pub invariant-loop-item : goal.invariant-loop-item
invariant-loop-item g l = Lists g.T.Completes.content (g.T.Completes.completed (names_of l.fn.all_defs)) l.fn.self (into_iter_items l.item-iterator) l.made
