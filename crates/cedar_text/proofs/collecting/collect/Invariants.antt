-- SPDX-License-Identifier: Apache-2.0
use Rattle.std.specs.Vec.Iter.{into_iter_items}
use Rattle.cedar_text.proofs.Members.{Collected}
use Rattle.cedar_text.proofs.collecting.collect.Given as goal

-- what is found so far, with that of the members that are left, is that of all
abbrev pub invariant-loop-member : goal.invariant-loop-member
invariant-loop-member g l =
    Collected (λ e. (g.M.Convert.name e.0, g.M.Convert.content e.1)) g.M.Convert.faults g.M.Convert.entries
    l.fn.members.items (into_iter_items l.member-iterator) l.made.items l.wrong.items
