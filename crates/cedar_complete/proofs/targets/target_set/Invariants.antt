-- SPDX-License-Identifier: Apache-2.0
use Rattle.cedar_declared.specs.Held.{names_of}
use Rattle.cedar_complete.proofs.Contents.{MakesSet}
use Rattle.cedar_complete.proofs.targets.target_set.Given as goal

-- the set so far, with what those that are left mean, is what all mean
abbrev pub invariant-loop-key : goal.invariant-loop-key
invariant-loop-key g l = MakesSet g.K.Member.content g.K.Member.order (g.K.Member.meant (names_of l.fn.all_defs)) l.fn.keys l.key-iterator l.targets
