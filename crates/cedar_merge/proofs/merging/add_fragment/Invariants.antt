-- SPDX-License-Identifier: Apache-2.0
use Rattle.cedar_merge.proofs.Holding.{Passes}
use Rattle.cedar_merge.proofs.merging.add_fragment.Given as goal

-- the namespaces so far are added
abbrev pub invariant-loop-path : goal.invariant-loop-path
invariant-loop-path l = Passes l.fn.fragment.0 l.path-iterator l.initial.all l.fn.found l.all l.now
