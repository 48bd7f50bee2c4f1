-- SPDX-License-Identifier: Apache-2.0
use Rattle.cedar_data.proofs.Rebuild.{Rebuilds}
use Rattle.cedar_merge.specs.Joining.{finished}
use Rattle.cedar_merge.proofs.merging.finish.Given as goal

-- the namespaces so far are finished
abbrev pub invariant-loop-path : goal.invariant-loop-path
invariant-loop-path l = Rebuilds finished l.fn.all l.path-iterator l.namespaces
