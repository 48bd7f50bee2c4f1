-- SPDX-License-Identifier: Apache-2.0
use Rattle.cedar_merge.proofs.Ordered.{DefinitionsSoFar}
use Rattle.cedar_merge.proofs.ordering.fragment_in_order.Given as goal

-- what the namespaces so far declare stands in order
abbrev pub invariant-loop-definition : goal.invariant-loop-definition
invariant-loop-definition l = DefinitionsSoFar l.fragment.0 l.definition-iterator
