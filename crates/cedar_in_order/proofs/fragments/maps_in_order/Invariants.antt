-- SPDX-License-Identifier: Apache-2.0
use Rattle.cedar_in_order.proofs.NamespacesSeen.{NamespacesSoFar}
use Rattle.cedar_in_order.proofs.fragments.maps_in_order.Given as goal

-- the namespaces so far stand in order
abbrev pub invariant-loop-definition : goal.invariant-loop-definition
invariant-loop-definition l = NamespacesSoFar l.fragment.0 l.definition-iterator
