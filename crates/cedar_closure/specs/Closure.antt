-- SPDX-License-Identifier: Apache-2.0
-- Nodes in a map by their keys, each with edges to keys, and the closure of their edges. Keys are compared by their order.
use Rattle.std.specs.Prelude.{◌≡◌, IsTrue, List, [], Option, Some, None, Contains}
use Rattle.std.specs.declared.cmp.Ordering.{Ordering}
use Rattle.std.specs.declared.cmp.Ordering.TheVariants.{Less}
use Rattle.std.specs.List.{AllZip}
use Rattle.std.specs.Map.{keys_of}
use Rattle.cedar_names.specs.of_data.Maps.{get}
use Rattle.cedar_names.specs.of_data.Sets.{contains, IsSetOf}
use Rattle.cedar_closure.specs.Chains.{Reaches}

module _ {K V : Type 0} (cmp : K → K → Ordering) (edges : V → List K) where
  -- the edges of the node, none where there is no node
  abbrev pub edges_of : Option V → List K
  edges_of None = []
  edges_of (Some node) = edges node

  -- the edges of the node at the key, none where no node stands
  abbrev pub edges_at : List (K × V) → K → List K
  edges_at nodes key = edges_of (get cmp nodes key)

  -- a node stands at a, and has an edge to b
  abbrev pub HasEdge : List (K × V) → K → K → Type 0
  HasEdge nodes a b = IsTrue (contains cmp (edges_at nodes a) b)

  -- no key reaches itself
  abbrev pub IsAcyclic : List (K × V) → Type 0
  IsAcyclic nodes = (key : K) → Reaches (HasEdge nodes) key key → ⊥

  -- the vertex is the least key that reaches itself, as the map has it
  pub record IsLeastOnCycle (nodes : List (K × V)) (vertex : K) : Type 0 where
    pub stands : Contains (keys_of nodes) vertex
    pub on_cycle : Reaches (HasEdge nodes) vertex vertex
    pub least : (key : K) → Reaches (HasEdge nodes) key key → cmp key vertex ≡ Less → ⊥

module _ {K V : Type 0} (cmp : K → K → Ordering) (key : V → K) (edges : V → List K) (rest : V → V) where
  -- at the same key, the same node but for its edges, which are the set of the keys that a chain of steps leads to
  pub record Closes (Step : K → K → Type 0) (old new : K × V) : Type 0 where
    pub place : new.0 ≡ old.0
    pub same_key : key new.1 ≡ key old.1
    pub same_rest : rest new.1 ≡ rest old.1
    pub leads : IsSetOf cmp (Reaches Step old.0) (edges new.1)

  -- each node with an edge exactly to the keys that a chain of edges leads to
  abbrev pub IsClosure : List (K × V) → List (K × V) → Type 0
  IsClosure nodes closed = AllZip (Closes (HasEdge cmp edges nodes)) nodes closed
