-- SPDX-License-Identifier: Apache-2.0
-- Lists in another order, and namespaces that declare the same.
use Rattle.std.specs.Prelude.{List, ◌∷◌}
use Rattle.std.specs.List.{flat_map}
use Rattle.cedar_world.specs.Definitions.{Namespace}
use Rattle.cedar_world.specs.Worlds.{World}

-- the second list has the items of the first in another order
pub data Reordered {A : Type 0} : List A → List A → Type 0 where
  same : {xs : List A} → Reordered xs xs
  swapped : {x y : A} {xs : List A} → Reordered (x ∷ y ∷ xs) (y ∷ x ∷ xs)
  behind : {x : A} {xs ys : List A} → Reordered xs ys → Reordered (x ∷ xs) (x ∷ ys)
  both : {xs ys zs : List A} → Reordered xs ys → Reordered ys zs → Reordered xs zs

-- the second namespaces declare what the first do: in whatever order, and spread over whatever namespaces
pub record DeclareAlike (all others : List Namespace) : Type 0 where
  pub common_types : Reordered (flat_map (λ ns. ns.common_types) all) (flat_map (λ ns. ns.common_types) others)
  pub entity_types : Reordered (flat_map (λ ns. ns.entity_types) all) (flat_map (λ ns. ns.entity_types) others)
  pub actions : Reordered (flat_map (λ ns. ns.actions) all) (flat_map (λ ns. ns.actions) others)

-- the world with these namespaces in place of its own
abbrev pub with_namespaces : World → List Namespace → World
with_namespaces W all = record { namespaces = all; extensions = W.extensions }
