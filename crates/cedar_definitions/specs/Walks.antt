-- SPDX-License-Identifier: Apache-2.0
-- What iterators over definitions still give.
use Rattle.std.specs.Prelude.{List, [], map, Option, Some, None}
use Rattle.std.specs.Slice.Iter.{iter_rest}
use Rattle.cedar_written.specs.of_names.declared.internal_name.InternalName.{InternalName}
use Rattle.cedar_written.specs.declared.ref_name.RefName as ref_name
use Rattle.cedar_definitions.specs.declared.structures.EntityTypeFragment.{EntityTypeFragment}
use Rattle.cedar_definitions.specs.declared.structures.EntityTypeFragment.TheVariants.{Enum, Standard}
use Rattle.cedar_definitions.specs.declared.structures.ValidatorNamespaceDef.{ValidatorNamespaceDef}
use Rattle.cedar_definitions.specs.declared.walks.NamespaceIter.{NamespaceIter}
use Rattle.cedar_definitions.specs.declared.walks.ParentIter.{ParentIter}

module _ {N A : Type 0} {R : ref_name.Ghosts N} where
  -- the namespaces of definitions, in order
  abbrev pub namespaces_of : List (ValidatorNamespaceDef N A R) → List (Option InternalName)
  namespaces_of definitions = map (λ definition. definition.namespace) definitions

  -- the namespaces that are left
  abbrev pub namespaces_left : NamespaceIter N A R → List (Option InternalName)
  namespaces_left it = namespaces_of (iter_rest it.definitions)

-- the keys of a set, where there is one
abbrev pub keys_in : {N : Type 0} → Option (List N) → List N
keys_in None = []
keys_in (Some keys) = keys

-- the parents that are left
abbrev pub parents_left : {N : Type 0} → ParentIter N → List N
parents_left it = keys_in it.parents

-- the parents of an entity type, of which one whose entities are listed has none
abbrev pub parents_of : {N : Type 0} → EntityTypeFragment N → List N
parents_of (Standard attributes parents tags) = parents
parents_of (Enum ids) = []
