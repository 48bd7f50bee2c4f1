-- SPDX-License-Identifier: Apache-2.0
-- The names that a schema gives to both an entity type and a common type.
use Rattle.std.specs.Prelude.{Bool, List, [], ◌∷◌, Option, Some, None, is_some, if◌then◌else◌}
use Rattle.std.specs.List.{flat_map}
use Rattle.std.specs.declared.cmp.Ordering.{Ordering}
use Rattle.cedar_data.specs.Maps.{get}
use Rattle.cedar_data.specs.Sets.{set_of}
use Rattle.cedar_names.specs.Components.{internal_name, qualified}
use Rattle.cedar_names.specs.Identifiers.{id_of, unreserved_word}
use Rattle.cedar_names.specs.Names.{internal_cmp, internal_of}
use Rattle.cedar_names.specs.Order.{word_cmp}
use Rattle.cedar_names.specs.declared.id.UnreservedId.{UnreservedId}
use Rattle.cedar_names.specs.declared.internal_name.InternalName.{InternalName}
use Rattle.cedar_names.specs.declared.name.Name.{Name}
use Rattle.cedar_written.specs.CommonTypeIds.{common_id, unreserved_of}
use Rattle.cedar_written.specs.declared.common_type_id.CommonTypeId.{CommonTypeId}
use Rattle.cedar_written.specs.declared.ref_name.RefName as ref_name
use Rattle.cedar_fragment.specs.declared.definitions.Fragment.{Fragment}
use Rattle.cedar_fragment.specs.declared.definitions.NamespaceDefinition.{NamespaceDefinition}

-- common types are ordered by the words of their identifiers
abbrev pub common_cmp : CommonTypeId → CommonTypeId → Ordering
common_cmp a b = word_cmp (unreserved_word (unreserved_of a)) (unreserved_word (unreserved_of b))

-- the name of an identifier in a namespace
abbrev pub full_name : Name → UnreservedId → InternalName
full_name path id = qualified (internal_name (id_of id) [] None) (Some (internal_of path))

module _ {N : Type 0} {R : ref_name.Ghosts N} where
  -- whether a common type of the namespace has the identifier
  abbrev pub has_common : NamespaceDefinition N R → UnreservedId → Bool
  has_common n id = is_some (get common_cmp n.common_types (common_id id))

  -- the full name of an entity type, where a common type of the namespace has the same identifier
  abbrev pub shared_name : Name → NamespaceDefinition N R → UnreservedId → List InternalName
  shared_name path n id = if has_common n id then full_name path id ∷ [] else []

  -- those of a namespace, in order
  abbrev pub shared_names : Name → NamespaceDefinition N R → List InternalName
  shared_names path n = flat_map (λ e. shared_name path n e.0) n.entity_types

  -- in the unnamed namespace none counts
  abbrev pub shared_under : Option Name → NamespaceDefinition N R → List InternalName
  shared_under None n = []
  shared_under (Some path) n = shared_names path n

  -- all full names of named namespaces that are both an entity type and a common type, namespace by namespace
  abbrev pub all_shared : Fragment N R → List InternalName
  all_shared fragment = flat_map (λ e. shared_under e.0 e.1) fragment.0

  -- the same, in their order
  abbrev pub collisions : Fragment N R → List InternalName
  collisions fragment = set_of internal_cmp (all_shared fragment)
