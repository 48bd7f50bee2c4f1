-- SPDX-License-Identifier: Apache-2.0
-- Definitions of common types alone.
use Rattle.std.specs.Prelude.{◌≡◌, List, [], Option, None, map}
use Rattle.cedar_written.specs.of_data.Maps.{map_of}
use Rattle.cedar_written.specs.of_names.Components.{internal_name, qualified}
use Rattle.cedar_written.specs.of_names.Identifiers.{id_of}
use Rattle.cedar_written.specs.of_names.Names.{internal_cmp}
use Rattle.cedar_written.specs.of_names.declared.id.UnreservedId.{UnreservedId}
use Rattle.cedar_written.specs.of_names.declared.internal_name.InternalName.{InternalName}
use Rattle.cedar_fragment.specs.ActionUids.{over_conditional}
use Rattle.cedar_written.specs.declared.conditional_name.ConditionalName.{ConditionalName}
use Rattle.cedar_written.specs.declared.ty.SchemaType.{SchemaType}
use Rattle.cedar_definitions.specs.declared.structures.ValidatorNamespaceDef.{ValidatorNamespaceDef}

-- the name of an identifier in a namespace, with no place
abbrev pub name_in : Option InternalName → UnreservedId → InternalName
name_in ns id = qualified (internal_name (id_of id) [] None) ns

-- types under their names in a namespace
abbrev pub named_types : {T : Type 0} → Option InternalName → List (UnreservedId × T) → List (InternalName × T)
named_types ns es = map (λ e. (name_in ns e.0, e.1)) es

-- the definition is of this namespace, has these common types, and declares nothing else
pub record IsOfCommonTypes (ns : Option InternalName) (types : List (UnreservedId × SchemaType ConditionalName)) (d : ValidatorNamespaceDef ConditionalName ConditionalName over_conditional) : Type 0 where
  pub namespace_is : d.namespace ≡ ns
  pub common_types_are : d.common_types.defs ≡ map_of internal_cmp (named_types ns types)
  pub no_entity_types : d.entity_types.defs ≡ []
  pub no_places : d.entity_types.locs ≡ []
  pub no_actions : d.actions.actions ≡ []
