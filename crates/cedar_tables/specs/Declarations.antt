-- SPDX-License-Identifier: Apache-2.0
-- What definitions declare, one after another, as code holds it.
use Rattle.std.specs.Prelude.{List, Option, map}
use Rattle.std.specs.List.{flat_map}
use Rattle.cedar_data.specs.Maps.{get}
use Rattle.cedar_declared.specs.of_definitions.declared.structures.ActionFragment.{ActionFragment}
use Rattle.cedar_declared.specs.of_definitions.declared.structures.EntityTypeFragment.{EntityTypeFragment}
use Rattle.cedar_declared.specs.of_definitions.declared.structures.EntityTypesDef.{EntityTypesDef}
use Rattle.cedar_declared.specs.of_definitions.declared.structures.ValidatorNamespaceDef.{ValidatorNamespaceDef}
use Rattle.cedar_fragment.specs.ActionUids.{over_conditional}
use Rattle.cedar_names.specs.Names.{entity_cmp, entity_words}
use Rattle.cedar_names.specs.declared.entity_uid.EntityUID.{EntityUID}
use Rattle.cedar_names.specs.declared.internal_name.InternalName.{InternalName}
use Rattle.cedar_names.specs.declared.name.EntityType.{EntityType}
use Rattle.cedar_meaning.specs.of_schema_error.FullNames.{FullName}
use Rattle.cedar_meaning.specs.of_schema_error.NameReferences.{NameReference}
use Rattle.cedar_text.specs.declared.location.Loc.{Loc}
use Rattle.cedar_meaning.specs.DefinitionViews.{kind_in}
use Rattle.cedar_meaning.specs.Definitions.{EntityDefinition}
use Rattle.cedar_written.specs.declared.conditional_name.ConditionalName.{ConditionalName}
use Rattle.cedar_written.specs.declared.ty.SchemaType.{SchemaType}
use Rattle.cedar_tables.specs.declared.declarations.Placed.{Placed}

-- the definitions of a namespace
abbrev pub Definition : Type 0
Definition = ValidatorNamespaceDef ConditionalName ConditionalName over_conditional

-- an action that a definition declares
abbrev pub Action : Type 0
Action = ActionFragment ConditionalName ConditionalName over_conditional

-- an entity type with a place
abbrev pub PlacedEntity : Type 0
PlacedEntity = Placed (EntityTypeFragment ConditionalName)

-- what stands under a name, with the place at that name
abbrev pub placed_by : {T : Type 0} → List (EntityType × Loc) → EntityType × T → EntityType × Placed T
placed_by locs e = (e.0, record { fragment = e.1; loc = get entity_cmp locs e.0 })

-- an entity type of a definition, with the place that the definition has at its name
abbrev pub placed : EntityTypesDef ConditionalName → EntityType × EntityTypeFragment ConditionalName → EntityType × PlacedEntity
placed types e = placed_by types.locs e

-- the entity types of a definition, so
abbrev pub placed_types : EntityTypesDef ConditionalName → List (EntityType × PlacedEntity)
placed_types types = map (placed types) types.defs

-- what definitions declare: common types, entity types with their places and without, actions
abbrev pub common_types_of : List Definition → List (InternalName × SchemaType ConditionalName)
common_types_of all = flat_map (λ d. d.common_types.defs) all

abbrev pub entity_types_of : List Definition → List (EntityType × PlacedEntity)
entity_types_of all = flat_map (λ d. placed_types d.entity_types) all

abbrev pub fragments_of : List Definition → List (EntityType × EntityTypeFragment ConditionalName)
fragments_of all = flat_map (λ d. d.entity_types.defs) all

abbrev pub actions_of : List Definition → List (EntityUID × Action)
actions_of all = flat_map (λ d. d.actions.actions) all

-- the place of each entity type and of each action that a definition declares
abbrev pub entity_places : Definition → List (EntityType × Option Loc)
entity_places d = map (λ e. (e.0, get entity_cmp d.entity_types.locs e.0)) d.entity_types.defs

abbrev pub action_places : Definition → List (EntityUID × Option Loc)
action_places d = map (λ a. (a.0, a.1.loc)) d.actions.actions

-- an entity type under its full name, places aside
abbrev pub placed_in : EntityType × PlacedEntity → FullName × EntityDefinition NameReference
placed_in e = (entity_words e.0, kind_in e.1.fragment)
