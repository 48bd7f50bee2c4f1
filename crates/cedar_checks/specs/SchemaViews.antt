-- SPDX-License-Identifier: Apache-2.0
-- What a resolved schema is, places aside.
use Rattle.std.specs.Prelude.{◌≡◌, List, map}
use Rattle.std.specs.Option.{option_map}
use Rattle.cedar_data.specs.Firsts.{AllPass}
use Rattle.cedar_names.specs.Names.{entity_words}
use Rattle.cedar_names.specs.declared.entity_uid.EntityUID.{EntityUID}
use Rattle.cedar_names.specs.declared.name.EntityType.{EntityType}
use Rattle.cedar_resolved.specs.Kinds.{standard_open, standard_tags}
use Rattle.cedar_resolved.specs.Schemas.{action_attribute_types, action_attributes, action_context, action_descendants, action_name, action_principals, action_resources, action_types, no_attributes, type_attributes, type_name, types}
use Rattle.cedar_resolved.specs.declared.action.ValidatorActionId.{ValidatorActionId}
use Rattle.cedar_resolved.specs.declared.entity_type.ValidatorEntityType.{ValidatorEntityType}
use Rattle.cedar_resolved.specs.declared.kind.ValidatorEntityTypeKind.{ValidatorEntityTypeKind}
use Rattle.cedar_resolved.specs.declared.kind.ValidatorEntityTypeKind.TheVariants.{Enum, Standard}
use Rattle.cedar_resolved.specs.declared.schema.ValidatorSchema.{ValidatorSchema}
use Rattle.cedar_schema_error.specs.FullNames.{FullName, Uid, uid_in}
use Rattle.cedar_text.specs.Lists.{elements}
use Rattle.cedar_types.specs.Types.{entries}
use Rattle.cedar_types.specs.declared.ty.Attributes.{Attributes}
use Rattle.cedar_unfold.specs.ResolvedViews.{is_open, resolved, resolved_map}
use Rattle.cedar_meaning.specs.Schemas.{EntityKind, EnumeratedKind, Schema, SchemaAction, SchemaEntity, StandardKind}

-- the kind of an entity type with these attributes
abbrev pub kind_of : Attributes → ValidatorEntityTypeKind → EntityKind
kind_of attributes (Standard s) = StandardKind (resolved_map (entries attributes)) (is_open (standard_open s)) (option_map resolved (standard_tags s))
kind_of attributes (Enum ids) = EnumeratedKind (elements ids)

-- an entity type
abbrev pub entity_of : ValidatorEntityType → SchemaEntity
entity_of e = record { descendants = map entity_words e.descendants; kind = kind_of (type_attributes e) e.kind }

-- under its name
abbrev pub entity_in : EntityType × ValidatorEntityType → FullName × SchemaEntity
entity_in e = (entity_words e.0, entity_of e.1)

-- an action
abbrev pub action_of : ValidatorActionId → SchemaAction
action_of a = record {
  principals = map entity_words (action_principals a);
  resources = map entity_words (action_resources a);
  context = resolved (action_context a);
  attribute_types = action_attribute_types a;
  attributes = action_attributes a;
  descendants = map uid_in (action_descendants a);
}

-- under its id
abbrev pub action_in : EntityUID × ValidatorActionId → Uid × SchemaAction
action_in a = (uid_in a.0, action_of a.1)

-- a schema
abbrev pub schema_in : ValidatorSchema → Schema
schema_in S = record { entity_types = map entity_in (types S); actions = map action_in (action_types S) }

-- the entity types of a schema under their names
abbrev pub types_of : ValidatorSchema → List (EntityType × ValidatorEntityType)
types_of S = types S

-- a type that lists its entities has no attributes
abbrev pub FitsKind : Attributes → ValidatorEntityTypeKind → Type 0
FitsKind attributes (Standard s) = Unit {0}
FitsKind attributes (Enum ids) = attributes ≡ no_attributes

-- each entity type and each action stands under its own name, and an entity type that lists its entities has no attributes
pub record IsConsistent (S : ValidatorSchema) : Type 0 where
  pub entity_types : AllPass (λ e. type_name e.1 ≡ e.0) (types S)
  pub attributes : AllPass (λ e. FitsKind (type_attributes e.1) e.1.kind) (types S)
  pub actions : AllPass (λ a. action_name a.1 ≡ a.0) (action_types S)
