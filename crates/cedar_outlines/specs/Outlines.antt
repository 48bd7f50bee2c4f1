-- SPDX-License-Identifier: Apache-2.0
-- What is left of entity types and of actions without their types, and uses of types, places aside.
use Rattle.std.specs.Prelude.{ℕ, List, Option, Some, None, map}
use Rattle.std.specs.Option.{option_map}
use Rattle.cedar_names.specs.Names.{entity_words}
use Rattle.cedar_names.specs.declared.entity_uid.EntityUID.{EntityUID}
use Rattle.cedar_names.specs.declared.name.EntityType.{EntityType}
use Rattle.cedar_meaning.specs.of_schema_error.FullNames.{FullName, Uid, uid_in}
use Rattle.cedar_meaning.specs.of_schema_error.NameReferences.{ActionReference, NameReference, action_reference_of, reference_of}
use Rattle.cedar_meaning.specs.of_schema_error.Refusals.{UsePlace}
use Rattle.cedar_meaning.specs.of_schema_error.Told.{told_use}
use Rattle.cedar_meaning.specs.of_schema_error.declared.use_place.UsePlace as code
use Rattle.cedar_text.specs.Lists.{elements}
use Rattle.cedar_text.specs.declared.location.Loc.{Loc}
use Rattle.cedar_types.specs.declared.ty.Attributes.{Attributes}
use Rattle.cedar_types.specs.declared.value.ValueMap.{ValueMap}
use Rattle.cedar_meaning.specs.of_unfolding.Written.{Written}
use Rattle.cedar_meaning.specs.DefinitionViews.{type_in}
use Rattle.cedar_meaning.specs.Definitions.{ActionDefinition, EntityDefinition, Enumerated, Standard, parents_of}
use Rattle.cedar_written.specs.declared.conditional_name.ConditionalName.{ConditionalName}
use Rattle.cedar_written.specs.declared.ty.SchemaType.{SchemaType}
use Rattle.cedar_outlines.specs.declared.outlines.ActionOutline.{ActionOutline}
use Rattle.cedar_outlines.specs.declared.outlines.EntityOutline.{EntityOutline}

-- an entity type without its types: its parents, and the ids of its entities where it lists them
pub record EntityParts : Type 0 where
  pub parents : List NameReference
  pub choices : Option (List (List ℕ))

-- an action without its types
pub record ActionParts : Type 0 where
  pub parents : List ActionReference
  pub principals : List NameReference
  pub resources : List NameReference
  pub attribute_types : Attributes
  pub attributes : ValueMap

-- the ids of the entities of an entity type that lists them
abbrev pub choices_of : {N : Type 0} → EntityDefinition N → Option (List (List ℕ))
choices_of (Standard parents shape tags) = None
choices_of (Enumerated ids) = Some ids

-- what is left of an entity type
abbrev pub entity_parts : EntityDefinition NameReference → EntityParts
entity_parts e = record { parents = parents_of e; choices = choices_of e }

-- what is left of an action
abbrev pub action_parts : ActionDefinition NameReference ActionReference → ActionParts
action_parts a = record {
  parents = a.parents;
  principals = a.principals;
  resources = a.resources;
  attribute_types = a.attribute_types;
  attributes = a.attributes;
}

-- both, under their names
abbrev pub entity_outline : FullName × EntityDefinition NameReference → FullName × EntityParts
entity_outline e = (e.0, entity_parts e.1)

abbrev pub action_outline : Uid × ActionDefinition NameReference ActionReference → Uid × ActionParts
action_outline a = (a.0, action_parts a.1)

-- what the outline of an entity type says
abbrev pub parts_of_entity : EntityOutline → EntityParts
parts_of_entity o = record { parents = map reference_of o.parents; choices = option_map elements o.choices }

-- what the outline of an action says
abbrev pub parts_of_action : ActionOutline → ActionParts
parts_of_action o = record {
  parents = map action_reference_of o.parents;
  principals = map reference_of o.applies_to.principal_apply_spec;
  resources = map reference_of o.applies_to.resource_apply_spec;
  attribute_types = o.attribute_types;
  attributes = o.attributes;
}

-- both, under their names
abbrev pub entity_outline_in : EntityType × EntityOutline → FullName × EntityParts
entity_outline_in e = (entity_words e.0, parts_of_entity e.1)

abbrev pub action_outline_in : EntityUID × ActionOutline → Uid × ActionParts
action_outline_in a = (uid_in a.0, parts_of_action a.1)

-- the place of an entity type and of an action
abbrev pub entity_place : EntityType × EntityOutline → EntityType × Option Loc
entity_place e = (e.0, e.1.loc)

abbrev pub action_place : EntityUID × ActionOutline → EntityUID × Option Loc
action_place a = (a.0, a.1.loc)

-- the use of a type
abbrev pub use_in : code.UsePlace × SchemaType ConditionalName → UsePlace × Written NameReference
use_in u = (told_use u.0, type_in u.1)
