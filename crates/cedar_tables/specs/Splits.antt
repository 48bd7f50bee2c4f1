-- SPDX-License-Identifier: Apache-2.0
-- Entity types and actions, as code holds them, parted into outlines and uses of types.
use Rattle.std.specs.Prelude.{◌++◌, List, [], Option, Some, None, option_to_list, map}
use Rattle.std.specs.List.{flat_map}
use Rattle.std.specs.declared.cmp.Ordering.{Ordering}
use Rattle.cedar_data.specs.Maps.{map_of}
use Rattle.cedar_declared.specs.Gathering.{action_cmp}
use Rattle.cedar_declared.specs.of_definitions.declared.structures.EntityTypeFragment.{EntityTypeFragment}
use Rattle.cedar_declared.specs.of_definitions.declared.structures.EntityTypeFragment.TheVariants.{Standard, Enum}
use Rattle.cedar_names.specs.Names.{entity_cmp}
use Rattle.cedar_names.specs.declared.entity_uid.EntityUID.{EntityUID}
use Rattle.cedar_names.specs.declared.name.EntityType.{EntityType}
use Rattle.cedar_meaning.specs.of_schema_error.contracts.use_place.UsePlaceOrd.TheImpl as order
use Rattle.cedar_meaning.specs.of_schema_error.declared.use_place.UsePlace.{UsePlace}
use Rattle.cedar_meaning.specs.of_schema_error.declared.use_place.UsePlace.TheVariants.{Shape, Tags, Context}
use Rattle.cedar_text.specs.declared.location.Loc.{Loc}
use Rattle.cedar_written.specs.declared.conditional_name.ConditionalName.{ConditionalName}
use Rattle.cedar_written.specs.declared.ty.SchemaType.{SchemaType}
use Rattle.cedar_tables.specs.Declarations.{Action, Definition, PlacedEntity, actions_of, fragments_of}
use Rattle.cedar_outlines.specs.declared.outlines.ActionOutline.{ActionOutline}
use Rattle.cedar_outlines.specs.declared.outlines.EntityOutline.{EntityOutline}

-- a use of a type
abbrev pub Use : Type 0
Use = UsePlace × SchemaType ConditionalName

-- the order of places: shapes, then tags, then contexts, each in the order of names
abbrev pub use_cmp : UsePlace → UsePlace → Ordering
use_cmp = order.ghosts.cmp

-- what is left of an entity type without its types
abbrev pub outline_at : EntityTypeFragment ConditionalName → Option Loc → EntityOutline
outline_at (Standard shape parents tags) loc = record { parents = parents; choices = None; loc = loc }
outline_at (Enum ids) loc = record { parents = []; choices = Some ids; loc = loc }

abbrev pub outline_of : PlacedEntity → EntityOutline
outline_of e = outline_at e.fragment e.loc

-- the shape of an entity type, where it has one
abbrev pub fragment_shape : EntityTypeFragment ConditionalName → Option (SchemaType ConditionalName)
fragment_shape (Standard shape parents tags) = Some shape.0
fragment_shape (Enum ids) = None

-- the type of its tags, where it has some
abbrev pub fragment_tags : EntityTypeFragment ConditionalName → Option (SchemaType ConditionalName)
fragment_tags (Standard shape parents tags) = tags
fragment_tags (Enum ids) = None

-- the use of a type at a place, where there is a type
abbrev pub use_at : {T : Type 0} → UsePlace → Option T → List (UsePlace × T)
use_at place ty = map (λ t. (place, t)) (option_to_list ty)

-- the uses of entity types: of shapes, and of types of tags
abbrev pub shape_use : EntityType × PlacedEntity → List Use
shape_use e = use_at (Shape e.0) (fragment_shape e.1.fragment)

abbrev pub tags_use : EntityType × PlacedEntity → List Use
tags_use e = use_at (Tags e.0) (fragment_tags e.1.fragment)

-- what is left of an action without the type of its context
abbrev pub action_outline_of : Action → ActionOutline
action_outline_of a = record {
  parents = a.parents;
  applies_to = a.applies_to;
  attribute_types = a.attribute_types;
  attributes = a.attributes;
  loc = a.loc;
}

-- the use of its context
abbrev pub context_use : EntityUID × Action → Use
context_use a = (Context a.0, a.1.context)

-- the uses of entity types and of actions: shapes, then types of tags, then contexts
abbrev pub all_uses : List (EntityType × PlacedEntity) → List (EntityUID × Action) → List Use
all_uses types actions = (flat_map shape_use types ++ flat_map tags_use types) ++ map context_use actions

-- the uses of entity types, each with all that its type has: shapes, and types of tags
abbrev pub shape_at : EntityType × EntityTypeFragment ConditionalName → List Use
shape_at e = use_at (Shape e.0) (fragment_shape e.1)

abbrev pub tags_at : EntityType × EntityTypeFragment ConditionalName → List Use
tags_at e = use_at (Tags e.0) (fragment_tags e.1)

-- the uses of definitions, so: of the entity types and actions that stay
abbrev pub uses_kept : List Definition → List Use
uses_kept all =
    (flat_map shape_at (map_of entity_cmp (fragments_of all)) ++ flat_map tags_at (map_of entity_cmp (fragments_of all)))
    ++ map context_use (map_of action_cmp (actions_of all))
