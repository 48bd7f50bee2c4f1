-- SPDX-License-Identifier: Apache-2.0
-- What errors print of names, and where those stand.
use Rattle.std.specs.Prelude.{◌++◌, ℕ, List, [], ◌∷◌, Option, None, codes}
use Rattle.std.specs.Option.{option_map_or}
use Rattle.cedar_names.specs.of_text.Escapes.{escaped}
use Rattle.cedar_names.specs.of_text.Joining.{joined}
use Rattle.cedar_names.specs.of_text.declared.location.Loc.{Loc}
use Rattle.cedar_names.specs.Components.{components, loc_of}
use Rattle.cedar_names.specs.EntityUids.{place_of, uid_text}
use Rattle.cedar_names.specs.Names.{entity_words}
use Rattle.cedar_names.specs.declared.internal_name.InternalName.{InternalName}
use Rattle.cedar_names.specs.declared.name.EntityType.{EntityType}
use Rattle.cedar_places.specs.Places.{entity_place}
use Rattle.cedar_fragment.specs.ActionUids.{over_conditional, type_in}
use Rattle.cedar_fragment.specs.declared.action_uid.ActionEntityUID.{ActionEntityUID}
use Rattle.cedar_written.specs.Possibilities.{possibilities_of, raw_of, written}
use Rattle.cedar_written.specs.declared.conditional_name.ConditionalName.{ConditionalName}
use Rattle.cedar_written.specs.declared.reference_type.ReferenceType.{ReferenceType}
use Rattle.cedar_written.specs.declared.reference_type.ReferenceType.TheVariants.{Common, Entity, CommonOrEntity}
use Rattle.cedar_schema_error.specs.declared.type_errors.ContextOrShape.{ContextOrShape}
use Rattle.cedar_schema_error.specs.declared.type_errors.ContextOrShape.TheVariants.{ActionContext, EntityTypeShape}
use Rattle.cedar_schema_error.specs.declared.use_place.DeepPlace.{DeepPlace}
use Rattle.cedar_schema_error.specs.declared.use_place.DeepPlace.TheVariants as deep
use Rattle.cedar_schema_error.specs.declared.use_place.UsePlace.{UsePlace}
use Rattle.cedar_schema_error.specs.declared.use_place.UsePlace.TheVariants as use_at

-- the last of a list that begins with x
abbrev pub final : {A : Type 0} → A → List A → A
final x [] = x
final x (y ∷ ys) = final y ys

-- the name as it is written is the last that it may stand for
abbrev pub last_possibility : ConditionalName → InternalName
last_possibility n = final (possibilities_of n).head (possibilities_of n).tail

-- a name as it is written
abbrev pub written_text : ConditionalName → List ℕ
written_text n = joined (components (last_possibility n))

-- the parent of an action: its type as it is written, `::`, and its quoted id
abbrev pub parent_text : ActionEntityUID ConditionalName over_conditional → List ℕ
parent_text a = option_map_or written_text (type_in a) [] ++ codes "::\"" ++ escaped a.id ++ codes "\""

-- an entity type
abbrev pub entity_text : EntityType → List ℕ
entity_text ty = joined (entity_words ty)

-- a use of a type: the entity type or the action
abbrev pub use_text : UsePlace → List ℕ
use_text (use_at.Shape ty) = entity_text ty
use_text (use_at.Tags ty) = entity_text ty
use_text (use_at.Context uid) = uid_text uid

-- a place of a deep type
abbrev pub deep_text : DeepPlace → List ℕ
deep_text (deep.Common name) = joined (components name)
deep_text (deep.Place place) = use_text place

-- as which kinds of types a reference could have been declared
abbrev pub kind_text : ReferenceType → List ℕ
kind_text Common = codes "as a common type"
kind_text Entity = codes "as an entity type"
kind_text CommonOrEntity = codes "as a common or entity type"

-- the place of a reference
abbrev pub reference_place : ConditionalName → Option Loc
reference_place n = loc_of (written (raw_of n))

-- the place of the parent of an action: that of its type
abbrev pub parent_place : ActionEntityUID ConditionalName over_conditional → Option Loc
parent_place a = option_map_or reference_place (type_in a) None

-- the place of a use
abbrev pub use_location : UsePlace → Option Loc
use_location (use_at.Shape ty) = entity_place ty
use_location (use_at.Tags ty) = entity_place ty
use_location (use_at.Context uid) = place_of uid

-- the place of a deep type
abbrev pub deep_location : DeepPlace → Option Loc
deep_location (deep.Common name) = loc_of name
deep_location (deep.Place place) = use_location place

-- the place of an action or an entity type
abbrev pub context_or_shape_location : ContextOrShape → Option Loc
context_or_shape_location (ActionContext uid) = place_of uid
context_or_shape_location (EntityTypeShape ty) = entity_place ty
