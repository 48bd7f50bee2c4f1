-- SPDX-License-Identifier: Apache-2.0
-- The text of a schema and of its warnings: a line for each entity type, for each action, and then for each warning.
use Rattle.std.specs.Prelude.{ℕ, Bool, List, [], map, flat_map, if◌then◌else◌, codes, Option, None, Some}
use Rattle.std.specs.Map.{values_of}
use Rattle.cedar_text.specs.Escapes.{escaped}
use Rattle.cedar_text.specs.Lists.{elements}
use Rattle.cedar_names.specs.EntityUids.{eid_text, eid_of, entity_type_of}
use Rattle.cedar_names.specs.Names.{name_words, entity_words}
use Rattle.cedar_names.specs.declared.entity_uid.EntityUID.{EntityUID}
use Rattle.cedar_names.specs.declared.name.EntityType.{EntityType}
use Rattle.cedar_streams.specs.Texts.{◌+++◌, joined}
use Rattle.cedar_types.specs.Types.{LayerOf, fold_type, fold_attributes}
use Rattle.cedar_types.specs.declared.ty.Attributes.{Attributes}
use Rattle.cedar_types.specs.declared.ty.ResolvedType.{ResolvedType}
use Rattle.cedar_types.specs.declared.ty.TypeNode.TheOpen as layers
use Rattle.cedar_convert_warnings.specs.Texts.{warning_text}
use Rattle.cedar_convert_warnings.specs.declared.warnings.SchemaWarning.{SchemaWarning}
use Rattle.cedar_resolved.specs.Kinds.{standard_tags}
use Rattle.cedar_resolved.specs.Schemas.{type_name, type_attributes, types, action_name, action_descendants, action_principals, action_resources, action_context, action_types}
use Rattle.cedar_resolved.specs.declared.action.ValidatorActionId.{ValidatorActionId}
use Rattle.cedar_resolved.specs.declared.entity_type.ValidatorEntityType.{ValidatorEntityType}
use Rattle.cedar_resolved.specs.declared.kind.ValidatorEntityTypeKind.{ValidatorEntityTypeKind}
use Rattle.cedar_resolved.specs.declared.kind.ValidatorEntityTypeKind.TheVariants.{Enum, Standard}
use Rattle.cedar_resolved.specs.declared.schema.ValidatorSchema.{ValidatorSchema}

-- a name: its words, joined by `::`
abbrev pub name_text : List (List ℕ) → List ℕ
name_text words = joined (codes "::") words

-- the name of an entity type
abbrev pub entity_text : EntityType → List ℕ
entity_text entity = name_text (entity_words entity)

-- a text between quotes, escaped
abbrev pub quoted_text : List ℕ → List ℕ
quoted_text text = codes "\"" +++ escaped text +++ codes "\""

-- an entity's id: its type's name, `::`, and the id between quotes
abbrev pub uid_line_text : EntityUID → List ℕ
uid_line_text uid = entity_text (entity_type_of uid) +++ codes "::" +++ quoted_text (eid_text (eid_of uid))

-- a list: texts in brackets with commas between them
abbrev pub list_text : List (List ℕ) → List ℕ
list_text texts = codes "[" +++ joined (codes ", ") texts +++ codes "]"

-- what stands behind the name of an attribute: `?` where it isn't required, and the type's text
abbrev pub behind_name : List ℕ → Bool → List ℕ
behind_name ty is_required = (if is_required then [] else codes "?") +++ codes ": " +++ ty

-- attributes with what stands behind their names
abbrev pub rows_text : List (List ℕ × List ℕ) → List ℕ
rows_text rows = codes "{" +++ joined (codes ", ") (map (λ row. quoted_text row.0 +++ row.1) rows) +++ codes "}"

-- one layer of a type, from the texts of its parts
abbrev pub layer_text : LayerOf (List ℕ) (List ℕ) → List ℕ
layer_text layers.Bool = codes "Bool"
layer_text layers.Long = codes "Long"
layer_text layers.String = codes "String"
layer_text (layers.Set element) = codes "Set<" +++ element +++ codes ">"
layer_text (layers.Record rows tag) = rows_text rows
layer_text (layers.Entity entity) = codes "entity " +++ entity_text entity
layer_text (layers.Extension name) = codes "extension " +++ name_text (name_words name)

-- a type
abbrev pub type_text : ResolvedType → List ℕ
type_text = fold_type layer_text behind_name

-- the attributes of a record or of an entity type
abbrev pub attributes_text : Attributes → List ℕ
attributes_text attributes = rows_text (fold_attributes layer_text behind_name attributes)

-- the type of tags, where there are any
abbrev pub tags_text : Option ResolvedType → List ℕ
tags_text None = []
tags_text (Some tags) = codes " tags " +++ type_text tags

-- the attributes that entities have, and the tags that they may have
abbrev pub standard_text : Attributes → Option ResolvedType → List ℕ
standard_text attributes tags = codes " attributes " +++ attributes_text attributes +++ tags_text tags

-- the ids of the entities that are listed, in the order of the schema
abbrev pub enum_text : List (List ℕ) → List ℕ
enum_text ids = codes " enum " +++ list_text (map quoted_text ids)

-- what the entities of a type have, or which they are
abbrev pub kind_text : Attributes → ValidatorEntityTypeKind → List ℕ
kind_text attributes (Standard kind) = standard_text attributes (standard_tags kind)
kind_text attributes (Enum ids) = enum_text (elements ids)

-- the line of an entity type
abbrev pub entity_line : ValidatorEntityType → List ℕ
entity_line ty =
    codes "entity " +++ entity_text (type_name ty)
    +++ codes " descendants " +++ list_text (map entity_text ty.descendants)
    +++ kind_text (type_attributes ty) ty.kind +++ codes "\n"

-- the line of an action
abbrev pub action_line : ValidatorActionId → List ℕ
action_line action =
    codes "action " +++ uid_line_text (action_name action)
    +++ codes " descendants " +++ list_text (map uid_line_text (action_descendants action))
    +++ codes " principals " +++ list_text (map entity_text (action_principals action))
    +++ codes " resources " +++ list_text (map entity_text (action_resources action))
    +++ codes " context " +++ type_text (action_context action) +++ codes "\n"

-- the line of a warning
abbrev pub warning_line : SchemaWarning → List ℕ
warning_line warning = codes "warning " +++ warning_text warning +++ codes "\n"

-- the lines of a schema, those of its entity types in order, and then those of its actions in order; and then those of warnings
abbrev pub listing : ValidatorSchema → List SchemaWarning → List ℕ
listing schema warnings =
    flat_map entity_line (values_of (types schema))
    +++ flat_map action_line (values_of (action_types schema))
    +++ flat_map warning_line warnings
