-- SPDX-License-Identifier: Apache-2.0
-- The text of a schema as plain data: what is listed and counted of it, places aside.
use Rattle.std.specs.Prelude.{ℕ, ◌+◌, ◌*◌, List, [], ◌∷◌, map, flat_map, length, Option, None, Some, codes}
use Rattle.std.specs.List.{sum_by}
use Rattle.cedar_streams.specs.Texts.{◌+++◌}
use Rattle.cedar_schema_error.specs.FullNames.{FullName, Uid}
use Rattle.cedar_unfold.specs.Resolved.{Resolved, ResolvedAttributes, Boolean, Long, String, Extension, Set, Record, Entity, no_attributes, attribute}
use Rattle.cedar_checks.specs.of_world.Schemas.{EntityKind, EnumeratedKind, Schema, SchemaAction, SchemaEntity, StandardKind}
use Rattle.cedar_convert_warnings.specs.declared.warnings.SchemaWarning.{SchemaWarning}
use Rattle.cedar_listing.specs.Counts.{counted, line_of}
use Rattle.cedar_listing.specs.Listing.{name_text, quoted_text, list_text, behind_name, rows_text, enum_text, warning_line}

-- ---- the listing

-- an entity's id
abbrev pub plain_uid_text : Uid → List ℕ
plain_uid_text uid = name_text uid.ty +++ codes "::" +++ quoted_text uid.id

-- a type, and attributes with what stands behind their names
abbrev mutual
  pub plain_type_text : Resolved → List ℕ
  plain_type_text Boolean = codes "Bool"
  plain_type_text Long = codes "Long"
  plain_type_text String = codes "String"
  plain_type_text (Set element) = codes "Set<" +++ plain_type_text element +++ codes ">"
  plain_type_text (Record attributes is_open) = rows_text (plain_rows attributes)
  plain_type_text (Entity name) = codes "entity " +++ name_text name
  plain_type_text (Extension name) = codes "extension " +++ name_text name

  pub plain_rows : ResolvedAttributes → List (List ℕ × List ℕ)
  plain_rows no_attributes = []
  plain_rows (attribute name required ty others) = (name, behind_name (plain_type_text ty) required) ∷ plain_rows others

-- the type of tags, where there are any
abbrev pub plain_tags_text : Option Resolved → List ℕ
plain_tags_text None = []
plain_tags_text (Some tags) = codes " tags " +++ plain_type_text tags

-- what the entities of a type have, or which they are
abbrev pub plain_kind_text : EntityKind → List ℕ
plain_kind_text (StandardKind attributes is_open tags) = codes " attributes " +++ rows_text (plain_rows attributes) +++ plain_tags_text tags
plain_kind_text (EnumeratedKind ids) = enum_text ids

-- the line of an entity type
abbrev pub plain_entity_line : FullName × SchemaEntity → List ℕ
plain_entity_line e =
    codes "entity " +++ name_text e.0
    +++ codes " descendants " +++ list_text (map name_text e.1.descendants)
    +++ plain_kind_text e.1.kind +++ codes "\n"

-- the line of an action
abbrev pub plain_action_line : Uid × SchemaAction → List ℕ
plain_action_line a =
    codes "action " +++ plain_uid_text a.0
    +++ codes " descendants " +++ list_text (map plain_uid_text a.1.descendants)
    +++ codes " principals " +++ list_text (map name_text a.1.principals)
    +++ codes " resources " +++ list_text (map name_text a.1.resources)
    +++ codes " context " +++ plain_type_text a.1.context +++ codes "\n"

-- the lines of a schema, those of its entity types in order, and then those of its actions in order; and then those of warnings
abbrev pub plain_listing : Schema → List SchemaWarning → List ℕ
plain_listing S warnings =
    flat_map plain_entity_line S.entity_types
    +++ flat_map plain_action_line S.actions
    +++ flat_map warning_line warnings

-- ---- the counts

-- how many descend from an entity type, and from an action
abbrev pub plain_below_type : FullName × SchemaEntity → ℕ
plain_below_type e = length e.1.descendants

abbrev pub plain_below_action : Uid × SchemaAction → ℕ
plain_below_action a = length a.1.descendants

-- how many request environments an action has
abbrev pub plain_environments_of : Uid × SchemaAction → ℕ
plain_environments_of a = length a.1.principals * length a.1.resources

-- the line of counts of a schema and of its warnings
abbrev pub plain_counts : Schema → List SchemaWarning → List ℕ
plain_counts S warnings =
    line_of (counted (length S.entity_types)) (counted (length S.actions)) (counted (length warnings))
    (counted (sum_by plain_below_type S.entity_types + sum_by plain_below_action S.actions))
    (counted (sum_by plain_environments_of S.actions))
