-- SPDX-License-Identifier: Apache-2.0
-- What a schema has under the name of an entity type.
use Rattle.std.specs.Prelude.{Bool, Option}
use Rattle.std.specs.BTreeMap.{is_at}
use Rattle.std.specs.List.{list_any}
use Rattle.std.specs.Map.{lookup}
use Rattle.cedar_names.specs.Order.{words_cmp}
use Rattle.cedar_schema_error.specs.FullNames.{FullName}
use Rattle.cedar_meaning.specs.Schemas.{Schema, SchemaEntity}

-- the entity type of a name in a schema
abbrev pub declared_type : Schema → FullName → Option SchemaEntity
declared_type S name = lookup (is_at (words_cmp name)) S.entity_types

-- whether the entity type has the one of this name among its descendants
abbrev pub is_above : SchemaEntity → FullName → Bool
is_above above name = list_any (is_at (words_cmp name)) above.descendants
