-- SPDX-License-Identifier: Apache-2.0
-- The references of a world, outside types, that must mean entity types.
use Rattle.std.specs.Prelude.{◌++◌, List}
use Rattle.cedar_missing.specs.of_schema_error.NameReferences.{NameReference}
use Rattle.cedar_world.specs.Undeclared.{applications, entity_parents}
use Rattle.cedar_world.specs.Worlds.{World, actions, entity_types}

-- the parents of entity types, and what actions apply to
abbrev pub other_references : World → List NameReference
other_references w = entity_parents (entity_types w) ++ applications (actions w)
