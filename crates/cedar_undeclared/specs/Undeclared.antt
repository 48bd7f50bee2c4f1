-- SPDX-License-Identifier: Apache-2.0
-- Names that must be entity types and are none, among full types and other names, and the refusal that they are.
use Rattle.std.specs.Prelude.{◌++◌, ◌&&◌, Bool, not, IsTrue, List, [], ◌∷◌, Option, Some, None, map}
use Rattle.cedar_data.specs.Maps.{map_values}
use Rattle.cedar_data.specs.Sets.{contains}
use Rattle.cedar_missing.specs.of_declared.Names.{Names, is_entity}
use Rattle.cedar_names.specs.Components.{components, has_cedar}
use Rattle.cedar_names.specs.Order.{words_cmp}
use Rattle.cedar_names.specs.declared.internal_name.InternalName.{InternalName}
use Rattle.cedar_missing.specs.of_schema_error.FullNames.{FullName}
use Rattle.cedar_missing.specs.of_schema_error.Refusals.{Refusal, UndeclaredEntityTypes}
use Rattle.cedar_world.specs.of_unfold.Written.{Written}
use Rattle.cedar_world.specs.of_unfold.WrittenViews.{written_type}
use Rattle.cedar_world.specs.Undeclared.{all_entity_references}
use Rattle.cedar_written.specs.declared.ty.SchemaType.{SchemaType}

-- full types, at their keys
abbrev pub full_types : {K : Type 0} → List (K × SchemaType InternalName) → List (K × Written FullName)
full_types es = map_values (written_type components) es

-- the names that stand where only an entity type may stand: in common types, in uses, and all others
abbrev pub names_of_entities : {K : Type 0} → List (InternalName × SchemaType InternalName) → List (K × SchemaType InternalName) → List InternalName → List FullName
names_of_entities common_types uses others = all_entity_references (full_types common_types) ++ (all_entity_references (full_types uses) ++ map components others)

-- the name is one of these, and no declared entity type
abbrev pub IsUndeclaredAmong : Names → List FullName → FullName → Type 0
IsUndeclaredAmong names given name = IsTrue (contains words_cmp given name && not (is_entity names name))

-- a name that may be that of an entity type
abbrev pub is_free : FullName → Bool
is_free name = not (has_cedar name)

-- the refusal of these names, if there are any
abbrev pub undeclared_refusal : List FullName → Option Refusal
undeclared_refusal [] = None
undeclared_refusal (name ∷ names) = Some (UndeclaredEntityTypes name names)
