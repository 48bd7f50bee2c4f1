-- SPDX-License-Identifier: Apache-2.0
-- The set of names of full types that must be entity types, and are not.
use Rattle.std.specs.Prelude.{List, Option, Some, None, cond}
use Rattle.std.specs.List.{filter_map}
use Rattle.cedar_data.specs.Sets.{IsSetOf}
use Rattle.cedar_declared.specs.Names.{Names, is_entity, target}
use Rattle.cedar_names.specs.Order.{words_cmp}
use Rattle.cedar_names.specs.declared.internal_name.InternalName.{InternalName}
use Rattle.cedar_schema_error.specs.FullNames.{FullName}
use Rattle.cedar_schema_error.specs.NameReferences.{NameReference}
use Rattle.cedar_schema_error.specs.declared.use_place.UsePlace.{UsePlace}
use Rattle.cedar_undeclared.specs.Undeclared.{IsUndeclaredAmong, names_of_entities}
use Rattle.cedar_written.specs.declared.ty.SchemaType.{SchemaType}

-- of the names that stand in full types where only an entity type may stand, and of the others, those that are no declared entity types
abbrev pub AreNotDeclared : Names → List (InternalName × SchemaType InternalName) → List (UsePlace × SchemaType InternalName) → List InternalName → List FullName → Type 0
AreNotDeclared names commons uses others ns = IsSetOf words_cmp (IsUndeclaredAmong names (names_of_entities commons uses others)) ns

-- a name, unless it is a declared entity type
abbrev pub unless_entity : Names → Option FullName → Option FullName
unless_entity names None = None
unless_entity names (Some name) = cond (is_entity names name) None (Some name)

-- the targets of references that are no declared entity types
abbrev pub other_targets : Names → List NameReference → List FullName
other_targets names rs = filter_map (λ r. unless_entity names (target names r)) rs
