-- SPDX-License-Identifier: Apache-2.0
-- What is said of names that shadow others.
use Rattle.std.specs.Prelude.{ℕ, List, [], ◌∷◌, ◌++◌, codes}
use Rattle.cedar_text.specs.declared.location.Loc.{Loc}
use Rattle.cedar_convert_warnings.specs.declared.warnings.SchemaWarning.{SchemaWarning}
use Rattle.cedar_convert_warnings.specs.declared.warnings.SchemaWarning.TheVariants.{ShadowsBuiltin, ShadowsEntity}

-- what is said of a type that has the name of a builtin one
abbrev pub shadows_builtin_text : List ℕ → List ℕ
shadows_builtin_text name =
    codes "The name `" ++ name ++ codes "` shadows a builtin Cedar name. You'll have to refer to the builtin as `__cedar::" ++ name ++ codes "`."

-- of a common type that has the name of an entity type
abbrev pub shadows_entity_text : List ℕ → List ℕ
shadows_entity_text name = codes "The common type name " ++ name ++ codes " shadows an entity name"

-- what is said of a warning
abbrev pub warning_text : SchemaWarning → List ℕ
warning_text (ShadowsBuiltin w) = shadows_builtin_text w.name
warning_text (ShadowsEntity w) = shadows_entity_text w.name

-- the places that a warning keeps, in the order kept
abbrev pub warning_places : SchemaWarning → List Loc
warning_places (ShadowsBuiltin w) = w.loc ∷ []
warning_places (ShadowsEntity w) = w.entity_loc ∷ w.common_loc ∷ []
