-- SPDX-License-Identifier: Apache-2.0
-- The warnings that are given of a fragment, whatever text declares it: they depend on the names of its types alone, but for their places, which are left out here.
use Rattle.std.specs.Prelude.{List, [], ◌∷◌, ◌++◌, cond, flat_map}
use Rattle.std.specs.Map.{keys_of}
use Rattle.cedar_text.specs.Words.{has_word}
use Rattle.cedar_tree.specs.Trees.{Text}
use Rattle.cedar_tree.specs.Unplaced.{nowhere}
use Rattle.cedar_convert_warnings.specs.Shadowing.{is_builtin}
use Rattle.cedar_convert_warnings.specs.declared.warnings.SchemaWarning.{SchemaWarning}
use Rattle.cedar_convert_warnings.specs.declared.warnings.SchemaWarning.TheVariants.{ShadowsBuiltin, ShadowsEntity}
use Rattle.cedar_convert_fragment.specs.Fragments.{Definition, Fragment}

-- a warning, with its places left out
abbrev pub warning_unplaced : SchemaWarning → SchemaWarning
warning_unplaced (ShadowsBuiltin w) = ShadowsBuiltin (record { name = w.name; loc = nowhere })
warning_unplaced (ShadowsEntity w) = ShadowsEntity (record { name = w.name; entity_loc = nowhere; common_loc = nowhere })

-- of a type whose name a builtin type has, these being the extension types
abbrev pub builtin_warned : List Text → Text → List SchemaWarning
builtin_warned extensions name = cond (is_builtin extensions name) (ShadowsBuiltin (record { name = name; loc = nowhere }) ∷ []) []

-- of a common type whose name one of these entity types has
abbrev pub entity_warned : List Text → Text → List SchemaWarning
entity_warned entities name = cond (has_word entities name) (ShadowsEntity (record { name = name; entity_loc = nowhere; common_loc = nowhere }) ∷ []) []

-- of a common type: that an entity type has its name, and then that a builtin type has it
abbrev pub common_warned : List Text → List Text → Text → List SchemaWarning
common_warned extensions entities name = entity_warned entities name ++ builtin_warned extensions name

-- of what a namespace declares: of its common types and then of its entity types, each in the order of names
abbrev pub definition_warnings : List Text → Definition → List SchemaWarning
definition_warnings extensions d =
    flat_map (common_warned extensions (keys_of d.entity_types)) (keys_of d.common_types) ++ flat_map (builtin_warned extensions) (keys_of d.entity_types)

-- of a fragment: of each namespace in the order of their names
abbrev pub warnings_of : List Text → Fragment → List SchemaWarning
warnings_of extensions fragment = flat_map (λ n. definition_warnings extensions n.1) fragment
