-- SPDX-License-Identifier: Apache-2.0
-- Of which declared names a warning is given, and in which order.
use Rattle.std.specs.Prelude.{Bool, ◌||◌, List, [], ◌∷◌, ◌++◌, map, flat_map, cond, Option, option_map, option_to_list}
use Rattle.cedar_data.specs.Maps.{get, map_of}
use Rattle.cedar_names.specs.Components.{components}
use Rattle.cedar_names.specs.Order.{word_cmp}
use Rattle.cedar_names.specs.declared.internal_name.InternalName.{InternalName}
use Rattle.cedar_text.specs.Words.{has_word, is_primitive_word}
use Rattle.cedar_tree.specs.Trees.{Place, Text, Schema}
use Rattle.cedar_convert_faults.specs.Bindings.{common_names, entity_names, names_in}
use Rattle.cedar_convert_faults.specs.Gathering.{Declarations, Gathered, namespace_cmp, namespace_name, namespaces_of}
use Rattle.cedar_convert_faults.specs.Repeats.{Names}
use Rattle.cedar_convert_warnings.specs.declared.warnings.SchemaWarning.{SchemaWarning}
use Rattle.cedar_convert_warnings.specs.declared.warnings.SchemaWarning.TheVariants.{ShadowsBuiltin, ShadowsEntity}

-- declared names with their places, in the order of the names
abbrev pub places_by_name : Names → List (Text × Place)
places_by_name names = map_of word_cmp (map (λ n. (n.node, n.loc)) names)

-- whether a word is the name of a builtin type, these being the extension types
abbrev pub is_builtin : List Text → Text → Bool
is_builtin extensions word = is_primitive_word word || has_word extensions word

-- a declared name that a builtin type has
abbrev pub builtin_shadowed : List Text → Text × Place → List SchemaWarning
builtin_shadowed extensions name = cond (is_builtin extensions name.0) (ShadowsBuiltin (record { name = name.0; loc = name.1 }) ∷ []) []

-- the name of a common type that an entity type has, the first place being that of the entity type
abbrev pub entity_shadowed : List (Text × Place) → Text × Place → List SchemaWarning
entity_shadowed entities name =
    map (λ entity. ShadowsEntity (record { name = name.0; entity_loc = entity; common_loc = name.1 })) (option_to_list (get word_cmp entities name.0))

-- the warnings of a common type: that it has the name of an entity type, and then that it has the name of a builtin one
abbrev pub common_shadows : List Text → List (Text × Place) → Text × Place → List SchemaWarning
common_shadows extensions entities name = entity_shadowed entities name ++ builtin_shadowed extensions name

-- the warnings of a namespace: of its common types and then of its entity types, each in the order of names
abbrev pub namespace_shadows : List Text → Declarations → List SchemaWarning
namespace_shadows extensions decls =
    flat_map (common_shadows extensions (places_by_name (names_in entity_names decls))) (places_by_name (names_in common_names decls))
    ++ flat_map (builtin_shadowed extensions) (places_by_name (names_in entity_names decls))

-- the warnings of a namespace under its name
abbrev pub namespace_entry : List Text → Gathered → Option (List Text) × List SchemaWarning
namespace_entry extensions g = (namespace_name g, namespace_shadows extensions g.decls)

-- the warnings of each namespace by its name
abbrev pub shadows_by_namespace : List Text → List Gathered → List (Option (List Text) × List SchemaWarning)
shadows_by_namespace extensions gs = map_of namespace_cmp (map (namespace_entry extensions) gs)

-- an entry under the words of its name
abbrev pub by_words : {V : Type 0} → Option InternalName × V → Option (List Text) × V
by_words e = (option_map components e.0, e.1)

-- the warnings of namespaces, in the order of their names
abbrev pub shadows : List Text → List Gathered → List SchemaWarning
shadows extensions gs = flat_map (λ e. e.1) (shadows_by_namespace extensions gs)

-- the warnings of a schema
abbrev pub warnings : List Text → Schema → List SchemaWarning
warnings extensions s = shadows extensions (namespaces_of s)
