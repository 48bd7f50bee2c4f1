-- SPDX-License-Identifier: Apache-2.0
-- The world of definitions: all that is declared, the builtin types and their aliases among it.
use Rattle.std.specs.Prelude.{◌++◌, ◌||◌, ℕ, Bool, not, List, [], ◌∷◌, map, codes}
use Rattle.std.specs.List.{filter, flat_map}
use Rattle.std.specs.Map.{keys_of}
use Rattle.cedar_data.specs.Maps.{map_of}
use Rattle.cedar_declared.specs.Names.{Names, is_common, is_entity, target}
use Rattle.cedar_names.specs.Order.{words_cmp}
use Rattle.cedar_unfolding.specs.of_schema_error.FullNames.{FullName, Uid, uid_cmp}
use Rattle.cedar_unfolding.specs.of_schema_error.NameReferences.{ActionReference, NameReference}
use Rattle.cedar_unfolding.specs.of_schema_error.Refusals.{UsePlace, Context, Shape, Tags}
use Rattle.cedar_names.specs.of_text.Words.{has_word, primitive_words}
use Rattle.cedar_unfolding.specs.Meanings.{Meanings}
use Rattle.cedar_unfolding.specs.UnfoldPhases.{Job}
use Rattle.cedar_unfolding.specs.Written.{Written, Boolean, Long, String, Extension, EntityOrCommon}
use Rattle.cedar_written.specs.declared.reference_type.ReferenceType.TheVariants.{CommonOrEntity}
use Rattle.cedar_meaning.specs.Definitions.{ActionDefinition, EntityDefinition, Namespace, of_common_types, shape_of, tags_of}

-- the names that namespaces declare
abbrev pub names_in : List Namespace → Names
names_in all = record {
  entity_types = flat_map (λ ns. keys_of ns.entity_types) all;
  common_types = flat_map (λ ns. keys_of ns.common_types) all;
  actions = flat_map (λ ns. keys_of ns.actions) all;
}

-- the full name of the builtin type of this word
abbrev pub builtin_name : List ℕ → FullName
builtin_name word = codes "__cedar" ∷ word ∷ []

-- a builtin type under its full name
abbrev pub builtin : List ℕ → Written NameReference → FullName × Written NameReference
builtin word ty = (builtin_name word, ty)

-- the primitive types
abbrev pub primitives : List (FullName × Written NameReference)
primitives = builtin (codes "Bool") Boolean ∷ builtin (codes "Long") Long ∷ builtin (codes "String") String ∷ []

-- the extension type of this word
abbrev pub extension_type : List ℕ → FullName × Written NameReference
extension_type word = builtin word (Extension word)

-- the builtin types: the primitive ones, and then the extension types
abbrev pub builtins : List (List ℕ) → List (FullName × Written NameReference)
builtins extensions = primitives ++ map extension_type extensions

-- an alias: the word alone, which stands for the builtin type
abbrev pub alias : List ℕ → FullName × Written NameReference
alias word = (word ∷ [], EntityOrCommon (record { raw = builtin_name word; possibilities = builtin_name word ∷ []; kind = CommonOrEntity }))

-- whether no type of this word alone is declared
abbrev pub is_free : Names → List ℕ → Bool
is_free own word = not (is_common own (word ∷ []) || is_entity own (word ∷ []))

-- the aliases of those of these words that are free
abbrev pub aliases_among : Names → List (List ℕ) → List (FullName × Written NameReference)
aliases_among own words = map alias (filter (is_free own) words)

-- the aliases of builtin types
abbrev pub aliases : Names → List (List ℕ) → List (FullName × Written NameReference)
aliases own extensions = aliases_among own (primitive_words ++ extensions)

-- the builtin types and the aliases as namespaces, where the caller declares these names
abbrev pub builtin_namespaces : Names → List (List ℕ) → List Namespace
builtin_namespaces own extensions =
    of_common_types (map_of words_cmp (builtins extensions)) ∷ of_common_types (map_of words_cmp (aliases own extensions)) ∷ []

-- the common types of namespaces in the order of their names
abbrev pub common_types_in : List Namespace → List (FullName × Written NameReference)
common_types_in all = map_of words_cmp (flat_map (λ ns. ns.common_types) all)

-- the entity types of namespaces in the order of their names
abbrev pub entity_types_in : List Namespace → List (FullName × EntityDefinition NameReference)
entity_types_in all = map_of words_cmp (flat_map (λ ns. ns.entity_types) all)

-- the actions of namespaces in the order of their ids
abbrev pub actions_in : List Namespace → List (Uid × ActionDefinition NameReference ActionReference)
actions_in all = map_of uid_cmp (flat_map (λ ns. ns.actions) all)

-- the uses of types by entity types and actions: shapes, then types of tags, then contexts, each in order
abbrev pub uses_by : List (FullName × EntityDefinition NameReference) → List (Uid × ActionDefinition NameReference ActionReference) → List (UsePlace × Written NameReference)
uses_by types actions =
    flat_map (λ e. map (λ t. (Shape e.0, t)) (shape_of e.1)) types
    ++ flat_map (λ e. map (λ t. (Tags e.0, t)) (tags_of e.1)) types
    ++ map (λ a. (Context a.0, a.1.context)) actions

-- those of namespaces
abbrev pub uses_in : List Namespace → List (UsePlace × Written NameReference)
uses_in all = uses_by (entity_types_in all) (actions_in all)

-- the namespaces that a caller defines, in order, and the words that name extension types
pub record World : Type 0 where
  pub namespaces : List Namespace
  pub extensions : List (List ℕ)

module _ (W : World) where
  -- the names that the caller declares
  abbrev pub own : Names
  own = names_in W.namespaces

  -- all namespaces, the builtin types and the aliases last
  abbrev pub all_namespaces : List Namespace
  all_namespaces = W.namespaces ++ builtin_namespaces own W.extensions

  -- all declared names
  abbrev pub names : Names
  names = names_in all_namespaces

  -- the common types in the order of their names
  abbrev pub common_types : List (FullName × Written NameReference)
  common_types = common_types_in all_namespaces

  -- the entity types in the order of their names
  abbrev pub entity_types : List (FullName × EntityDefinition NameReference)
  entity_types = entity_types_in all_namespaces

  -- the actions in the order of their ids
  abbrev pub actions : List (Uid × ActionDefinition NameReference ActionReference)
  actions = actions_in all_namespaces

  -- what names mean in types
  abbrev pub meanings : Meanings NameReference
  meanings = record { target = target names; common_types = common_types; is_extension = has_word W.extensions }

  -- the uses of types: shapes, then types of tags, then contexts, each in the order of names
  abbrev pub uses : List (UsePlace × Written NameReference)
  uses = uses_in all_namespaces

  -- what is to be unfolded
  abbrev pub job : Job NameReference
  job = record { meanings = meanings; uses = uses }
