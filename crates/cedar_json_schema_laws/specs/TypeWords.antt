-- SPDX-License-Identifier: Apache-2.0
-- Fragments in which no shape and no context is a path that is a word of types, as which JSON would read it.
use Rattle.std.specs.Prelude.{◌≡◌, ⊤, [], ◌∷◌, codes, IfSome}
use Rattle.std.specs.List.{AllByRecursion}
use Rattle.cedar_text.specs.Joining.{joined}
use Rattle.cedar_json_types.specs.Types.{word_of}
use Rattle.cedar_json_types.specs.declared.words.TypeWord.TheVariants as word
use Rattle.cedar_convert_fragment.specs.Fragments.{ActionContent, Definition, EntityContent, Fragment, TypeAt, written, common_type, Shaped, Listed}

-- what P says of shapes and contexts holds of the shape of an entity type, where it has one
abbrev pub OfEntity : (TypeAt → Type 0) → EntityContent → Type 0
OfEntity P (Shaped parents shape tags) = P shape
OfEntity P (Listed choices) = ⊤

-- and of the context of an action, where it has one
abbrev pub OfAction : (TypeAt → Type 0) → ActionContent → Type 0
OfAction P action = IfSome action.applies_to (λ a. P a.context)

-- and of each shape and context of a namespace
abbrev pub OfDefinition : (TypeAt → Type 0) → Definition → Type 0
OfDefinition P d = AllByRecursion (λ e. OfEntity P e.1.content) d.entity_types × AllByRecursion (λ e. OfAction P e.1.content) d.actions

-- and of each one of a fragment
abbrev pub EachShape : (TypeAt → Type 0) → Fragment → Type 0
EachShape P F = AllByRecursion (λ n. OfDefinition P n.1) F

-- a shape or context that is the name of a common type is none of the words of types
abbrev pub IsNoWord : TypeAt → Type 0
IsNoWord (written form place) = ⊤
IsNoWord (common_type name place) = word_of (joined name.words) ≡ word.Other

-- no shape and no context of the fragment is a word of types
abbrev pub NamesNoWord : Fragment → Type 0
NamesNoWord = EachShape IsNoWord

-- a shape or context isn't the path `EntityOrCommon`
abbrev pub IsNotEntityOrCommon : TypeAt → Type 0
IsNotEntityOrCommon (written form place) = ⊤
IsNotEntityOrCommon (common_type name place) = name.words ≡ codes "EntityOrCommon" ∷ [] → ⊥

-- no shape and no context of the fragment is that path
abbrev pub NamesNoEntityOrCommon : Fragment → Type 0
NamesNoEntityOrCommon = EachShape IsNotEntityOrCommon
