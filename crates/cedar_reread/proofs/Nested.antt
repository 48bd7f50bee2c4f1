-- SPDX-License-Identifier: Apache-2.0
-- The tree of a fragment whose types nest at most 128 deep nests well.
use Rattle.std.proofs.Common.{◌≡◌, ◌≤◌, List, [], ◌∷◌, ◌++◌, map, Option, Some, None, refl, sym, subst, append-nil}
use Rattle.std.proofs.lemmas.List.Concat.{flat_map-append}
use Rattle.std.proofs.lemmas.List.Elements.{All-nil, All-cons, All-append}
use Rattle.std.specs.Prelude.{All, IfSome, option_to_list, flat_map}
use Rattle.std.specs.List.{AllByRecursion}
use Rattle.std.specs.Option.{option_map}
use Rattle.cedar_tree.specs.Nesting.{NestsWell, nest, nest_at_most, outermost_types, types_of_app, types_of_decl, types_of_namespace, types_of_shape}
use Rattle.cedar_tree.specs.Trees.{Node, Text, TypeTree, AppDecl, Annotated, Declaration, Entity}
use Rattle.cedar_convert_fragment.specs.Fragments.{ActionContent, AppliesTo, Declared, Definition, EntityContent, Form, Fragment, TypeAt, Shaped, Listed, written, common_type, string, long, boolean, set_of, record_of, entity, entity_or_common, extension}
use Rattle.cedar_reread.specs.EachType.{EachOfAction, EachOfDefinition, EachOfEntity, Nests, NestsAtMost}
use Rattle.cedar_reread.specs.TreesRead.{action_entry_read, alone_read, applies_read, bare, block_unless, common_entry_read, declarations_read, entity_entry_read, entity_read, fragment_read, lines_read, namespace_read, node_read, shape_form_read, shape_read, type_read}

abbrev Shallow : Node TypeTree → Type 0
Shallow t = nest t.node ≤ nest_at_most

abbrev AllShallow : List (Node TypeTree) → Type 0
AllShallow ts = All Shallow ts

nothing : AllShallow []
nothing = All-nil Shallow

one : (t : Node TypeTree) → Shallow t → AllShallow (t ∷ [])
one t is = All-cons Shallow t [] is nothing

both : (ts us : List (Node TypeTree)) → AllShallow ts → AllShallow us → AllShallow (ts ++ us)
both ts us first second = All-append Shallow ts us first second

form_shallow : (form : Form) → nest (type_read (written form None)) ≤ nest_at_most → AllShallow (types_of_shape (shape_form_read form))
form_shallow (record_of attributes others) is = one _ is
form_shallow (entity_or_common name) is = nothing
form_shallow string is = nothing
form_shallow long is = nothing
form_shallow boolean is = nothing
form_shallow (set_of element) is = nothing
form_shallow (entity name) is = nothing
form_shallow (extension name) is = nothing

shape_shallow : (shape : TypeAt) → Nests 128 shape → AllShallow (types_of_shape (shape_read shape))
shape_shallow (written form place) is = form_shallow form is
shape_shallow (common_type name place) is = nothing

tags_shallow : (tags : Option TypeAt) → IfSome tags (Nests 128) → AllShallow (option_to_list (option_map node_read tags))
tags_shallow None is = nothing
tags_shallow (Some ty) is = one (node_read ty) is

entity_shallow : (name : Text) (content : EntityContent) → EachOfEntity (Nests 128) content → AllShallow (types_of_decl (Entity (entity_read name content)))
entity_shallow name (Shaped parents shape tags) is = both (types_of_shape (shape_read shape)) (option_to_list (option_map node_read tags)) (shape_shallow shape is.0) (tags_shallow tags is.1)
entity_shallow name (Listed ids) is = nothing

-- the types of the lines of an `appliesTo`
abbrev types_of_block : Option (Node (List (Node AppDecl))) → List (Node TypeTree)
types_of_block block = flat_map (λ d. types_of_app d.node) (flat_map (λ apps. apps.node) (option_to_list block))

lines_shallow : (a : AppliesTo) → Nests 128 a.context → AllShallow (types_of_block (Some (bare (lines_read a))))
lines_shallow a is = both (types_of_shape (shape_read a.context)) [] (shape_shallow a.context is) nothing

unless_shallow : {T : Type 0} (items : List T) (block : Option (Node (List (Node AppDecl)))) → AllShallow (types_of_block block) → AllShallow (types_of_block (block_unless items block))
unless_shallow [] block is = nothing
unless_shallow (item ∷ items) block is = is

applies_shallow : (a : Option AppliesTo) → IfSome a (λ applies. Nests 128 applies.context) → AllShallow (types_of_block (applies_read a))
applies_shallow None is = nothing
applies_shallow (Some a) is = unless_shallow a.principals _ (unless_shallow a.resources _ (lines_shallow a is))

-- ---- declarations

abbrev types_of : Annotated (Node Declaration) → List (Node TypeTree)
types_of d = types_of_decl d.item.node

each_shallow : {A : Type 0} (P : A → Type 0) (f : A → Annotated (Node Declaration)) (xs : List A) (others : List (Annotated (Node Declaration))) → AllByRecursion P xs → ((x : A) → P x → AllShallow (types_of (f x)))
    → AllShallow (flat_map types_of others) → AllShallow (flat_map types_of (map f xs ++ others))
each_shallow P f [] others all each rest = rest
each_shallow P f (x ∷ xs) others all each rest = both (types_of (f x)) (flat_map types_of (map f xs ++ others)) (each x all.0) (each_shallow P f xs others all.1 each rest)

common_shallow : (e : Text × Declared TypeAt) → Nests 128 e.1.content → AllShallow (types_of (common_entry_read e))
common_shallow e is = one (node_read e.1.content) is

action_shallow : (e : Text × Declared ActionContent) → EachOfAction (Nests 128) e.1.content → AllShallow (types_of (action_entry_read e))
action_shallow e is = applies_shallow e.1.content.applies_to is

definition_shallow : (d : Definition) → EachOfDefinition (Nests 128) d → AllShallow (flat_map types_of (declarations_read d))
definition_shallow d is =
    each_shallow (λ e. Nests 128 e.1.content) common_entry_read d.common_types _ is.0 common_shallow
    (each_shallow (λ e. EachOfEntity (Nests 128) e.1.content) entity_entry_read d.entity_types _ is.1 (λ e good. entity_shallow e.0 e.1.content good)
    (subst (λ ds. AllShallow (flat_map types_of ds)) (append-nil (map action_entry_read d.actions))
    (each_shallow (λ e. EachOfAction (Nests 128) e.1.content) action_entry_read d.actions [] is.2 action_shallow nothing)))

-- declarations that stand in no namespace, each in one of its own
alone_shallow : (ds : List (Annotated (Node Declaration))) → AllShallow (flat_map types_of ds) → AllShallow (flat_map types_of_namespace (map alone_read ds))
alone_shallow ds is = subst AllShallow (sym (by ds)) is
  where
    by : (ds : List (Annotated (Node Declaration))) → flat_map types_of_namespace (map alone_read ds) ≡ flat_map types_of ds
    by [] = refl
    by (d ∷ ds) = (λ i. append-nil (types_of d) i ++ by ds i)

namespace_shallow : (n : Option (List Text) × Definition) → EachOfDefinition (Nests 128) n.1 → AllShallow (flat_map types_of_namespace (namespace_read n))
namespace_shallow (None, d) is = alone_shallow (declarations_read d) (definition_shallow d is)
namespace_shallow (Some words, d) is = both (flat_map types_of (declarations_read d)) [] (definition_shallow d is) nothing

pub nests_well : (F : Fragment) → NestsAtMost 128 F → NestsWell (fragment_read F)
nests_well [] is = nothing
nests_well (n ∷ F) is =
    subst AllShallow (sym (flat_map-append types_of_namespace (namespace_read n) (fragment_read F)))
    (both (flat_map types_of_namespace (namespace_read n)) (outermost_types (fragment_read F)) (namespace_shallow n is.0) (nests_well F is.1))
