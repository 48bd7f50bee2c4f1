-- SPDX-License-Identifier: Apache-2.0
-- A schema nests as well as it does without its places.
use Rattle.std.proofs.Common.{◌≡◌, ◌≤◌, ◌+◌, max, List, [], ◌∷◌, ◌++◌, map, Option, Some, None, refl, sym, ap, ap₂, ◌∙◌, subst}
use Rattle.std.proofs.lemmas.List.{map-append}
use Rattle.std.proofs.lemmas.List.Elements.{All-cons, All-head, All-nil, All-tail}
use Rattle.std.specs.Prelude.{All, option_to_list, flat_map}
use Rattle.std.specs.Option.{option_map}
use Rattle.cedar_tree.specs.Nesting.{NestsWell, greatest_nest, nest, nest_at_most, outermost_types, types_of_app, types_of_decl, types_of_namespace, types_of_shape}
use Rattle.cedar_tree.specs.Trees.{Node, TypeTree, Set, Ident, Record, Attrs, no_attrs, attr, ContextDecl, Named, Shape, AppDecl, Types, Context, Annotated, Declaration, Entity, Action, Common, Standard, Enum, Namespace, Schema}
use Rattle.cedar_tree.specs.Unplaced.{annotated_unplaced, attrs_unplaced, context_unplaced, decl_unplaced, line_unplaced, namespace_unplaced, schema_unplaced, type_unplaced, unplaced}

mutual
  type_nests : (t : TypeTree) → nest (type_unplaced t) ≡ nest t
  type_nests (Set element place) = ap (λ n. n + 1) (type_nests element)
  type_nests (Ident path) = refl
  type_nests (Record attrs) = ap (λ n. n + 1) (attrs_nest attrs)

  attrs_nest : (attrs : Attrs) → greatest_nest (attrs_unplaced attrs) ≡ greatest_nest attrs
  attrs_nest no_attrs = refl
  attrs_nest (attr annotations name required ty place own others) = ap₂ max (type_nests ty) (attrs_nest others)

abbrev bare_type : Node TypeTree → Node TypeTree
bare_type t = unplaced type_unplaced t

shape_types : (shape : ContextDecl) → types_of_shape (context_unplaced shape) ≡ map bare_type (types_of_shape shape)
shape_types (Named name) = refl
shape_types (Shape attrs) = refl

app_types : (line : AppDecl) → types_of_app (line_unplaced line) ≡ map bare_type (types_of_app line)
app_types (Types which names) = refl
app_types (Context shape) = shape_types shape

option_types : (tags : Option (Node TypeTree)) → option_to_list (option_map bare_type tags) ≡ map bare_type (option_to_list tags)
option_types None = refl
option_types (Some t) = refl

flat_types : {A : Type 0} (f : A → A) (types : A → List (Node TypeTree)) → ((a : A) → types (f a) ≡ map bare_type (types a)) → (xs : List A) → flat_map types (map f xs) ≡ map bare_type (flat_map types xs)
flat_types f types same [] = refl
flat_types f types same (x ∷ xs) = ap₂ (λ a l. a ++ l) (same x) (flat_types f types same xs) ∙ sym (map-append bare_type (types x) (flat_map types xs))

block_types : (block : Option (Node (List (Node AppDecl)))) → flat_map (λ (d : Node AppDecl). types_of_app d.node) (flat_map (λ (apps : Node (List (Node AppDecl))). apps.node) (option_to_list (option_map (unplaced (map (unplaced line_unplaced))) block)))
    ≡ map bare_type (flat_map (λ (d : Node AppDecl). types_of_app d.node) (flat_map (λ (apps : Node (List (Node AppDecl))). apps.node) (option_to_list block)))
block_types None = refl
block_types (Some block) = lines block.node
  where
    lines : (ls : List (Node AppDecl)) → flat_map (λ (d : Node AppDecl). types_of_app d.node) (map (unplaced line_unplaced) ls ++ []) ≡ map bare_type (flat_map (λ (d : Node AppDecl). types_of_app d.node) (ls ++ []))
    lines [] = refl
    lines (l ∷ ls) = ap₂ (λ (a rest : List (Node TypeTree)). a ++ rest) (app_types l.node) (lines ls) ∙ sym (map-append bare_type (types_of_app l.node) (flat_map (λ (d : Node AppDecl). types_of_app d.node) (ls ++ [])))

decl_types : (d : Declaration) → types_of_decl (decl_unplaced d) ≡ map bare_type (types_of_decl d)
decl_types (Entity (Standard e)) = ap₂ (λ (a b : List (Node TypeTree)). a ++ b) (shape_types e.attrs) (option_types e.tags) ∙ sym (map-append bare_type (types_of_shape e.attrs) (option_to_list e.tags))
decl_types (Entity (Enum e)) = refl
decl_types (Action a) = block_types a.app_decls
decl_types (Common t) = refl

abbrev bare_decl : Annotated (Node Declaration) → Annotated (Node Declaration)
bare_decl d = annotated_unplaced (unplaced decl_unplaced) d

abbrev bare_namespace : Annotated Namespace → Annotated Namespace
bare_namespace n = annotated_unplaced namespace_unplaced n

namespace_types : (n : Annotated Namespace) → types_of_namespace (bare_namespace n) ≡ map bare_type (types_of_namespace n)
namespace_types n = flat_types bare_decl (λ (d : Annotated (Node Declaration)). types_of_decl d.item.node) (λ d. decl_types d.item.node) n.item.decls

schema_types : (s : Schema) → outermost_types (schema_unplaced s) ≡ map bare_type (outermost_types s)
schema_types s = flat_types bare_namespace types_of_namespace namespace_types s

abbrev Shallow : Node TypeTree → Type 0
Shallow t = nest t.node ≤ nest_at_most

shallow_back : (ts : List (Node TypeTree)) → All Shallow (map bare_type ts) → All Shallow ts
shallow_back [] all = All-nil Shallow
shallow_back (t ∷ ts) all =
    All-cons Shallow t ts (subst (λ n. n ≤ nest_at_most) (type_nests t.node) (All-head Shallow (bare_type t) (map bare_type ts) all)) (shallow_back ts (All-tail Shallow (bare_type t) (map bare_type ts) all))

pub nests_back : (s : Schema) → NestsWell (schema_unplaced s) → NestsWell s
nests_back s w = shallow_back (outermost_types s) (subst (All Shallow) (schema_types s) w)
