-- SPDX-License-Identifier: Apache-2.0
-- How deep records nest, and where the first type stands that nests too deep.
use Rattle.std.proofs.Common.{◌≡◌, ℕ, ◌+◌, ◌-◌, ◌<◌, ◌≤◌, max, Bool, true, false, nat_lt, cond, ◌||◌, List, [], ◌∷◌, ◌++◌, length, map, drop, get_or, Option, Some, None, option_map, option_to_list, refl, ap, sym, ◌∙◌, arith}
use Rattle.std.proofs.lemmas.List.{append-nil, at_drop_more, at_drop_all}
use Rattle.std.proofs.lemmas.List.Folds.{flat_map-map}
use Rattle.std.proofs.lemmas.Bool.Decides.{nat_tests}
use Rattle.std.specs.List.{flat_map}
use Rattle.std.specs.Option.{option_or}
use Rattle.cedar_names.specs.of_text.declared.location.Span.{Span}
use Rattle.cedar_names.specs.of_text.Places.{span_of}
use Rattle.cedar_names.specs.of_text.declared.node.Node.{Node}
use Rattle.cedar_tree.specs.declared.annotated.Annotated as noted
use Rattle.cedar_names.specs.of_text.Lists.{elements}
use Rattle.cedar_names.specs.of_text.declared.non_empty.NonEmpty.{NonEmpty}
use Rattle.cedar_tree.specs.declared.declaration.ActionDecl as action
use Rattle.cedar_tree.specs.declared.declaration.AppDecl as app
use Rattle.cedar_tree.specs.declared.declaration.Namespace as declared
use Rattle.cedar_tree.specs.declared.ty.AttrDecl as attribute
use Rattle.cedar_tree.specs.declared.ty.AttrDecl.{fold_out-AttrDecl, map-AttrDecl}
use Rattle.cedar_tree.specs.declared.ty.«Type».{«Type», «fold_out-Type», «map-Type»}
use Rattle.cedar_tree.specs.declared.ty.«Type».TheVariants as made
use Rattle.cedar_tree.specs.Nesting.{deep_place, nest_at_most, outermost_types, types_of_app, types_of_decl, types_of_namespace, nest, greatest_nest}
use Rattle.cedar_tree.specs.Trees.{TypeTree, Record, attr, AttrDecl, Action, attrs_of}
use Rattle.cedar_tree.specs.Meanings.{node_of, annotations_tree, annotated_tree, app_tree, action_tree, decl_tree, namespace_tree, schema_tree, type_level, attr_level, type_tree, attr_tree, attrs_tree, attr_node}

-- attributes whose types are trees already are the trees of the attributes
nodes_mapped : (attrs : List (Node (noted.Annotated attribute.AttrDecl)))
    → attrs_of (map (attr_node (λ a. a)) (map (λ n. record { node = record { item = attr_tree n.node.item; annotations = n.node.annotations }; loc = n.loc }) attrs)) ≡ attrs_tree attrs
nodes_mapped [] = refl
nodes_mapped (a ∷ attrs) =
    let t = attr_tree a.node.item in
    ap (λ others. attr (annotations_tree a.node.annotations) t.name t.required t.ty.node t.ty.loc a.loc others) (nodes_mapped attrs)

-- the tree of a record, level by level
pub type_tree-Record : (attrs : List (Node (noted.Annotated attribute.AttrDecl))) → type_tree (made.Record attrs) ≡ Record (attrs_tree attrs)
type_tree-Record attrs =
    «fold_out-Type» TypeTree AttrDecl type_level attr_level (made.Record attrs)
    ∙ ap (λ o. type_level («map-Type» «Type» attribute.AttrDecl TypeTree AttrDecl type_tree attr_tree o)) (made.outs-Record attrs)
    ∙ ap Record (nodes_mapped attrs)

-- the tree of the type of an attribute
attr_tree-ty : (a : attribute.AttrDecl) → (attr_tree a).ty.node ≡ type_tree a.ty.node
attr_tree-ty a = ap (λ (t : AttrDecl). t.ty.node) (fold_out-AttrDecl TypeTree AttrDecl type_level attr_level a)

-- a number is below another exactly where the next numbers are
below_suc : (m n : ℕ) → (m ≡ 0 → ⊥) → nat_lt (m - 1) n ≡ nat_lt m (n + 1)
below_suc m n some = grind (arith, nat_tests)

-- a number is below the greater of two exactly where it is below one of them
below_max : (m a b : ℕ) → nat_lt m (max a b) ≡ (nat_lt m a || nat_lt m b)
below_max m a b = grind (arith, nat_tests)

-- a record nests past a limit exactly where an attribute nests past one less
pub past_record : (limit : ℕ) (ty : «Type») (attrs : List (Node (noted.Annotated attribute.AttrDecl))) → (limit ≡ 0 → ⊥) → ty ≡ made.Record attrs
    → nat_lt (limit - 1) (greatest_nest (attrs_tree attrs)) ≡ nat_lt limit (nest (type_tree ty))
past_record limit ty attrs some is =
    below_suc limit (greatest_nest (attrs_tree attrs)) some ∙ ap (λ t. nat_lt limit (nest t)) (sym (ap type_tree is ∙ type_tree-Record attrs))

-- an attribute nests past a limit exactly where the first does, or one of the others
past_more : (limit : ℕ) (a : Node (noted.Annotated attribute.AttrDecl)) (attrs : List (Node (noted.Annotated attribute.AttrDecl)))
    → nat_lt limit (greatest_nest (attrs_tree (a ∷ attrs))) ≡ (nat_lt limit (nest (type_tree a.node.item.ty.node)) || nat_lt limit (greatest_nest (attrs_tree attrs)))
past_more limit a attrs =
    below_max limit (nest (attr_tree a.node.item).ty.node) (greatest_nest (attrs_tree attrs))
    ∙ ap (λ t. nat_lt limit (nest t) || nat_lt limit (greatest_nest (attrs_tree attrs))) (attr_tree-ty a.node.item)

-- a step of a loop over attributes
pub past_step : (limit i : ℕ) (attrs : List (Node (noted.Annotated attribute.AttrDecl))) (a : Node (noted.Annotated attribute.AttrDecl)) (past all : Bool)
    → i < length attrs → a ≡ get_or attrs i a → past ≡ nat_lt limit (nest (type_tree a.node.item.ty.node))
    → nat_lt limit (greatest_nest (attrs_tree (drop i attrs))) ≡ all
    → all ≡ (past || nat_lt limit (greatest_nest (attrs_tree (drop (i + 1) attrs))))
past_step limit i attrs a past all within is test so_far =
    sym so_far
    ∙ at_drop_more (λ xs. nat_lt limit (greatest_nest (attrs_tree xs))) attrs i a within
    ∙ ap (λ (x : Node (noted.Annotated attribute.AttrDecl)). nat_lt limit (greatest_nest (attrs_tree (x ∷ drop (i + 1) attrs)))) (sym is)
    ∙ past_more limit a (drop (i + 1) attrs)
    ∙ ap (λ b. b || nat_lt limit (greatest_nest (attrs_tree (drop (i + 1) attrs)))) (sym test)

-- the first of some types and then of others
deep_place-append : (xs ys : List (Node TypeTree)) → deep_place (xs ++ ys) ≡ option_or (deep_place xs) (deep_place ys)
deep_place-append [] ys = refl
deep_place-append (x ∷ xs) ys = deep_first (nat_lt nest_at_most (nest x.node)) x xs ys (deep_place-append xs ys)
  where
    deep_first : (deep : Bool) (x : Node TypeTree) (xs ys : List (Node TypeTree)) → deep_place (xs ++ ys) ≡ option_or (deep_place xs) (deep_place ys)
        → cond deep (Some (span_of x.loc)) (deep_place (xs ++ ys)) ≡ option_or (cond deep (Some (span_of x.loc)) (deep_place xs)) (deep_place ys)
    deep_first true x xs ys others = refl
    deep_first false x xs ys others = others

-- a step of a loop over things that have types
deep_step : {A : Type 0} (types : A → List (Node TypeTree)) (xs : List A) (i : ℕ) (x : A) (all here : Option Span) → i < length xs → x ≡ get_or xs i x
    → deep_place (flat_map types (drop i xs)) ≡ all → here ≡ deep_place (types x)
    → all ≡ option_or here (deep_place (flat_map types (drop (i + 1) xs)))
deep_step types xs i x all here within item so_far is =
    sym so_far
    ∙ at_drop_more (λ ys. deep_place (flat_map types ys)) xs i x within
    ∙ deep_place-append (types (get_or xs i x)) (flat_map types (drop (i + 1) xs))
    ∙ ap (λ place. option_or place (deep_place (flat_map types (drop (i + 1) xs)))) (sym (is ∙ ap (λ y. deep_place (types y)) item))

-- a type was found that nests too deep
pub deep_found : {A : Type 0} (types : A → List (Node TypeTree)) (xs : List A) (i : ℕ) (x : A) (all here : Option Span) (place : Span) → i < length xs → x ≡ get_or xs i x
    → deep_place (flat_map types (drop i xs)) ≡ all → here ≡ deep_place (types x) → here ≡ Some place → Some place ≡ all
deep_found types xs i x all here place within item so_far is found =
    sym (deep_step types xs i x all here within item so_far is ∙ ap (λ p. option_or p (deep_place (flat_map types (drop (i + 1) xs)))) found)

-- none was found here
pub deep_on : {A : Type 0} (types : A → List (Node TypeTree)) (xs : List A) (i : ℕ) (x : A) (all here : Option Span) → i < length xs → x ≡ get_or xs i x
    → deep_place (flat_map types (drop i xs)) ≡ all → here ≡ deep_place (types x) → here ≡ None
    → deep_place (flat_map types (drop (i + 1) xs)) ≡ all
deep_on types xs i x all here within item so_far is none =
    sym (deep_step types xs i x all here within item so_far is ∙ ap (λ p. option_or p (deep_place (flat_map types (drop (i + 1) xs)))) none)

-- none was found at all
pub deep_end : {A : Type 0} (types : A → List (Node TypeTree)) (xs : List A) (i : ℕ) (all : Option Span) → length xs ≤ i
    → deep_place (flat_map types (drop i xs)) ≡ all → None ≡ all
deep_end types xs i all past so_far = sym (at_drop_all (λ ys. deep_place (flat_map types ys)) xs i past) ∙ so_far

-- the types of a namespace, declaration by declaration
pub namespace_types : (n : noted.Annotated declared.Namespace) → deep_place (types_of_namespace (annotated_tree namespace_tree n)) ≡ deep_place (flat_map (λ d. types_of_decl (decl_tree d.item.node)) n.item.decls)
namespace_types n = ap deep_place (flat_map-map (λ d. types_of_decl d.item.node) (annotated_tree (node_of decl_tree)) n.item.decls)

-- the types of a schema, namespace by namespace
pub schema_types : (s : List (noted.Annotated declared.Namespace)) → deep_place (outermost_types (schema_tree s)) ≡ deep_place (flat_map (λ n. types_of_namespace (annotated_tree namespace_tree n)) s)
schema_types s = ap deep_place (flat_map-map types_of_namespace (annotated_tree namespace_tree) s)

-- the types of lines of `appliesTo`, line by line
lines_types : (line : Node app.AppDecl) (lines : List (Node app.AppDecl))
    → flat_map (λ d. types_of_app d.node) (map (node_of app_tree) (line ∷ lines) ++ []) ≡ types_of_app (app_tree line.node) ++ flat_map (λ d. types_of_app (app_tree d.node)) lines
lines_types line lines =
    ap (flat_map (λ d. types_of_app d.node)) (append-nil (map (node_of app_tree) (line ∷ lines)))
    ∙ flat_map-map (λ d. types_of_app d.node) (node_of app_tree) (line ∷ lines)

-- none was found in the first line, and this in the others
pub action_types : (decl : action.ActionDecl) (lines : Node (NonEmpty (Node app.AppDecl))) (here there : Option Span) (others : List (Node app.AppDecl)) → decl.app_decls ≡ Some lines
    → here ≡ deep_place (types_of_app (app_tree lines.node.head.node)) → here ≡ None → others ≡ lines.node.tail
    → there ≡ deep_place (flat_map (λ d. types_of_app (app_tree d.node)) others) → there ≡ deep_place (types_of_decl (Action (action_tree decl)))
action_types decl lines here there others is first none same rest =
    let at_tail : there ≡ deep_place (flat_map (λ d. types_of_app (app_tree d.node)) lines.node.tail) = rest ∙ ap (λ ls. deep_place (flat_map (λ d. types_of_app (app_tree d.node)) ls)) same in
    let all : there ≡ option_or (deep_place (types_of_app (app_tree lines.node.head.node))) (deep_place (flat_map (λ d. types_of_app (app_tree d.node)) lines.node.tail)) =
    at_tail ∙ ap (λ p. option_or p (deep_place (flat_map (λ d. types_of_app (app_tree d.node)) lines.node.tail))) (sym none ∙ first) in
    let joined : there ≡ deep_place (flat_map (λ d. types_of_app d.node) (flat_map (λ apps. apps.node) (option_to_list (option_map (node_of (λ ls. map (node_of app_tree) (elements ls))) (Some lines))))) =
    all ∙ sym (deep_place-append (types_of_app (app_tree lines.node.head.node)) (flat_map (λ d. types_of_app (app_tree d.node)) lines.node.tail)) ∙ ap deep_place (sym (lines_types lines.node.head lines.node.tail)) in
    joined ∙ ap (λ found. deep_place (flat_map (λ d. types_of_app d.node) (flat_map (λ apps. apps.node) (option_to_list (option_map (node_of (λ ls. map (node_of app_tree) (elements ls))) found))))) (sym is)
