-- SPDX-License-Identifier: Apache-2.0
-- What the tree of an action declares.
use Rattle.std.proofs.Common.{◌≡◌, ◌++◌, true, false, List, [], ◌∷◌, map, refl, sym, ap, ◌∙◌, append-nil, flat_map, option_map, option_to_list, IfSome, Option, Some, None}
use Rattle.std.specs.List.{AllByRecursion}
use Rattle.cedar_tree.specs.Nesting.{types_of_app, types_of_decl, types_of_shape}
use Rattle.cedar_tree.specs.Trees.{Action, Node, Place, Text, TypeTree}
use Rattle.cedar_convert_faults.specs.Conditions.{Applies, HasNoRepeat, clauses_in}
use Rattle.cedar_convert_faults.specs.Faults.{Clauses}
use Rattle.cedar_convert_fragment.specs.Declares.{action_content, applies_to, clauses_of, empty_context, name_of, parent_of, parents_of}
use Rattle.cedar_convert_fragment.specs.Fragments.{ActionAt, ActionContent, AppliesTo, Form, NameAt, TypeAt, written, common_type, string, long, boolean, set_of, record_of, entity, entity_or_common, extension, no_fields, field}
use Rattle.cedar_reread.specs.Placeless.{action_placeless, applies_placeless, name_placeless, parent_placeless, type_placeless}
use Rattle.cedar_reread.specs.Rereading.{action_reread, applies_reread, parent_reread, parents_reread, shape_form_reread, shape_reread}
use Rattle.cedar_reread.specs.Said.{is_empty_form, is_empty_shape}
use Rattle.cedar_reread.specs.TreesRead.{action_read, applies_read, name_read, parent_read, parents_read, shape_read}
use Rattle.cedar_reread_declares.specs.Rereadable.{RereadableAction, RereadableApplies, RereadableClauses}
use Rattle.cedar_reread_declares.proofs.Entities.{Distinct, names_declared, shape_declared, shape_distinct}
use Rattle.cedar_reread_declares.proofs.Lists.{all_append}

-- ---- parents

parent_declared : (ty : Option NameAt) (id : Text) → parent_placeless (parent_of (parent_read (record { ty = ty; id = id })).node) ≡ parent_placeless (parent_reread (record { ty = ty; id = id }))
parent_declared None id = refl
parent_declared (Some name) id = refl

each_parent : (parents : List ActionAt) → map parent_placeless (map (λ p. parent_of p.node) (map parent_read parents)) ≡ map parent_placeless (map parent_reread parents)
each_parent [] = refl
each_parent (parent ∷ parents) =
    let first = parent_declared parent.ty parent.id in
    let others = each_parent parents in
    λ i. first i ∷ others i

parents_declared : (parents : Option (List ActionAt)) → option_map (map parent_placeless) (parents_of (parents_read parents)) ≡ option_map (map parent_placeless) (parents_reread parents)
parents_declared None = refl
parents_declared (Some []) = refl
parents_declared (Some (parent ∷ parents)) = ap (λ (l : List ActionAt). Some l) (each_parent (parent ∷ parents))

-- ---- what an action applies to

abbrev applying : List NameAt → List NameAt → TypeAt → AppliesTo
applying principals resources context = record { resources = resources; principals = principals; context = context }

-- the clauses that are read
abbrev clauses_read : Option AppliesTo → Clauses
clauses_read a = clauses_of (applies_read a)

-- the context that is no context
no_form : (f : Form) (place : Option Place) → is_empty_form f ≡ true → type_placeless empty_context ≡ type_placeless (shape_form_reread f place)
no_form (record_of no_fields false) place e = refl
no_form (record_of no_fields true) place e = cc
no_form (record_of (field name ty annotations required others) open_tag) place e = cc
no_form string place e = cc
no_form long place e = cc
no_form boolean place e = cc
no_form (set_of element) place e = cc
no_form (entity name) place e = cc
no_form (entity_or_common name) place e = cc
no_form (extension name) place e = cc

no_context : (context : TypeAt) → is_empty_shape context ≡ true → type_placeless empty_context ≡ type_placeless (shape_reread context)
no_context (written form place) e = no_form form place e
no_context (common_type name place) e = cc

-- the names of one list among others that are empty
listed_declared : (names : List NameAt) → map name_placeless (map name_of (map name_read names) ++ []) ≡ map name_placeless names
listed_declared names = ap (map name_placeless) (append-nil (map name_of (map name_read names))) ∙ names_declared names

filled_declared : (principals resources : List NameAt) (context : TypeAt) → RereadableClauses principals resources context
    → applies_placeless (applies_to (clauses_read (Some (applying principals resources context)))) ≡ applies_placeless (applies_reread (Some (applying principals resources context)))
filled_declared [] [] context is = ap (λ (t : TypeAt). applying [] [] t) (no_context context is)
filled_declared [] (r ∷ rs) context is = absurd is
filled_declared (p ∷ ps) [] context is = absurd is
filled_declared (p ∷ ps) (r ∷ rs) context is =
    let first = listed_declared (p ∷ ps) in
    let second = listed_declared (r ∷ rs) in
    let third = shape_declared context is in
    λ i. applying (first i) (second i) (third i)

applies_declared : (a : Option AppliesTo) → IfSome a RereadableApplies → applies_placeless (applies_to (clauses_read a)) ≡ applies_placeless (applies_reread a)
applies_declared None is = refl
applies_declared (Some a) is = filled_declared a.principals a.resources a.context is

-- ---- actions

pub action_declared : (id : Text) (a : ActionContent) → RereadableAction a → action_placeless (action_content (action_read id a)) ≡ action_placeless (action_reread a)
action_declared id a is =
    let first = sym is.0 in
    let second = applies_declared a.applies_to is.1 in
    let third = parents_declared a.member_of in
    λ i. record { attributes = first i; applies_to = Some (second i); member_of = third i }

-- each `appliesTo` has what it needs
abbrev block_clauses : Option AppliesTo → List Clauses
block_clauses a = map (λ clauses. clauses.node) (option_to_list (applies_read a))

filled_applies : (principals resources : List NameAt) (context : TypeAt) → RereadableClauses principals resources context → AllByRecursion Applies (block_clauses (Some (applying principals resources context)))
filled_applies [] resources context is = tt
filled_applies (p ∷ ps) [] context is = tt
filled_applies (p ∷ ps) (r ∷ rs) context is = (record { principals = λ e. cc; resources = λ e. cc; contexts = tt }, tt)

applies_hold : (a : Option AppliesTo) → IfSome a RereadableApplies → AllByRecursion Applies (block_clauses a)
applies_hold None is = tt
applies_hold (Some a) is = filled_applies a.principals a.resources a.context is

pub action_applies : (id : Text) (a : ActionContent) → RereadableAction a → AllByRecursion Applies (clauses_in (Action (action_read id a)))
action_applies id a is = applies_hold a.applies_to is.1

-- no name of an attribute stands twice
abbrev block_types : Option AppliesTo → List (Node TypeTree)
block_types a = flat_map (λ d. types_of_app d.node) (flat_map (λ apps. apps.node) (option_to_list (applies_read a)))

filled_distinct : (principals resources : List NameAt) (context : TypeAt) → RereadableClauses principals resources context → Distinct (block_types (Some (applying principals resources context)))
filled_distinct [] resources context is = tt
filled_distinct (p ∷ ps) [] context is = tt
filled_distinct (p ∷ ps) (r ∷ rs) context is = all_append (λ (t : Node TypeTree). HasNoRepeat t.node) (types_of_shape (shape_read context)) [] (shape_distinct context is) tt

applies_distinct : (a : Option AppliesTo) → IfSome a RereadableApplies → Distinct (block_types a)
applies_distinct None is = tt
applies_distinct (Some a) is = filled_distinct a.principals a.resources a.context is

pub action_distinct : (id : Text) (a : ActionContent) → RereadableAction a → Distinct (types_of_decl (Action (action_read id a)))
action_distinct id a is = applies_distinct a.applies_to is.1
