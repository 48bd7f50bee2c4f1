-- SPDX-License-Identifier: Apache-2.0
-- What the tree of an entity type declares.
use Rattle.std.proofs.Common.{◌≡◌, List, [], ◌∷◌, map, refl, ap, option_map, option_to_list, IfSome, Option, Some, None}
use Rattle.std.specs.List.{AllByRecursion}
use Rattle.cedar_tree.specs.Nesting.{types_of_decl, types_of_shape}
use Rattle.cedar_tree.specs.Trees.{Entity, Node, Place, Text, TypeTree}
use Rattle.cedar_convert_faults.specs.Conditions.{HasNoRepeat}
use Rattle.cedar_convert_fragment.specs.Declares.{entity_content, name_of, shape_type, type_at}
use Rattle.cedar_convert_fragment.specs.Fragments.{EntityContent, Form, NameAt, TypeAt, written, common_type, string, long, boolean, set_of, record_of, entity, entity_or_common, extension, Shaped, Listed}
use Rattle.cedar_reread.specs.Placeless.{entity_placeless, name_placeless, type_placeless}
use Rattle.cedar_reread.specs.Rereading.{entity_reread, shape_form_reread, shape_reread, type_reread}
use Rattle.cedar_reread.specs.TreesRead.{bare, entity_read, name_read, node_read, shape_form_read, shape_read}
use Rattle.cedar_reread_declares.specs.Rereadable.{RereadableEntity, RereadableShape, RereadableShapeForm, RereadableType}
use Rattle.cedar_reread_declares.proofs.Lists.{all_append}
use Rattle.cedar_reread_declares.proofs.Types.{form_distinct, record_declared, type_declared, type_distinct}

-- ---- names

pub names_declared : (names : List NameAt) → map name_placeless (map name_of (map name_read names)) ≡ map name_placeless names
names_declared [] = refl
names_declared (name ∷ names) = ap (λ (l : List NameAt). name_placeless name ∷ l) (names_declared names)

-- ---- shapes

shape_form_declared : (f : Form) (place : Option Place) → RereadableShapeForm f → type_placeless (shape_type (shape_form_read f)) ≡ type_placeless (shape_form_reread f place)
shape_form_declared (record_of attributes others) place is = ap (λ (f : Form). written f None) (record_declared attributes others is)
shape_form_declared (entity_or_common name) place is = refl
shape_form_declared string place is = absurd is
shape_form_declared long place is = absurd is
shape_form_declared boolean place is = absurd is
shape_form_declared (set_of element) place is = absurd is
shape_form_declared (entity name) place is = absurd is
shape_form_declared (extension name) place is = absurd is

-- a whole shape or context
pub shape_declared : (shape : TypeAt) → RereadableShape shape → type_placeless (shape_type (shape_read shape)) ≡ type_placeless (shape_reread shape)
shape_declared (written form place) is = shape_form_declared form place is
shape_declared (common_type name place) is = refl

-- in no type a name of an attribute stands twice
abbrev pub Distinct : List (Node TypeTree) → Type 0
Distinct types = AllByRecursion (λ t. HasNoRepeat t.node) types

shape_form_distinct : (f : Form) → RereadableShapeForm f → Distinct (types_of_shape (shape_form_read f))
shape_form_distinct (record_of attributes others) is = (form_distinct (record_of attributes others) is, tt)
shape_form_distinct (entity_or_common name) is = tt
shape_form_distinct string is = absurd is
shape_form_distinct long is = absurd is
shape_form_distinct boolean is = absurd is
shape_form_distinct (set_of element) is = absurd is
shape_form_distinct (entity name) is = absurd is
shape_form_distinct (extension name) is = absurd is

pub shape_distinct : (shape : TypeAt) → RereadableShape shape → Distinct (types_of_shape (shape_read shape))
shape_distinct (written form place) is = shape_form_distinct form is
shape_distinct (common_type name place) is = tt

-- ---- entity types

tags_declared : (tags : Option TypeAt) → IfSome tags RereadableType → option_map type_placeless (option_map type_at (option_map node_read tags)) ≡ option_map type_placeless (option_map type_reread tags)
tags_declared None is = refl
tags_declared (Some ty) is = ap (λ (t : TypeAt). Some t) (type_declared ty is)

ids_are : (ids : List Text) → map (λ (c : Node Text). c.node) (map bare ids) ≡ ids
ids_are [] = refl
ids_are (id ∷ ids) = ap (λ (l : List Text). id ∷ l) (ids_are ids)

pub entity_declared : (name : Text) (content : EntityContent) → RereadableEntity content → entity_placeless (entity_content (entity_read name content)) ≡ entity_placeless (entity_reread content)
entity_declared name (Shaped parents shape tags) is =
    let first = names_declared parents in
    let second = shape_declared shape is.0 in
    let third = tags_declared tags is.1 in
    λ i. Shaped (first i) (second i) (third i)
entity_declared name (Listed ids) is = ap Listed (ids_are ids)

tags_distinct : (tags : Option TypeAt) → IfSome tags RereadableType → Distinct (option_to_list (option_map node_read tags))
tags_distinct None is = tt
tags_distinct (Some ty) is = (type_distinct ty is, tt)

pub entity_distinct : (name : Text) (content : EntityContent) → RereadableEntity content → Distinct (types_of_decl (Entity (entity_read name content)))
entity_distinct name (Shaped parents shape tags) is =
    all_append (λ (t : Node TypeTree). HasNoRepeat t.node) (types_of_shape (shape_read shape)) (option_to_list (option_map node_read tags)) (shape_distinct shape is.0) (tags_distinct tags is.1)
entity_distinct name (Listed ids) is = tt
