-- SPDX-License-Identifier: Apache-2.0
-- Fragments that are the same but for the places of what stands somewhere are the same without places.
use Rattle.std.proofs.Common.{◌≡◌, List, [], ◌∷◌, map, Option, Some, None, refl, sym, ap, ap₂, ◌∙◌}
use Rattle.std.specs.Option.{option_map}
use Rattle.cedar_tree.specs.Trees.{ByKey}
use Rattle.cedar_tree.specs.Unplaced.{annotations_unplaced, anywhere}
use Rattle.cedar_convert_fragment.specs.Fragments.{ActionAt, ActionContent, AppliesTo, ByName, Definition, EntityContent, Fields, Form, Fragment, NameAt, TypeAt, written, common_type, string, long, boolean, set_of, record_of, entity, entity_or_common, extension, no_fields, field, Shaped, Listed}
use Rattle.cedar_convert_laws.specs.Unplaced.{action_unplaced, applies_unplaced, by_name_unplaced, content_unplaced, definition_unplaced, fields_unplaced, form_unplaced, fragment_unplaced, name_unplaced, parent_unplaced, type_unplaced}
use Rattle.cedar_reread.specs.Placeless.{action_placeless, applies_placeless, by_name_placeless, definition_placeless, entity_placeless, fields_placeless, form_placeless, name_placeless, parent_placeless, placeless, type_placeless}

annotations_twice : (a : ByKey) → annotations_unplaced (annotations_unplaced a) ≡ annotations_unplaced a
annotations_twice [] = refl
annotations_twice (e ∷ a) = ap (λ (es : ByKey). (e.0, anywhere e.1) ∷ es) (annotations_twice a)

mutual
  type_same : (t : TypeAt) → type_placeless (type_unplaced t) ≡ type_placeless t
  type_same (written form place) = ap (λ f. written f None) (form_same form)
  type_same (common_type name place) = refl

  form_same : (f : Form) → form_placeless (form_unplaced f) ≡ form_placeless f
  form_same string = refl
  form_same long = refl
  form_same boolean = refl
  form_same (set_of element) = ap set_of (type_same element)
  form_same (record_of attributes others) = ap (λ fs. record_of fs others) (fields_same attributes)
  form_same (entity name) = refl
  form_same (entity_or_common name) = refl
  form_same (extension name) = refl

  fields_same : (fs : Fields) → fields_placeless (fields_unplaced fs) ≡ fields_placeless fs
  fields_same no_fields = refl
  fields_same (field name ty annotations required others) = λ i. field name (type_same ty i) (annotations_twice annotations i) required (fields_same others i)

map_same : {A B : Type 0} (f : A → A) (g : A → B) → ((a : A) → g (f a) ≡ g a) → (xs : List A) → map g (map f xs) ≡ map g xs
map_same f g same [] = refl
map_same f g same (x ∷ xs) = ap₂ (λ a l. a ∷ l) (same x) (map_same f g same xs)

option_same : {A B : Type 0} (f : A → A) (g : A → B) → ((a : A) → g (f a) ≡ g a) → (o : Option A) → option_map g (option_map f o) ≡ option_map g o
option_same f g same None = refl
option_same f g same (Some a) = ap Some (same a)

names_same : (ns : List NameAt) → map name_placeless (map name_unplaced ns) ≡ map name_placeless ns
names_same ns = map_same name_unplaced name_placeless (λ n. refl) ns

entity_same : (c : EntityContent) → entity_placeless (content_unplaced c) ≡ entity_placeless c
entity_same (Shaped parents shape tags) = λ i. Shaped (names_same parents i) (type_same shape i) (option_same type_unplaced type_placeless type_same tags i)
entity_same (Listed ids) = refl

applies_same : (a : AppliesTo) → applies_placeless (applies_unplaced a) ≡ applies_placeless a
applies_same a = λ i. record { resources = names_same a.resources i; principals = names_same a.principals i; context = type_same a.context i }

parent_same : (p : ActionAt) → parent_placeless (parent_unplaced p) ≡ parent_placeless p
parent_same p = λ i. record { ty = option_same name_unplaced name_placeless (λ n. refl) p.ty i; id = p.id }

action_same : (a : ActionContent) → action_placeless (action_unplaced a) ≡ action_placeless a
action_same a = λ i. record {
  attributes = a.attributes;
  applies_to = option_same applies_unplaced applies_placeless applies_same a.applies_to i;
  member_of = option_same (map parent_unplaced) (map parent_placeless) (map_same parent_unplaced parent_placeless parent_same) a.member_of i;
}

by_name_same : {A : Type 0} (f g : A → A) → ((a : A) → g (f a) ≡ g a) → (es : ByName A) → by_name_placeless g (by_name_unplaced f es) ≡ by_name_placeless g es
by_name_same f g same [] = refl
by_name_same f g same (e ∷ es) = λ i. (e.0, record { content = same e.1.content i; annotations = annotations_twice e.1.annotations i; loc = None }) ∷ by_name_same f g same es i

definition_same : (d : Definition) → definition_placeless (definition_unplaced d) ≡ definition_placeless d
definition_same d = λ i. record {
  common_types = by_name_same type_unplaced type_placeless type_same d.common_types i;
  entity_types = by_name_same content_unplaced entity_placeless entity_same d.entity_types i;
  actions = by_name_same action_unplaced action_placeless action_same d.actions i;
  annotations = annotations_twice d.annotations i;
}

fragment_same : (F : Fragment) → placeless (fragment_unplaced F) ≡ placeless F
fragment_same [] = refl
fragment_same (n ∷ F) = λ i. (n.0, definition_same n.1 i) ∷ fragment_same F i

pub same_without_places : (F G : Fragment) → fragment_unplaced F ≡ fragment_unplaced G → placeless F ≡ placeless G
same_without_places F G e = sym (fragment_same F) ∙ ap placeless e ∙ fragment_same G
