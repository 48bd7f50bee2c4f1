-- SPDX-License-Identifier: Apache-2.0
-- Fragments without their places.
use Rattle.std.specs.Prelude.{map, None}
use Rattle.std.specs.Option.{option_map}
use Rattle.cedar_tree.specs.Unplaced.{annotations_unplaced}
use Rattle.cedar_convert_fragment.specs.Fragments.{ActionAt, ActionContent, AppliesTo, ByName, Declared, Definition, EntityContent, Fields, Form, Fragment, NameAt, TypeAt, written, common_type, string, long, boolean, set_of, record_of, entity, entity_or_common, extension, no_fields, field, Shaped, Listed}

abbrev pub name_placeless : NameAt → NameAt
name_placeless n = record { words = n.words; place = None }

abbrev mutual
  pub type_placeless : TypeAt → TypeAt
  type_placeless (written form place) = written (form_placeless form) None
  type_placeless (common_type name place) = common_type (name_placeless name) None

  pub form_placeless : Form → Form
  form_placeless string = string
  form_placeless long = long
  form_placeless boolean = boolean
  form_placeless (set_of element) = set_of (type_placeless element)
  form_placeless (record_of attributes others) = record_of (fields_placeless attributes) others
  form_placeless (entity name) = entity (name_placeless name)
  form_placeless (entity_or_common name) = entity_or_common (name_placeless name)
  form_placeless (extension name) = extension name

  pub fields_placeless : Fields → Fields
  fields_placeless no_fields = no_fields
  fields_placeless (field name ty annotations required others) = field name (type_placeless ty) (annotations_unplaced annotations) required (fields_placeless others)

abbrev pub entity_placeless : EntityContent → EntityContent
entity_placeless (Shaped parents shape tags) = Shaped (map name_placeless parents) (type_placeless shape) (option_map type_placeless tags)
entity_placeless (Listed ids) = Listed ids

abbrev pub applies_placeless : AppliesTo → AppliesTo
applies_placeless a = record { resources = map name_placeless a.resources; principals = map name_placeless a.principals; context = type_placeless a.context }

abbrev pub parent_placeless : ActionAt → ActionAt
parent_placeless parent = record { ty = option_map name_placeless parent.ty; id = parent.id }

abbrev pub action_placeless : ActionContent → ActionContent
action_placeless a = record { attributes = a.attributes; applies_to = option_map applies_placeless a.applies_to; member_of = option_map (map parent_placeless) a.member_of }

-- what is declared, where f leaves the places of contents out
abbrev pub declared_placeless : {A : Type 0} → (A → A) → Declared A → Declared A
declared_placeless f d = record { content = f d.content; annotations = annotations_unplaced d.annotations; loc = None }

abbrev pub by_name_placeless : {A : Type 0} → (A → A) → ByName A → ByName A
by_name_placeless f entries = map (λ e. (e.0, declared_placeless f e.1)) entries

abbrev pub definition_placeless : Definition → Definition
definition_placeless d = record {
  common_types = by_name_placeless type_placeless d.common_types;
  entity_types = by_name_placeless entity_placeless d.entity_types;
  actions = by_name_placeless action_placeless d.actions;
  annotations = annotations_unplaced d.annotations;
}

-- a fragment
abbrev pub placeless : Fragment → Fragment
placeless F = map (λ n. (n.0, definition_placeless n.1)) F
