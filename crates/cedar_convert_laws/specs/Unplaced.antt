-- SPDX-License-Identifier: Apache-2.0
-- Fragments with their places left out: each place that is given is one and the same.
use Rattle.std.specs.Prelude.{map, Option, option_map}
use Rattle.cedar_tree.specs.Trees.{Place}
use Rattle.cedar_tree.specs.Unplaced.{nowhere, annotations_unplaced}
use Rattle.cedar_convert_fragment.specs.Fragments.{ActionAt, ActionContent, AppliesTo, ByName, Declared, Definition, EntityContent, Fields, no_fields, field, Form, Fragment, NameAt, TypeAt, written, common_type, string, long, boolean, set_of, record_of, entity, entity_or_common, extension, Shaped, Listed}

-- a place that is given, or none
abbrev pub anyplace : Option Place → Option Place
anyplace place = option_map (λ p. nowhere) place

abbrev pub name_unplaced : NameAt → NameAt
name_unplaced n = record { words = n.words; place = anyplace n.place }

abbrev mutual
  pub type_unplaced : TypeAt → TypeAt
  type_unplaced (written form place) = written (form_unplaced form) (anyplace place)
  type_unplaced (common_type name place) = common_type (name_unplaced name) (anyplace place)

  pub form_unplaced : Form → Form
  form_unplaced string = string
  form_unplaced long = long
  form_unplaced boolean = boolean
  form_unplaced (set_of element) = set_of (type_unplaced element)
  form_unplaced (record_of attributes others) = record_of (fields_unplaced attributes) others
  form_unplaced (entity name) = entity (name_unplaced name)
  form_unplaced (entity_or_common name) = entity_or_common (name_unplaced name)
  form_unplaced (extension name) = extension name

  pub fields_unplaced : Fields → Fields
  fields_unplaced no_fields = no_fields
  fields_unplaced (field name ty annotations required others) = field name (type_unplaced ty) (annotations_unplaced annotations) required (fields_unplaced others)

abbrev pub content_unplaced : EntityContent → EntityContent
content_unplaced (Shaped parents shape tags) = Shaped (map name_unplaced parents) (type_unplaced shape) (option_map type_unplaced tags)
content_unplaced (Listed ids) = Listed ids

abbrev pub parent_unplaced : ActionAt → ActionAt
parent_unplaced parent = record { ty = option_map name_unplaced parent.ty; id = parent.id }

abbrev pub applies_unplaced : AppliesTo → AppliesTo
applies_unplaced a = record { resources = map name_unplaced a.resources; principals = map name_unplaced a.principals; context = type_unplaced a.context }

abbrev pub action_unplaced : ActionContent → ActionContent
action_unplaced a = record { attributes = a.attributes; applies_to = option_map applies_unplaced a.applies_to; member_of = option_map (map parent_unplaced) a.member_of }

-- what is declared, where f leaves the places of contents out
abbrev pub declared_unplaced : {A : Type 0} → (A → A) → Declared A → Declared A
declared_unplaced f d = record { content = f d.content; annotations = annotations_unplaced d.annotations; loc = anyplace d.loc }

abbrev pub by_name_unplaced : {A : Type 0} → (A → A) → ByName A → ByName A
by_name_unplaced f entries = map (λ e. (e.0, declared_unplaced f e.1)) entries

abbrev pub definition_unplaced : Definition → Definition
definition_unplaced d = record {
  common_types = by_name_unplaced type_unplaced d.common_types;
  entity_types = by_name_unplaced content_unplaced d.entity_types;
  actions = by_name_unplaced action_unplaced d.actions;
  annotations = annotations_unplaced d.annotations;
}

-- a fragment, with all its places left out
abbrev pub fragment_unplaced : Fragment → Fragment
fragment_unplaced fragment = map (λ e. (e.0, definition_unplaced e.1)) fragment
