-- SPDX-License-Identifier: Apache-2.0
-- What a fragment becomes where it is printed in the human syntax and read again.
use Rattle.std.specs.Prelude.{false, List, [], ◌∷◌, map, codes, Option, Some, None}
use Rattle.std.specs.List.{flat_map}
use Rattle.std.specs.Option.{option_map}
use Rattle.cedar_tree.specs.Trees.{Text, ByKey, Place}
use Rattle.cedar_convert_fragment.specs.Fragments.{ActionAt, ActionContent, AppliesTo, ByName, Declared, Definition, EntityContent, Fields, Form, Fragment, NameAt, TypeAt, written, common_type, string, long, boolean, set_of, record_of, entity, entity_or_common, extension, no_fields, field, Shaped, Listed}

-- a type that every schema has
abbrev pub builtin : Text → Form
builtin w = entity_or_common (record { words = codes "__cedar" ∷ w ∷ []; place = None })

-- a name is read as one of a common type or else of an entity type, and so is a type that every schema has
abbrev mutual
  pub type_reread : TypeAt → TypeAt
  type_reread (written form place) = written (form_reread form) place
  type_reread (common_type name place) = written (entity_or_common name) place

  pub form_reread : Form → Form
  form_reread string = builtin (codes "String")
  form_reread long = builtin (codes "Long")
  form_reread boolean = builtin (codes "Bool")
  form_reread (set_of element) = set_of (type_reread element)
  form_reread (record_of attributes others) = record_of (fields_reread attributes) others
  form_reread (entity name) = entity_or_common name
  form_reread (entity_or_common name) = entity_or_common name
  form_reread (extension name) = builtin name

  pub fields_reread : Fields → Fields
  fields_reread no_fields = no_fields
  fields_reread (field name ty annotations required others) = field name (type_reread ty) annotations required (fields_reread others)

-- as a whole shape or context a name is read as one of a common type
abbrev pub shape_form_reread : Form → Option Place → TypeAt
shape_form_reread (record_of attributes others) place = written (record_of (fields_reread attributes) others) place
shape_form_reread (entity_or_common name) place = common_type name place
shape_form_reread form place = written form place

abbrev pub shape_reread : TypeAt → TypeAt
shape_reread (written form place) = shape_form_reread form place
shape_reread (common_type name place) = common_type name place

abbrev pub entity_reread : EntityContent → EntityContent
entity_reread (Shaped parents shape tags) = Shaped parents (shape_reread shape) (option_map type_reread tags)
entity_reread (Listed ids) = Listed ids

-- the closed record without attributes
abbrev pub no_context : TypeAt
no_context = written (record_of no_fields false) None

-- an action that doesn't say what it applies to applies to nothing
abbrev pub applies_reread : Option AppliesTo → AppliesTo
applies_reread None = record { resources = []; principals = []; context = no_context }
applies_reread (Some a) = record { resources = a.resources; principals = a.principals; context = shape_reread a.context }

-- the type of a parent is `Action` where none is given
abbrev pub parent_type_reread : Option NameAt → NameAt
parent_type_reread None = record { words = codes "Action" ∷ []; place = None }
parent_type_reread (Some name) = name

abbrev pub parent_reread : ActionAt → ActionAt
parent_reread parent = record { ty = Some (parent_type_reread parent.ty); id = parent.id }

-- an action without parents has no list of them
abbrev pub parents_reread : Option (List ActionAt) → Option (List ActionAt)
parents_reread None = None
parents_reread (Some []) = None
parents_reread (Some (parent ∷ parents)) = Some (map parent_reread (parent ∷ parents))

abbrev pub action_reread : ActionContent → ActionContent
action_reread a = record { attributes = a.attributes; applies_to = Some (applies_reread a.applies_to); member_of = parents_reread a.member_of }

-- what is declared, where f says what becomes of contents
abbrev pub declared_reread : {A : Type 0} → (A → A) → Declared A → Declared A
declared_reread f d = record { content = f d.content; annotations = d.annotations; loc = d.loc }

abbrev pub by_name_reread : {A : Type 0} → (A → A) → ByName A → ByName A
by_name_reread f entries = map (λ e. (e.0, declared_reread f e.1)) entries

abbrev pub definition_reread : Definition → ByKey → Definition
definition_reread d annotations = record {
  common_types = by_name_reread type_reread d.common_types;
  entity_types = by_name_reread entity_reread d.entity_types;
  actions = by_name_reread action_reread d.actions;
  annotations = annotations;
}

-- the unnamed namespace, unless it declares nothing
abbrev pub unnamed_unless_empty : {A B C : Type 0} → List A → List B → List C → Fragment → Fragment
unnamed_unless_empty [] [] [] F = []
unnamed_unless_empty commons entities actions F = F

-- a namespace; the unnamed one has no annotations, and is none where it declares nothing
abbrev pub under_reread : Option (List Text) → Definition → Fragment
under_reread None d = unnamed_unless_empty d.common_types d.entity_types d.actions ((None, definition_reread d []) ∷ [])
under_reread (Some words) d = (Some words, definition_reread d d.annotations) ∷ []

abbrev pub namespace_reread : Option (List Text) × Definition → Fragment
namespace_reread n = under_reread n.0 n.1

-- a fragment
abbrev pub reread : Fragment → Fragment
reread F = flat_map namespace_reread F
