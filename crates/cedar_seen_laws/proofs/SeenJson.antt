-- SPDX-License-Identifier: Apache-2.0
-- What is written in JSON, by what is seen of a fragment alone.
use Rattle.std.specs.Prelude.{ℕ, Bool, false, true, not, List, [], ◌∷◌, ◌++◌, codes, Option, Some, None}
use Rattle.serde_json.specs.Data.{Data, boolean, string}
use Rattle.cedar_text.specs.Joining.{joined}
use Rattle.cedar_tree.specs.Trees.{ByKey, Node, Text}
use Rattle.cedar_convert_fragment.specs.Fragments as seen
use Rattle.cedar_convert_fragment.specs.Fragments.{ActionAt, ActionContent, AppliesTo, Declared, Definition, EntityContent, FieldAt, Form, Fragment, Listed, NameAt, Shaped, TypeAt, common_type, entity, entity_or_common, extension, field, no_fields, record_of, set_of, written}
use Rattle.cedar_json_write.specs.Written.{Field, all_of, each_at, if_any, if_some, object_of, typed, unless, values_json}
use Rattle.cedar_reread.specs.Said.{is_empty_shape}

-- ---- names and annotations

abbrev pub name_value : NameAt → Data
name_value n = string (joined n.words)

abbrev pub names_value : List NameAt → Data
names_value = all_of name_value

abbrev pub note_value : Node Text → Data
note_value note = string note.node

abbrev pub notes_value : ByKey → Data
notes_value = each_at (λ k. k) note_value

abbrev pub noted : ByKey → List Field
noted = if_any (codes "annotations") notes_value

-- ---- types, by the members of their objects

abbrev pub named_members : List ℕ → NameAt → List Field
named_members word n = typed word ∷ (codes "name", name_value n) ∷ []

-- an attribute, by the members of its type
abbrev pub with_notes : List Field → ByKey → Bool → List Field
with_notes ty annotations required = ty ++ (unless required (codes "required") (boolean false) ++ noted annotations)

abbrev mutual
  pub type_members : TypeAt → List Field
  type_members (written form place) = form_members form
  type_members (common_type name place) = typed (joined name.words) ∷ []

  pub form_members : Form → List Field
  form_members seen.string = typed (codes "String") ∷ []
  form_members seen.long = typed (codes "Long") ∷ []
  form_members seen.boolean = typed (codes "Boolean") ∷ []
  form_members (set_of element) = typed (codes "Set") ∷ (codes "element", object_of (type_members element)) ∷ []
  form_members (record_of attributes others) =
      typed (codes "Record") ∷ (codes "attributes", object_of (fields_members attributes)) ∷ unless (not others) (codes "additionalAttributes") (boolean true)
  form_members (entity name) = named_members (codes "Entity") name
  form_members (entity_or_common name) = named_members (codes "EntityOrCommon") name
  form_members (extension name) = typed (codes "Extension") ∷ (codes "name", string name) ∷ []

  pub fields_members : seen.Fields → List Field
  fields_members no_fields = []
  fields_members (field name ty annotations required others) = (name, object_of (with_notes (type_members ty) annotations required)) ∷ fields_members others

abbrev pub attribute_members : FieldAt → List Field
attribute_members a = with_notes (type_members a.ty) a.annotations a.required

abbrev pub type_value : TypeAt → Data
type_value t = object_of (type_members t)

-- ---- declarations

abbrev pub shape_members : List ℕ → TypeAt → List Field
shape_members k t = unless (is_empty_shape t) k (type_value t)

abbrev pub common_value : Declared TypeAt → Data
common_value c = object_of (type_members c.content ++ noted c.annotations)

abbrev pub content_members : EntityContent → List Field
content_members (Shaped parents shape tags) = if_any (codes "memberOfTypes") names_value parents ++ (shape_members (codes "shape") shape ++ if_some (codes "tags") type_value tags)
content_members (Listed ids) = (codes "enum", all_of string ids) ∷ []

abbrev pub entity_value : Declared EntityContent → Data
entity_value e = object_of (content_members e.content ++ noted e.annotations)

abbrev pub parent_value : ActionAt → Data
parent_value u = object_of ((codes "id", string u.id) ∷ if_some (codes "type") name_value u.ty)

abbrev pub apply_value : AppliesTo → Data
apply_value a = object_of ((codes "resourceTypes", names_value a.resources) ∷ (codes "principalTypes", names_value a.principals) ∷ shape_members (codes "context") a.context)

abbrev pub action_value : Declared ActionContent → Data
action_value a =
    object_of (if_some (codes "attributes") values_json a.content.attributes ++ (if_some (codes "appliesTo") apply_value a.content.applies_to
    ++ (if_some (codes "memberOf") (all_of parent_value) a.content.member_of ++ noted a.annotations)))

-- ---- namespaces and fragments

abbrev pub definition_value : Definition → Data
definition_value d =
    object_of (if_any (codes "commonTypes") (each_at (λ k. k) common_value) d.common_types
    ++ ((codes "entityTypes", each_at (λ k. k) entity_value d.entity_types) ∷ (codes "actions", each_at (λ k. k) action_value d.actions) ∷ noted d.annotations))

abbrev pub path_text : Option (List Text) → List ℕ
path_text None = []
path_text (Some words) = joined words

abbrev pub fragment_value : Fragment → Data
fragment_value F = each_at path_text definition_value F
