-- SPDX-License-Identifier: Apache-2.0
-- The world that a fragment denotes: what it declares, under full names, each reference with the full names that it may stand for.
use Rattle.std.specs.Prelude.{ℕ, false, List, [], ◌∷◌, ◌++◌, map, codes, Option, Some, None, unwrap_or}
use Rattle.std.specs.Option.{option_map, option_map_or}
use Rattle.std.specs.Ordering.{ordering_then}
use Rattle.std.specs.declared.cmp.Ordering.{Ordering}
use Rattle.cedar_data.specs.Sets as sets
use Rattle.cedar_names.specs.Order.{word_cmp, words_cmp}
use Rattle.cedar_written.specs.declared.reference_type.ReferenceType.{ReferenceType}
use Rattle.cedar_written.specs.declared.reference_type.ReferenceType.TheVariants as kind
use Rattle.cedar_schema_error.specs.FullNames.{FullName, Uid}
use Rattle.cedar_schema_error.specs.NameReferences.{ActionReference, NameReference}
use Rattle.cedar_namespace_definitions.specs.Definitions.{no_values, types_in}
use Rattle.cedar_world.specs.of_unfold.Written.{Written, WrittenAttributes, Boolean, Long, String, Extension, Set, Record, Entity, EntityOrCommon, CommonTypeRef, no_attributes, attribute}
use Rattle.cedar_world.specs.Definitions.{ActionDefinition, EntityDefinition, Enumerated, Namespace, Standard}
use Rattle.cedar_world.specs.Worlds.{World}
use Rattle.cedar_convert_fragment.specs.Fragments.{ActionAt, ActionContent, AppliesTo, Declared, Definition, EntityContent, Fields, Form, Fragment, NameAt, TypeAt, written, common_type, string, long, boolean, set_of, record_of, entity, entity_or_common, extension, no_fields, field, Shaped, Listed}

-- ---- names

-- the full names that a name may stand for in a namespace, the first to be tried first: a word alone may be the one in the namespace, or else itself; each other name is itself
abbrev pub possibilities : Option FullName → FullName → List FullName
possibilities None words = words ∷ []
possibilities (Some ns) (word ∷ []) = (ns ++ word ∷ []) ∷ (word ∷ []) ∷ []
possibilities (Some ns) words = words ∷ []

-- a name that a namespace refers to, at a place where such types may stand
abbrev pub reference : Option FullName → ReferenceType → NameAt → NameReference
reference ns kind name = record { raw = name.words; possibilities = possibilities ns name.words; kind = kind }

-- the full name of a word that a namespace declares
abbrev pub full_name : Option FullName → List ℕ → FullName
full_name None word = word ∷ []
full_name (Some ns) word = ns ++ word ∷ []

-- the full name of the type of the actions of a namespace
abbrev pub action_type : Option FullName → FullName
action_type ns = full_name ns (codes "Action")

-- ---- types

module _ (ns : Option FullName) where
  abbrev mutual
    -- a type of a namespace
    pub type_of : TypeAt → Written NameReference
    type_of (written form place) = form_of form
    type_of (common_type name place) = CommonTypeRef (reference ns kind.Common name)

    -- what is written out
    pub form_of : Form → Written NameReference
    form_of string = String
    form_of long = Long
    form_of boolean = Boolean
    form_of (set_of element) = Set (type_of element)
    form_of (record_of parts is_open) = Record (fields_of parts) is_open
    form_of (entity name) = Entity (reference ns kind.Entity name)
    form_of (entity_or_common name) = EntityOrCommon (reference ns kind.CommonOrEntity name)
    form_of (extension word) = Extension word

    -- attributes, in the order of their names
    pub fields_of : Fields → WrittenAttributes NameReference
    fields_of no_fields = no_attributes
    fields_of (field name ty annotations required others) = attribute name required (type_of ty) (fields_of others)

-- ---- sets of references

-- references are in the order of the names as they are written
abbrev pub reference_cmp : NameReference → NameReference → Ordering
reference_cmp a b = words_cmp a.raw b.raw

-- references to actions are in the order of their types, and then of their ids
abbrev pub action_reference_cmp : ActionReference → ActionReference → Ordering
action_reference_cmp a b = ordering_then (reference_cmp a.ty b.ty) (word_cmp a.id b.id)

-- names of entity types, as the set of the references that they are
abbrev pub entity_types_of : Option FullName → List NameAt → List NameReference
entity_types_of ns names = sets.set_of reference_cmp (map (reference ns kind.Entity) names)

-- the name `Action`, which stands for the type of an action where none is given
abbrev pub action_name : NameAt
action_name = record { words = codes "Action" ∷ []; place = None }

-- an action as a parent
abbrev pub action_reference : Option FullName → ActionAt → ActionReference
action_reference ns a = record { ty = reference ns kind.Entity (unwrap_or a.ty action_name); id = a.id }

-- the parents of an action, as a set
abbrev pub actions_of : Option FullName → List ActionAt → List ActionReference
actions_of ns parents = sets.set_of action_reference_cmp (map (action_reference ns) parents)

-- ---- declarations

-- an entity type
abbrev pub entity_of : Option FullName → EntityContent → EntityDefinition NameReference
entity_of ns (Shaped parents shape tags) = Standard (entity_types_of ns parents) (type_of ns shape) (option_map (type_of ns) tags)
entity_of ns (Listed ids) = Enumerated ids

-- what an action applies to names its principals; where it says nothing, there are none
abbrev pub principals_of : Option AppliesTo → List NameAt
principals_of a = option_map_or (λ a. a.principals) a []

-- so with its resources
abbrev pub resources_of : Option AppliesTo → List NameAt
resources_of a = option_map_or (λ a. a.resources) a []

-- its context; where it says nothing, the closed record without attributes
abbrev pub context_of : Option FullName → Option AppliesTo → Written NameReference
context_of ns a = option_map_or (λ a. type_of ns a.context) a (Record no_attributes false)

-- an action; the types of its attributes are told by their values
abbrev pub action_of : Option FullName → ActionContent → ActionDefinition NameReference ActionReference
action_of ns a = record {
  parents = actions_of ns (unwrap_or a.member_of []);
  principals = entity_types_of ns (principals_of a.applies_to);
  resources = entity_types_of ns (resources_of a.applies_to);
  context = context_of ns a.applies_to;
  attribute_types = types_in a.attributes;
  attributes = unwrap_or a.attributes no_values;
}

-- a common type under its full name
abbrev pub common_at : Option FullName → List ℕ × Declared TypeAt → FullName × Written NameReference
common_at ns c = (full_name ns c.0, type_of ns c.1.content)

-- an entity type under its full name
abbrev pub entity_at : Option FullName → List ℕ × Declared EntityContent → FullName × EntityDefinition NameReference
entity_at ns e = (full_name ns e.0, entity_of ns e.1.content)

-- the id of an action of a namespace
abbrev pub action_uid : Option FullName → List ℕ → Uid
action_uid ns id = record { ty = action_type ns; id = id }

-- an action under its id
abbrev pub action_at : Option FullName → List ℕ × Declared ActionContent → Uid × ActionDefinition NameReference ActionReference
action_at ns a = (action_uid ns a.0, action_of ns a.1.content)

-- ---- namespaces

-- what a namespace of this name declares
abbrev pub namespace_of : Option FullName × Definition → Namespace
namespace_of n = record {
  common_types = map (common_at n.0) n.1.common_types;
  entity_types = map (entity_at n.0) n.1.entity_types;
  actions = map (action_at n.0) n.1.actions;
}

-- the namespaces of a fragment, in order
abbrev pub namespaces_of : Fragment → List Namespace
namespaces_of f = map namespace_of f

-- the world of a fragment, where these words name extension types
abbrev pub world_of_fragment : Fragment → List (List ℕ) → World
world_of_fragment f extensions = record { namespaces = namespaces_of f; extensions = extensions }
