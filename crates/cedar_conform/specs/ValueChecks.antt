-- SPDX-License-Identifier: Apache-2.0
-- The first misfit of a value, and of a reference.
use Rattle.std.specs.Prelude.{ℕ, ℤ, Bool, if◌then◌else◌, List, codes, Option, Some, None}
use Rattle.std.specs.declared.result.Result.TheVariants.{Ok}
use Rattle.cedar_text.specs.Faults.{no_unreserved_id}
use Rattle.cedar_text.specs.NormalNames.{name_fault, parts}
use Rattle.cedar_text.specs.declared.fault.NameFault.{NameFault}
use Rattle.cedar_names.specs.Order.{words_eq}
use Rattle.serde_json.specs.Data.{Data, null, boolean, number, string, array, object, no_members, member}
use Rattle.serde_json.specs.Find.{get}
use Rattle.cedar_json_fault.specs.declared.json_fault.JsonKind.TheVariants as kinds
use Rattle.cedar_json_values.specs.ActionValues.{long_of}
use Rattle.cedar_checks.specs.of_world.Schemas.{Schema, SchemaEntity}
use Rattle.cedar_schema_error.specs.FullNames.{FullName, Uid}
use Rattle.cedar_unfold.specs.Resolved.{Resolved, ResolvedAttributes, Boolean, Long, String, Extension, Set, Record, Entity, no_attributes, attribute}
use Rattle.cedar_written.specs.Answers.{and_then}
use Rattle.cedar_conform_fault.specs.Flaws.{wrong_kind, invalid_name, out_of_range, unknown_type, wrong_type, no_choice, unknown_attribute, missing_attribute, extension_value}
use Rattle.cedar_conform.specs.Checks.{Check, here, under, in_object, in_array, in_text, keys_check, needs, each_item, each_member}
use Rattle.cedar_conform.specs.Fits.{has_attribute}
use Rattle.cedar_conform.specs.References.{may_have, reference_keys}
use Rattle.cedar_checks.specs.Lookups.{declared_type}

-- ---- references

-- a text as a name
abbrev pub named : List ℕ → Option NameFault → Check FullName
named s None = Ok (parts s)
named s (Some fault) = here (invalid_name s fault)

abbrev pub name_check : Data → Check FullName
name_check = in_text (λ s. named s (name_fault no_unreserved_id s))

abbrev pub text_check : Data → Check (List ℕ)
text_check = in_text Ok

abbrev pub uid_of : FullName → List ℕ → Uid
uid_of ty id = record { ty = ty; id = id }

-- the keys, then the type, then the id
unfoldable pub plain_check : Data → Check Uid
plain_check d =
    and_then (keys_check reference_keys d)
    (λ _. and_then (needs (codes "type") name_check d)
    (λ ty. and_then (needs (codes "id") text_check d)
    (λ id. Ok (uid_of ty id))))

-- what stands at the key `__entity`, where there is no other
abbrev pub only_entity : Data → Option Data
only_entity (object (member k d no_members)) = get (codes "__entity") (object (member k d no_members))
only_entity other = None

abbrev pub either_check : Option Data → Data → Check Uid
either_check None d = plain_check d
either_check (Some inner) d = under (codes "__entity") (plain_check inner)

-- the entity to which a value refers
unfoldable pub reference_check : Data → Check Uid
reference_check d = either_check (only_entity d) d

-- ---- what the schema knows

abbrev pub choice_check : Uid → SchemaEntity → Check SchemaEntity
choice_check u ty = if may_have ty.kind u.id then Ok ty else here (no_choice u.ty u.id)

abbrev pub known_as : Uid → Option SchemaEntity → Check SchemaEntity
known_as u None = here (unknown_type u.ty)
known_as u (Some ty) = choice_check u ty

-- the type of the entity, which the schema has to know
unfoldable pub known_check : Schema → Uid → Check SchemaEntity
known_check S u = known_as u (declared_type S u.ty)

abbrev pub same_type : FullName → FullName → Check (Unit {0})
same_type wanted found = if words_eq found wanted then Ok tt else here (wrong_type found wanted)

-- a reference to an entity of the type
unfoldable pub entity_check : Schema → FullName → Data → Check (Unit {0})
entity_check S name d = and_then (reference_check d) (λ u. and_then (same_type name u.ty) (λ _. and_then (known_check S u) (λ _. Ok tt)))

-- ---- values

abbrev pub boolean_check : Data → Check (Unit {0})
boolean_check null = here (wrong_kind kinds.Null kinds.Boolean)
boolean_check (boolean b) = Ok tt
boolean_check (number n) = here (wrong_kind kinds.Number kinds.Boolean)
boolean_check (string s) = here (wrong_kind kinds.String kinds.Boolean)
boolean_check (array ds) = here (wrong_kind kinds.Array kinds.Boolean)
boolean_check (object ms) = here (wrong_kind kinds.Object kinds.Boolean)

abbrev pub in_range : Option ℤ → Check (Unit {0})
in_range None = here out_of_range
in_range (Some z) = Ok tt

abbrev pub long_check : Data → Check (Unit {0})
long_check null = here (wrong_kind kinds.Null kinds.Number)
long_check (boolean b) = here (wrong_kind kinds.Boolean kinds.Number)
long_check (number n) = in_range (long_of (number n))
long_check (string s) = here (wrong_kind kinds.String kinds.Number)
long_check (array ds) = here (wrong_kind kinds.Array kinds.Number)
long_check (object ms) = here (wrong_kind kinds.Object kinds.Number)

abbrev pub string_check : Data → Check (Unit {0})
string_check = in_text (λ s. Ok tt)

-- a key that has to be the name of an attribute
abbrev pub name_known_check : ResolvedAttributes → List ℕ → Check (Unit {0})
name_known_check fields k = if has_attribute fields k then Ok tt else here (unknown_attribute k)

-- the value has to be an object that has no other keys than the names of attributes
abbrev pub names_check : ResolvedAttributes → Data → Check (Unit {0})
names_check fields d = in_object (each_member (λ k e. name_known_check fields k)) d

-- an attribute that isn't there must not be required
abbrev pub absent_check : List ℕ → Bool → Check (Unit {0})
absent_check name required = if required then here (missing_attribute name) else Ok tt

-- an attribute that may be there
abbrev pub attribute_check : List ℕ → Bool → (Data → Check (Unit {0})) → Option Data → Check (Unit {0})
attribute_check name required check None = absent_check name required
attribute_check name required check (Some d) = under name (check d)

module _ (S : Schema) where
  abbrev mutual
    -- the first misfit of a value that has to fit the type
    pub value_check : Resolved → Data → Check (Unit {0})
    value_check Boolean d = boolean_check d
    value_check Long d = long_check d
    value_check String d = string_check d
    value_check (Extension name) d = here (extension_value name)
    value_check (Set element) d = in_array (each_item (value_check element) 0) d
    value_check (Record fields is_open) d = and_then (names_check fields d) (λ _. attributes_check fields d)
    value_check (Entity name) d = entity_check S name d

    -- the first misfit of the attributes, in the order of their names
    pub attributes_check : ResolvedAttributes → Data → Check (Unit {0})
    attributes_check no_attributes d = Ok tt
    attributes_check (attribute name required ty others) d = and_then (attribute_check name required (value_check ty) (get name d)) (λ _. attributes_check others d)

  -- the first misfit of a record: an unknown attribute, or else one of the attributes
  abbrev pub record_check : ResolvedAttributes → Data → Check (Unit {0})
  record_check fields d = and_then (names_check fields d) (λ _. attributes_check fields d)
