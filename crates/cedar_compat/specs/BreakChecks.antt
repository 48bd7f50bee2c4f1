-- SPDX-License-Identifier: Apache-2.0
-- The first break of a new schema: what it takes away first from data of an old one.
use Rattle.std.specs.Prelude.{ℕ, Bool, if◌then◌else◌, List, [], ◌∷◌, codes, Option, Some, None}
use Rattle.std.specs.declared.result.Result.TheVariants.{Ok}
use Rattle.cedar_data.specs.Answers.{and_then}
use Rattle.cedar_names.specs.Order.{words_eq}
use Rattle.cedar_text.specs.Words.{has_word}
use Rattle.cedar_schema_error.specs.FullNames.{FullName}
use Rattle.cedar_unfold.specs.Resolved.{Resolved, ResolvedAttributes, Boolean, Long, String, Extension, Set, Record, Entity, no_attributes, attribute}
use Rattle.cedar_checks.specs.of_world.Schemas.{EntityKind, EnumeratedKind, Schema, SchemaEntity, StandardKind}
use Rattle.cedar_compat.specs.Changes.{TypeBreak, type_removed, became_enumerated, choice_removed, attribute_removed, now_required, type_changed, tags_removed, descendant_removed}
use Rattle.cedar_compat.specs.Checks.{Check, CheckOf, here, of_type, under}
use Rattle.cedar_checks.specs.Lookups.{is_above, declared_type}
use Rattle.cedar_compat.specs.Widening.{attribute_named, needs}

-- each in order
abbrev pub each : {A E : Type 0} → (A → CheckOf E) → List A → CheckOf E
each check [] = Ok tt
each check (x ∷ xs) = and_then (check x) (λ _. each check xs)

-- ---- types

abbrev pub boolean_check : Resolved → Check
boolean_check Boolean = Ok tt
boolean_check other = here type_changed

abbrev pub long_check : Resolved → Check
long_check Long = Ok tt
long_check other = here type_changed

abbrev pub string_check : Resolved → Check
string_check String = Ok tt
string_check other = here type_changed

-- the names have to be the same
abbrev pub name_check : FullName → FullName → Check
name_check name found = if words_eq found name then Ok tt else here type_changed

abbrev pub extension_check : FullName → Resolved → Check
extension_check name (Extension found) = name_check name found
extension_check name other = here type_changed

abbrev pub entity_check : FullName → Resolved → Check
entity_check name (Entity found) = name_check name found
entity_check name other = here type_changed

-- the type has to be one of sets, of whose elements more may be asked
abbrev pub in_set : (Resolved → Check) → Resolved → Check
in_set check (Set element) = under (codes "[]") (check element)
in_set check other = here type_changed

-- the type has to be one of records, of whose attributes more may be asked
abbrev pub in_record : (ResolvedAttributes → Check) → Resolved → Check
in_record check (Record fields is_open) = check fields
in_record check other = here type_changed

-- the attribute has to be there, and more may be asked of its type
abbrev pub attribute_check : List ℕ → (Resolved → Check) → Option (Bool × Resolved) → Check
attribute_check name check None = here (attribute_removed name)
attribute_check name check (Some found) = under name (check found.1)

-- an attribute that is required has to be required before
abbrev pub needed_check : ResolvedAttributes → List ℕ → Bool → Check
needed_check old name required = if required then (if needs old name then Ok tt else here (now_required name)) else Ok tt

-- the new attributes, in the order of their names
abbrev pub required_check : ResolvedAttributes → ResolvedAttributes → Check
required_check old no_attributes = Ok tt
required_check old (attribute name required ty others) = and_then (needed_check old name required) (λ _. required_check old others)

abbrev mutual
  -- the first break of a type, which the new one has to widen
  pub type_check : Resolved → Resolved → Check
  type_check Boolean new = boolean_check new
  type_check Long new = long_check new
  type_check String new = string_check new
  type_check (Extension name) new = extension_check name new
  type_check (Set element) new = in_set (type_check element) new
  type_check (Record fields is_open) new = in_record (λ wider. and_then (attributes_check fields wider) (λ _. required_check fields wider)) new
  type_check (Entity name) new = entity_check name new

  -- the old attributes, in the order of their names
  pub attributes_check : ResolvedAttributes → ResolvedAttributes → Check
  attributes_check no_attributes new = Ok tt
  attributes_check (attribute name required ty others) new = and_then (attribute_check name (type_check ty) (attribute_named new name)) (λ _. attributes_check others new)

-- a record: the old attributes, and then what is required
abbrev pub record_check : ResolvedAttributes → ResolvedAttributes → Check
record_check old new = and_then (attributes_check old new) (λ _. required_check old new)

-- ---- entity types

abbrev pub tags_check : Option Resolved → Option Resolved → Check
tags_check None new = Ok tt
tags_check (Some tags) None = here tags_removed
tags_check (Some tags) (Some new) = under (codes "tags") (type_check tags new)

-- one of the choices
abbrev pub choice_check : List (List ℕ) → List ℕ → Check
choice_check choices id = if has_word choices id then Ok tt else here (choice_removed id)

-- the kind of an entity type: its choices, or its attributes and then its tags
abbrev pub kind_check : EntityKind → EntityKind → Check
kind_check (StandardKind fields is_open tags) (StandardKind wider tag new) = and_then (record_check fields wider) (λ _. tags_check tags new)
kind_check (StandardKind fields is_open tags) (EnumeratedKind choices) = here became_enumerated
kind_check (EnumeratedKind ids) (StandardKind wider tag new) = required_check no_attributes wider
kind_check (EnumeratedKind ids) (EnumeratedKind choices) = each (choice_check choices) ids

abbrev pub descendant_check : SchemaEntity → FullName → Check
descendant_check new below = if is_above new below then Ok tt else here (descendant_removed below)

-- an entity type that has to be there: its kind, and then its descendants
abbrev pub found_check : SchemaEntity → Option SchemaEntity → Check
found_check old None = here type_removed
found_check old (Some new) = and_then (kind_check old.kind new.kind) (λ _. each (descendant_check new) old.descendants)

unfoldable pub type_stays_check : Schema → FullName → SchemaEntity → Check
type_stays_check R name old = found_check old (declared_type R name)

-- the entity types of the old schema S in the new schema R, in the order of their names
unfoldable pub schema_check : Schema → Schema → CheckOf TypeBreak
schema_check S R = each (λ e. of_type e.0 (type_stays_check R e.0 e.1)) S.entity_types
