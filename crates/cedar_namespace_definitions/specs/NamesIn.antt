-- SPDX-License-Identifier: Apache-2.0
-- The names of what a namespace declares.
use Rattle.std.specs.Prelude.{ℕ, Bool, false, List, [], ◌∷◌, Option, Some, None, if◌then◌else◌}
use Rattle.std.specs.Ordering.{ordering_then}
use Rattle.std.specs.declared.cmp.Ordering.{Ordering}
use Rattle.cedar_text.specs.declared.location.Loc.{Loc}
use Rattle.cedar_names.specs.Components.{components, has_cedar, internal_name, qualified}
use Rattle.cedar_names.specs.EntityUids.{eid_of, eid_text, entity_type_of, place_of}
use Rattle.cedar_names.specs.Identifiers.{id_of}
use Rattle.cedar_names.specs.Names.{internal_cmp, internal_of, name_of}
use Rattle.cedar_names.specs.Order.{word_cmp}
use Rattle.cedar_names.specs.declared.entity_uid.EntityUID.{EntityUID}
use Rattle.cedar_names.specs.declared.id.UnreservedId.{UnreservedId}
use Rattle.cedar_names.specs.declared.internal_name.InternalName.{InternalName}
use Rattle.cedar_names.specs.declared.name.EntityType.{EntityType}
use Rattle.cedar_written.specs.Qualifying.{action_id}
use Rattle.cedar_schema_error.specs.FullNames.{FullName}
use Rattle.cedar_schema_error.specs.Refusals.{Refusal, ReservedName}

-- whether a namespace has the component `__cedar`
abbrev pub is_reserved : Option InternalName → Bool
is_reserved None = false
is_reserved (Some ns) = has_cedar (components ns)

-- a name in such a namespace is refused
abbrev pub reserved_in : Option InternalName → FullName → List Refusal
reserved_in ns name = if is_reserved ns then ReservedName name ∷ [] else []

-- the name of an identifier in a namespace, at a place
abbrev pub name_at : Option InternalName → UnreservedId → Option Loc → InternalName
name_at ns id loc = qualified (internal_name (id_of id) [] loc) ns

-- the type of the actions of a namespace, which has no place
abbrev pub action_type_in : Option InternalName → InternalName
action_type_in ns = qualified (internal_name action_id [] None) ns

-- an entity type, as its name
abbrev pub entity_key : EntityType → InternalName
entity_key ty = internal_of (name_of ty)

-- an action: the name of its type, its text, and where it is declared
pub record ActionKey : Type 0 where
  pub ty : InternalName
  pub id : List ℕ
  pub place : Option Loc

abbrev pub action_key : EntityUID → ActionKey
action_key uid = record { ty = entity_key (entity_type_of uid); id = eid_text (eid_of uid); place = place_of uid }

-- actions are ordered by type, then by text
abbrev pub action_key_cmp : ActionKey → ActionKey → Ordering
action_key_cmp a b = ordering_then (internal_cmp a.ty b.ty) (word_cmp a.id b.id)

-- the action of a text in a namespace, at a place
abbrev pub action_at : Option InternalName → List ℕ → Option Loc → ActionKey
action_at ns id place = record { ty = action_type_in ns; id = id; place = place }
