-- SPDX-License-Identifier: Apache-2.0
-- Schemas in which no two attributes of a record have the same name. Each schema that a `ValidatorSchema` holds is such a one.
use Rattle.std.specs.Prelude.{◌≡◌, ⊤, false, Option, Some, None}
use Rattle.cedar_data.specs.Firsts.{AllPass}
use Rattle.cedar_conform.specs.Fits.{has_attribute}
use Rattle.cedar_unfold.specs.Resolved.{Resolved, ResolvedAttributes, Boolean, Long, String, Extension, Set, Record, Entity, no_attributes, attribute}
use Rattle.cedar_world.specs.Schemas.{EntityKind, EnumeratedKind, Schema, StandardKind}

abbrev mutual
  -- in each record in the type
  pub TypeNamesDiffer : Resolved → Type 0
  TypeNamesDiffer Boolean = ⊤
  TypeNamesDiffer Long = ⊤
  TypeNamesDiffer String = ⊤
  TypeNamesDiffer (Extension name) = ⊤
  TypeNamesDiffer (Set element) = TypeNamesDiffer element
  TypeNamesDiffer (Record fields is_open) = NamesDiffer fields
  TypeNamesDiffer (Entity name) = ⊤

  -- among the attributes, and in the type of each
  pub NamesDiffer : ResolvedAttributes → Type 0
  NamesDiffer no_attributes = ⊤
  NamesDiffer (attribute name required ty others) = (has_attribute others name ≡ false) × TypeNamesDiffer ty × NamesDiffer others

abbrev pub TagNamesDiffer : Option Resolved → Type 0
TagNamesDiffer None = ⊤
TagNamesDiffer (Some tags) = TypeNamesDiffer tags

abbrev pub KindNamesDiffer : EntityKind → Type 0
KindNamesDiffer (StandardKind fields is_open tags) = NamesDiffer fields × TagNamesDiffer tags
KindNamesDiffer (EnumeratedKind ids) = ⊤

-- in each entity type
abbrev pub AllNamesDiffer : Schema → Type 0
AllNamesDiffer S = AllPass (λ e. KindNamesDiffer e.1.kind) S.entity_types

-- in the context of each action
abbrev pub ContextNamesDiffer : Schema → Type 0
ContextNamesDiffer S = AllPass (λ a. TypeNamesDiffer a.1.context) S.actions
