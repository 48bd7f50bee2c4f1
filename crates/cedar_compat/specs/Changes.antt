-- SPDX-License-Identifier: Apache-2.0
-- What a new schema takes away, by the words of names: places aside.
use Rattle.std.specs.Prelude.{ℕ, List}
use Rattle.cedar_names.specs.Names.{entity_words}
use Rattle.cedar_compat.specs.declared.broken.Broken.{Broken}
use Rattle.cedar_compat.specs.declared.fault.CompatFault.{CompatFault}
use Rattle.cedar_compat.specs.declared.kind.CompatKind.{CompatKind}
use Rattle.cedar_compat.specs.declared.kind.CompatKind.TheVariants as kind
use Rattle.cedar_schema_error.specs.FullNames.{FullName}

-- what is taken away
pub data Change : Type 0 where
  type_removed : Change
  became_enumerated : Change
  -- the id of the entity that isn't listed any more
  choice_removed : List ℕ → Change
  attribute_removed : List ℕ → Change
  now_required : List ℕ → Change
  type_changed : Change
  tags_removed : Change
  descendant_removed : FullName → Change

-- a change behind the keys that lead to it within an entity type
pub record Break : Type 0 where
  pub path : List (List ℕ)
  pub change : Change

-- the same with the entity type
pub record TypeBreak : Type 0 where
  pub ty : FullName
  pub path : List (List ℕ)
  pub change : Change

-- the change that a fault tells
abbrev pub change_of : CompatKind → Change
change_of kind.TypeRemoved = type_removed
change_of kind.BecameEnumerated = became_enumerated
change_of (kind.ChoiceRemoved id) = choice_removed id
change_of (kind.AttributeRemoved name) = attribute_removed name
change_of (kind.NowRequired name) = now_required name
change_of kind.TypeChanged = type_changed
change_of kind.TagsRemoved = tags_removed
change_of (kind.DescendantRemoved ty) = descendant_removed (entity_words ty)

-- the break that one within an entity type is
abbrev pub break_of : Broken → Break
break_of broken = record { path = broken.path; change = change_of broken.kind }

-- the break that a fault tells
abbrev pub type_break : CompatFault → TypeBreak
type_break fault = record { ty = entity_words fault.ty; path = fault.path; change = change_of fault.kind }
