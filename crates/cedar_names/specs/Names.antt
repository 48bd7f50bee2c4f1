-- SPDX-License-Identifier: Apache-2.0
use Rattle.std.specs.Prelude.{ℕ, List}
use Rattle.std.specs.declared.cmp.Ordering.{Ordering}
use Rattle.cedar_names.specs.Components.{components}
use Rattle.cedar_names.specs.Order.{words_cmp}
use Rattle.cedar_names.specs.declared.internal_name.InternalName.{InternalName}
use Rattle.cedar_names.specs.declared.name.Name.{Name}
use Rattle.cedar_names.specs.declared.name.EntityType.{EntityType}

-- the name as an internal name
abbrev pub internal_of : Name → InternalName
internal_of n = n.internal

-- the words of a name
abbrev pub name_words : Name → List (List ℕ)
name_words n = components n.internal

-- the name of an entity type
abbrev pub name_of : EntityType → Name
name_of t = t.name

-- the words of the name of an entity type
abbrev pub entity_words : EntityType → List (List ℕ)
entity_words t = name_words t.name

-- the orders of names and of entity types, as keys of a map: those of their component lists
abbrev pub internal_cmp : InternalName → InternalName → Ordering
internal_cmp a b = words_cmp (components a) (components b)

abbrev pub name_cmp : Name → Name → Ordering
name_cmp a b = words_cmp (name_words a) (name_words b)

abbrev pub entity_cmp : EntityType → EntityType → Ordering
entity_cmp a b = words_cmp (entity_words a) (entity_words b)
