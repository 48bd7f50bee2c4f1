-- SPDX-License-Identifier: Apache-2.0
-- Full names, as lists of components, and ids of actions.
use Rattle.std.specs.Prelude.{ℕ, Bool, true, false, List, [], ◌∷◌}
use Rattle.std.specs.Ordering.{ordering_then}
use Rattle.std.specs.declared.cmp.Ordering.{Ordering}
use Rattle.cedar_names.specs.EntityUids.{eid_of, eid_text, entity_type_of}
use Rattle.cedar_names.specs.Names.{entity_words}
use Rattle.cedar_names.specs.Order.{word_cmp, words_cmp}
use Rattle.cedar_names.specs.declared.entity_uid.EntityUID.{EntityUID}

-- a full name: the components of its namespace, and then its basename
abbrev pub FullName : Type 0
FullName = List (List ℕ)

-- the id of an action: a type and a text
pub record Uid : Type 0 where
  pub ty : FullName
  pub id : List ℕ

-- the order of ids: by type, then by text
abbrev pub uid_cmp : Uid → Uid → Ordering
uid_cmp a b = ordering_then (words_cmp a.ty b.ty) (word_cmp a.id b.id)

-- the id of an entity, places aside
abbrev pub uid_in : EntityUID → Uid
uid_in u = record { ty = entity_words (entity_type_of u); id = eid_text (eid_of u) }

-- the last component
abbrev pub basename : FullName → List ℕ
basename [] = []
basename (x ∷ []) = x
basename (x ∷ y ∷ ys) = basename (y ∷ ys)

-- whether a name has a namespace
abbrev pub is_qualified : FullName → Bool
is_qualified [] = false
is_qualified (x ∷ []) = false
is_qualified (x ∷ y ∷ ys) = true
