-- SPDX-License-Identifier: Apache-2.0
-- The basenames of names, by their namespaces.
use Rattle.std.specs.Prelude.{◌≡◌, ⊤, Bool, true, false, cond, List, Option, Some, None}
use Rattle.std.specs.BTreeMap.{is_at}
use Rattle.std.specs.Cmp.Lexicographic.{slice_cmp}
use Rattle.std.specs.declared.cmp.Ordering.{Ordering}
use Rattle.cedar_data.specs.Maps.{get}
use Rattle.cedar_data.specs.Sets.{contains}
use Rattle.cedar_names.specs.Components.{basename_of, namespace_of}
use Rattle.cedar_names.specs.Identifiers.{id_word}
use Rattle.cedar_names.specs.Names.{internal_cmp}
use Rattle.cedar_names.specs.Order.{word_cmp}
use Rattle.cedar_names.specs.declared.id.Id.{Id}
use Rattle.cedar_names.specs.declared.internal_name.InternalName.{InternalName}

-- the order of identifiers
abbrev pub id_cmp : Id → Id → Ordering
id_cmp a b = word_cmp (id_word a) (id_word b)

-- the order of namespaces
abbrev pub space_cmp : List Id → List Id → Ordering
space_cmp = slice_cmp id_cmp

-- whether a basename is one of those of a namespace, if there is one
abbrev pub is_among : Option (List Id) → Id → Bool
is_among None id = false
is_among (Some ids) id = contains id_cmp ids id

-- whether the basename of a name is one of those of its namespace
abbrev pub in_spaces : List (List Id × List Id) → InternalName → Bool
in_spaces spaces name = is_among (get space_cmp spaces (namespace_of name)) (basename_of name)

-- the new namespaces have the name; of each other name, they have what the old ones have
abbrev pub PutsName : List (List Id × List Id) → List (List Id × List Id) → InternalName → Type 0
PutsName old new name = (other : InternalName) → in_spaces new other ≡ cond (is_at (internal_cmp name) other) true (in_spaces old other)

-- the namespaces, where they are kept, have exactly these names
abbrev pub HaveNames : Option (List (List Id × List Id)) → List InternalName → Type 0
HaveNames None names = ⊤
HaveNames (Some spaces) names = (name : InternalName) → in_spaces spaces name ≡ contains internal_cmp names name
