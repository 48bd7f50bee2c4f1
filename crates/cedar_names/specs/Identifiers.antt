-- SPDX-License-Identifier: Apache-2.0
use Rattle.std.specs.Prelude.{ℕ, List, ◌++◌, map, option_to_list}
use Rattle.std.specs.Option.{option_copied}
use Rattle.std.specs.Slice.Iter.{iter_rest}
use Rattle.cedar_names.specs.declared.any_id.AnyId.{AnyId}
use Rattle.cedar_names.specs.declared.components.Components.{Components}
use Rattle.cedar_names.specs.declared.id.Id.{Id}
use Rattle.cedar_names.specs.declared.id.UnreservedId.{UnreservedId}

-- the word of an identifier
abbrev pub id_word : Id → List ℕ
id_word id = id.word

-- the word of an identifier other than `__cedar`
abbrev pub unreserved_word : UnreservedId → List ℕ
unreserved_word id = id.id.word

-- the identifier that an unreserved identifier is
abbrev pub id_of : UnreservedId → Id
id_of id = id.id

-- the word of an `AnyId`
abbrev pub any_word : AnyId → List ℕ
any_word id = id.word

-- the words of a list of identifiers
abbrev pub id_words : List Id → List (List ℕ)
id_words ids = map id_word ids

-- the words of a list of unreserved identifiers
abbrev pub unreserved_words : List UnreservedId → List (List ℕ)
unreserved_words ids = map unreserved_word ids

-- the identifiers that are left of the components of a name
abbrev pub ids_left : Components → List Id
ids_left c = iter_rest c.namespace ++ option_to_list (option_copied c.basename)
