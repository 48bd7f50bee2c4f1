-- SPDX-License-Identifier: Apache-2.0
use Rattle.std.proofs.Common.{◌≡◌, ◌++◌, map}
use Rattle.std.specs.Vec.Iter.{into_iter_items}
use Rattle.cedar_names.specs.Identifiers.{id_word, unreserved_word}
use Rattle.cedar_tree.specs.Meanings.{node_of}
use Rattle.cedar_convert_fragment.specs.Declares.{free_names}
use Rattle.cedar_convert_declarations.proofs.putting.unreserved_ids.Given as goal

-- the names so far, with those of the rest, are all
abbrev pub invariant-loop-name : goal.invariant-loop-name
invariant-loop-name l =
    map unreserved_word l.ids.items ++ free_names (map (node_of id_word) (into_iter_items l.name-iterator)) ≡ map unreserved_word l.initial.ids.items ++ free_names (map (node_of id_word) (into_iter_items l.initial.name-iterator))
