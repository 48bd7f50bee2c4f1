-- SPDX-License-Identifier: Apache-2.0
use Rattle.std.proofs.Common.{◌≡◌, ◌++◌, map}
use Rattle.cedar_names.specs.Identifiers.{id_word}
use Rattle.cedar_text.specs.Lists.{elements_left}
use Rattle.cedar_tree.specs.Meanings.{node_of}
use Rattle.cedar_convert_faults.specs.Faults.{reserved_names}
use Rattle.cedar_convert_faults.proofs.entities.add_reserved_names.Given as goal

-- the faults so far, with those of the rest, are all
abbrev pub invariant-loop-name : goal.invariant-loop-name
invariant-loop-name l =
    l.faults.items ++ reserved_names (map (node_of id_word) (elements_left l.name-iterator))
    ≡ l.initial.faults.items ++ reserved_names (map (node_of id_word) (elements_left l.initial.name-iterator))
