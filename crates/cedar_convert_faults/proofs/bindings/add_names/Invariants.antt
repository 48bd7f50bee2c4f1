-- SPDX-License-Identifier: Apache-2.0
use Rattle.std.proofs.Common.{◌≡◌, ◌++◌, map}
use Rattle.cedar_tree.specs.Meanings.{node_of}
use Rattle.cedar_names.specs.Identifiers.{id_word}
use Rattle.cedar_text.specs.Lists.{elements_left}
use Rattle.cedar_convert_faults.proofs.bindings.add_names.Given as goal

-- each name is put behind the others
abbrev pub invariant-loop-name : goal.invariant-loop-name
invariant-loop-name l = l.names ++ map (node_of id_word) (elements_left l.name-iterator) ≡ l.initial.names ++ map (node_of id_word) (elements_left l.initial.name-iterator)

abbrev pub invariant-loop-name-2 : goal.invariant-loop-name-2
invariant-loop-name-2 l = l.names ++ map (node_of (λ text. text)) (elements_left l.name-iterator) ≡ l.initial.names ++ map (node_of (λ text. text)) (elements_left l.initial.name-iterator)
