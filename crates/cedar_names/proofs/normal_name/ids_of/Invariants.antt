-- SPDX-License-Identifier: Apache-2.0
use Rattle.std.specs.Vec.Iter.{into_iter_items}
use Rattle.cedar_text.specs.NormalNames.{excluded_words}
use Rattle.cedar_names.proofs.NormalNameLemmas.{Checked}
use Rattle.cedar_names.proofs.normal_name.ids_of.Given as goal

-- the words so far are the identifiers, and none is excluded
abbrev pub invariant-loop-word : goal.invariant-loop-word
invariant-loop-word l =
    (goal.iterator-loop-word).can_next l.word-iterator × (goal.iterator-loop-word).is_finite l.word-iterator
    × Checked (excluded_words l.cedar_allowed) l.fn.words.items (into_iter_items l.word-iterator) l.ids.items
