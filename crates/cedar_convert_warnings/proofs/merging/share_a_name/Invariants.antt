-- SPDX-License-Identifier: Apache-2.0
use Rattle.std.proofs.Common.{◌≡◌, drop}
use Rattle.std.specs.List.{list_any}
use Rattle.cedar_text.specs.Words.{has_word}
use Rattle.cedar_convert_faults.specs.Repeats.{words_of}
use Rattle.cedar_convert_warnings.proofs.merging.share_a_name.Given as goal

-- one of the rest stands in the other list where one of all does
abbrev pub invariant-loop-other : goal.invariant-loop-other
invariant-loop-other l = list_any (has_word (words_of l.ones)) (words_of (drop l.other-index l.others)) ≡ list_any (has_word (words_of l.ones)) (words_of l.others)
