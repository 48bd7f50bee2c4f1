-- SPDX-License-Identifier: Apache-2.0
use Rattle.std.proofs.Common.{◌≡◌, drop}
use Rattle.cedar_text.specs.Words.{has_word}
use Rattle.cedar_convert_faults.specs.Repeats.{words_of}
use Rattle.cedar_convert_warnings.proofs.merging.has_name.Given as goal

-- one of the rest is the word where one of all is
abbrev pub invariant-loop-name : goal.invariant-loop-name
invariant-loop-name l = has_word (words_of (drop l.name-index l.names)) l.word ≡ has_word (words_of l.names) l.word
