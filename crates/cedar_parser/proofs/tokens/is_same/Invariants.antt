-- SPDX-License-Identifier: Apache-2.0
use Rattle.std.proofs.Common.{◌≡◌, bytes_eq, drop}
use Rattle.cedar_parser.proofs.tokens.is_same.Given as goal

-- the text and the word are the same where what is left of them is
abbrev pub invariant-loop-at : goal.invariant-loop-at
invariant-loop-at l = bytes_eq (drop l.at l.text) (drop l.at l.word) ≡ bytes_eq l.fn.text l.fn.word
