-- SPDX-License-Identifier: Apache-2.0
use Rattle.std.proofs.Common.{◌≡◌, ◌+◌, false, length}
use Rattle.std.specs.Str.{IsUtf8, chars}
use Rattle.std.specs.Str.Iter.{chars_rest}
use Rattle.cedar_tokens.specs.Literals.{closed_len}
use Rattle.cedar_tokens.proofs.literal.closed_len.Given as goal

-- the characters so far leave the rest to tell
abbrev pub invariant-loop-c : goal.invariant-loop-c
invariant-loop-c l =
    IsUtf8 (chars_rest l.c-iterator)
    × (closed_len 0 false (chars l.behind) ≡ closed_len l.len l.escaped (chars (chars_rest l.c-iterator)))
    × (l.len + length (chars_rest l.c-iterator) ≡ length l.behind)
