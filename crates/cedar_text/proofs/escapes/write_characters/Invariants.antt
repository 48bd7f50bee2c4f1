-- SPDX-License-Identifier: Apache-2.0
use Rattle.std.specs.Str.Iter.{chars_rest}
use Rattle.cedar_text.proofs.EscapeLemmas.{WroteFront}
use Rattle.cedar_text.proofs.escapes.write_characters.Given as goal

-- the characters so far are written
abbrev pub invariant-loop-c : goal.invariant-loop-c
invariant-loop-c g l = WroteFront g.W.Write.write_str_gives l.initial.f l.text (chars_rest l.c-iterator) l.f
