-- SPDX-License-Identifier: Apache-2.0
use Rattle.std.proofs.Common.{sym, ◌∙◌, arith, rules, refl}
use Rattle.std.proofs.lemmas.Str.{IsUtf8-past_char}
use Rattle.std.specs.Str.Iter.{chars_rest}
use Rattle.cedar_tokens.proofs.Closing.{at_line_feed, at_quote, past_escaped, past_plain, length_past, at_end}
use Rattle.cedar_tokens.proofs.literal.closed_len.Goals as goal
use Rattle.cedar_tokens.proofs.literal.closed_len.Goals.{then-escaped+else-c-eq10, else-escaped+else-c-eq34}

pub returns-then-c-eq10-clause-len : goal.returns-then-c-eq10-clause-len
returns-then-c-eq10-clause-len c =
    sym (c.loop-c.invariant.1 ∙ at_line_feed (chars_rest c.loop-c.c-iterator) (chars_rest c.next.new.self) c.in-Some.c c.loop-c.len _ c.loop-c.invariant.0 c.in-Some.ensures.steps.0 refl c.loop-c.escaped (search rules) (search rules))

pub returns-then-c-eq34-clause-len : goal.returns-then-c-eq34-clause-len
returns-then-c-eq34-clause-len c =
    sym (c.loop-c.invariant.1 ∙ at_quote (chars_rest c.loop-c.c-iterator) (chars_rest c.next.new.self) c.in-Some.c c.loop-c.len _ c.loop-c.invariant.0 c.in-Some.ensures.steps.0 refl c.loop-c.escaped (search rules) (search rules))

pub returns-clause-len : goal.returns-clause-len
returns-clause-len c = sym (c.loop-c.invariant.1 ∙ at_end (chars_rest c.loop-c.c-iterator) c.loop-c.len c.loop-c.escaped c.in-None.ensures.steps.0.0)

pub loop-c-preserved : goal.loop-c-preserved
loop-c-preserved c =
    let bs = chars_rest c.loop-c.c-iterator in
    let rest = chars_rest c.next.new.self in
    let u = c.loop-c.invariant.0 in
    let e = c.in-Some.ensures.steps.0 in (
      IsUtf8-past_char bs rest c.in-Some.c u e,
      c.loop-c.invariant.1 ∙ elim c.if-escaped.branch [
        | then-escaped+else-c-eq10 w ↦ rw w.escaped-is (past_escaped bs rest c.in-Some.c c.loop-c.len c.len_utf8-len.result u e c.len_utf8-len.ensures.len c.loop-c.escaped (search rules) (search rules))
        | else-escaped+else-c-eq34 w ↦ rw w.escaped-is (past_plain bs rest c.in-Some.c c.loop-c.len c.len_utf8-len.result u e c.len_utf8-len.ensures.len c.loop-c.escaped (search rules) (search rules))
      ],
      omega (arith, c.loop-c.invariant.2, length_past bs rest c.in-Some.c c.loop-c.len c.len_utf8-len.result u e c.len_utf8-len.ensures.len),
    )
