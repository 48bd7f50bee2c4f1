-- SPDX-License-Identifier: Apache-2.0
use Rattle.std.proofs.Common.{◌≡◌, [], ◌++◌, refl, rules}
use Rattle.std.proofs.Output.{writes_in_calls_nil}
use Rattle.std.specs.Str.Iter.{chars_rest}
use Rattle.cedar_text.proofs.EscapeLemmas.{WroteFront-next}
use Rattle.cedar_text.proofs.escapes.write_characters.Goals as goal

pub loop-c-init : goal.loop-c-init
loop-c-init g c =
    let split : c.args.text.now ≡ [] ++ chars_rest c.into_iter-c-iterator.result = search rules in
    record {
      done = [];
      split = split;
      wrote = λ plain. record { wrote = writes_in_calls_nil g.W.Write.write_str_gives _; plain = plain };
    }

pub loop-c-preserved : goal.loop-c-preserved
loop-c-preserved g c =
    WroteFront-next g.W.Write.write_str_gives c.args.f.now c.args.text.now _ _ _ _ c.in-Some.c c.loop-c.invariant c.in-Some.ensures.steps.0
    (λ plain. c.in_ok-write_escaped.ensures plain refl)
