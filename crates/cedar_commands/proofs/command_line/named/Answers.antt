-- SPDX-License-Identifier: Apache-2.0
use Rattle.std.proofs.Common.{◌≡◌, [], ◌∷◌, ◌++◌, ap, sym, ◌∙◌, arith, codes}
use Rattle.std.specs.String.{string_bytes}
use Rattle.cedar_commands.proofs.Asking.{named-next, named-odd, named-other, is_unequal, is_not_unequal}
use Rattle.cedar_commands.proofs.command_line.named.Goals as goal

pub returns-then-options-index-lt2 : goal.returns-then-options-index-lt2
returns-then-options-index-lt2 c = named-odd c.args.options.now c.loop-index.index c.loop-index.names.items c.loop-index.invariant.read c.loop-index-test.true c.if-options-index-lt2.true

pub returns-then-ne : goal.returns-then-ne
returns-then-ne c =
    named-other c.args.options.now c.loop-index.index c.loop-index.names.items c.loop-index.invariant.read c.index-options-index.result c.loop-index-test.true c.index-options-index.is
    (λ flag. is_unequal c.as_str.result.now (codes "--ext") c.ne.result c.ne.ensures c.if-ne.true (c.as_str.ensures.value ∙ flag))

pub loop-index-preserved : goal.loop-index-preserved
loop-index-preserved c =
    let flag = sym c.as_str.ensures.value ∙ is_not_unequal c.as_str.result.now (codes "--ext") c.ne.result c.ne.ensures c.if-ne.false in
    let names : c.push.new.self.items ≡ c.loop-index.names.items ++ string_bytes c.index-options-index-in-loop-index.result ∷ [] =
    c.in_ok-push.ensures.items ∙ ap (λ n. c.loop-index.names.items ++ n ∷ []) (c.in_ok-name.ensures ∙ c.as_str-in-loop-index.ensures.value) in
    record {
      read = rw names (named-next c.args.options.now c.loop-index.index c.loop-index.names.items c.loop-index.invariant.read
          c.index-options-index.result c.index-options-index-in-loop-index.result c.loop-index-test.true c.index-options-index.is (omega arith) c.index-options-index-in-loop-index.is flag);
      within = omega arith;
    }
