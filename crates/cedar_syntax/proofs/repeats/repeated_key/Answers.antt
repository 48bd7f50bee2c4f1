-- SPDX-License-Identifier: Apache-2.0
use Rattle.std.proofs.Common.{◌∙◌, sym}
use Rattle.cedar_syntax.proofs.GoingBack.{tells_repeat}
use Rattle.cedar_syntax.proofs.repeats.repeated_key.Goals as goal

pub returns : goal.returns
returns c source =
    tells_repeat source c.args.front.now c.in_ok-last.before.now c.in_ok-last.last.now c.args.token.now c.key_in.result c.in_ok-last.ensures.cases.0
    (sym c.is_mark.ensures ∙ c.if-not-is_mark.false) (sym c.is_word.ensures ∙ c.if-not-is_word.false)
    (sym c.is_word-else-not-is_word.ensures ∙ c.if-not-is_word-2.false) c.key_in.ensures
