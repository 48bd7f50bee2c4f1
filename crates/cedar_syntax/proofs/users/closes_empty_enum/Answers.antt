-- SPDX-License-Identifier: Apache-2.0
use Rattle.std.proofs.Common.{◌≡◌, true, false, ◌∙◌, sym}
use Rattle.cedar_syntax.proofs.Rules.{opening_is, word_is, closes_by}
use Rattle.cedar_syntax.proofs.users.closes_empty_enum.Goals as goal

pub returns-then-not-is_mark-2 : goal.returns-then-not-is_mark-2
returns-then-not-is_mark-2 c source = (
  λ holds. let e : false ≡ true = holds in absurd cc,
  λ closes. sym c.if-not-is_mark-2.true ∙ c.is_mark-2.ensures
      ∙ opening_is source c.args.front.now c.in-Some.behind.now c.in-Some.opening.now c.args.token.now c.in-Some.ensures.cases.0 closes,
)

pub returns-in-Some-split_last : goal.returns-in-Some-split_last
returns-in-Some-split_last c source = (
  λ names. closes_by source c.args.front.now c.in-Some-split_last.field-0-1.now c.in-Some.behind.now c.in-Some-split_last.word.now c.in-Some.opening.now c.args.token.now
      c.in-Some.ensures.cases.0 c.in-Some-split_last.ensures.cases.0 (sym c.is_keyword.ensures ∙ names) (sym c.is_mark-2.ensures ∙ c.if-not-is_mark-2.false)
      (sym c.is_mark.ensures ∙ c.if-not-is_mark.false),
  λ closes. c.is_keyword.ensures
      ∙ word_is source c.args.front.now c.in-Some-split_last.field-0-1.now c.in-Some.behind.now c.in-Some-split_last.word.now c.in-Some.opening.now c.args.token.now
      c.in-Some.ensures.cases.0 c.in-Some-split_last.ensures.cases.0 closes,
)
