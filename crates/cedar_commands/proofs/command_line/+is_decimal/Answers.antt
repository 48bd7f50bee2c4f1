-- SPDX-License-Identifier: Apache-2.0
use Rattle.std.proofs.Common.{sym, ◌∙◌}
use Rattle.cedar_commands.proofs.Decimals.{digits-more, digits-none, digits-one, digits-other, none-before}
use Rattle.cedar_commands.proofs.command_line.+is_decimal.Goals as goal

pub returns-in_default : goal.returns-in_default
returns-in_default t c = digits-none c.args.digits.now c.args.number c.ranges.number.fits c.in_default.ensures.cases

pub returns-then-from-number : goal.returns-then-from-number
returns-then-from-number t c =
    digits-other c.args.digits.now c.in-Some.front.now c.in-Some.last.now c.args.number c.ranges.number.fits c.in-Some.ensures.cases.0
    (λ same. c.if-from-number.true (c.from.ensures ∙ same))

pub returns-then-number-lt10 : goal.returns-then-number-lt10
returns-then-number-lt10 t c =
    digits-one c.args.digits.now c.in-Some.front.now c.in-Some.last.now c.args.number c.ranges.number.fits c.in-Some.ensures.cases.0
    c.is_empty.result c.if-number-lt10.true (sym c.from.ensures ∙ c.if-from-number.false) (none-before c.is_empty.result c.in-Some.front.now c.is_empty.ensures)

pub returns : goal.returns
returns t c =
    digits-more c.args.digits.now c.in-Some.front.now c.in-Some.last.now c.args.number c.ranges.number.fits c.in-Some.ensures.cases.0
    c.is_decimal.result c.if-number-lt10.false (sym c.from.ensures ∙ c.if-from-number.false) c.is_decimal.ensures
