-- SPDX-License-Identifier: Apache-2.0
use Rattle.std.proofs.Common.{sym, ◌∙◌, arith}
use Rattle.cedar_data.proofs.Fronts.{number_less, number_greater, number_equal}
use Rattle.cedar_data.proofs.text.TextOrd.cmp.Goals as goal

pub returns-then-one-another : goal.returns-then-one-another
returns-then-one-another c = sym (number_less c.number-one.ensures c.number-another.ensures c.if-one-another.true)

pub returns-then-another-one : goal.returns-then-another-one
returns-then-another-one c = sym (number_greater c.number-one.ensures c.number-another.ensures c.if-another-one.true)

pub returns-then-is_short : goal.returns-then-is_short
returns-then-is_short c =
    sym (number_equal c.number-one.ensures c.number-another.ensures (omega arith) (sym c.is_short.ensures ∙ c.if-is_short.true))
