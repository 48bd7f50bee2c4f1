-- SPDX-License-Identifier: Apache-2.0
use Rattle.std.proofs.Common.{sym, ◌∙◌}
use Rattle.std.specs.Cmp.Lexicographic.{bytes_decides}
use Rattle.cedar_data.proofs.Fronts.{number_same}
use Rattle.cedar_data.proofs.text.TextPartialEq.eq.Goals as goal

pub returns-then-is_short : goal.returns-then-is_short
returns-then-is_short c =
    let same = number_same c.number.ensures c.number-2.ensures c.if-number.true (sym c.is_short.ensures ∙ c.if-is_short.true) in
    c.if-is_short.true ∙ sym ((bytes_decides c.args.self.now c.args.other.now).1 same)
