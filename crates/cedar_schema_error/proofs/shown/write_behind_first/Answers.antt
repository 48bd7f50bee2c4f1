-- SPDX-License-Identifier: Apache-2.0
use Rattle.std.proofs.Common.{◌≡◌, ◌==◌, [], length, ap}
use Rattle.cedar_schema_error.proofs.JoinedTexts.{joined_last}
use Rattle.cedar_schema_error.proofs.shown.write_behind_first.Goals as goal

pub returns-else-is_empty : goal.returns-else-is_empty
returns-else-is_empty g c =
    let none : c.in-Some.front.now ≡ [] → ⊥ = λ e. let empty = ap (λ l. length l == 0) e in let some = c.if-is_empty.ensures in cc in
    rw (joined_last g.T.Shown.shown c.args.others.now c.in-Some.front.now c.in-Some.last.now c.in-Some.ensures.cases.0 none) c.write_with_last.ensures
