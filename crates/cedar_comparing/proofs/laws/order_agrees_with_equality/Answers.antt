-- SPDX-License-Identifier: Apache-2.0
use Rattle.std.specs.Cmp.{Equal-is, alike_right}
use Rattle.std.specs.Ordering.{is_eq}
use Rattle.std.proofs.Common.{◌∙◌, ap, sym}
use Rattle.cedar_comparing.proofs.laws.order_agrees_with_equality.Goals as goal

pub returns-clause-equal : goal.returns-clause-equal
returns-clause-equal g c x y = (λ e. g.met.T.Ord.matches_eq x y ∙ ap is_eq e, λ h. (Equal-is (g.T.Ord.cmp x y)).0 (sym (g.met.T.Ord.matches_eq x y) ∙ h))

pub returns-clause-partial : goal.returns-clause-partial
returns-clause-partial g c = g.met.T.Ord.matches_partial_cmp

pub returns-clause-left : goal.returns-clause-left
returns-clause-left g c bare goes x y =
    let total = g.met.T.Ord.total in
    let own = λ (z : g.row.T.Denot). (Equal-is (g.T.Ord.cmp z (bare z))).0 (sym (g.met.T.Ord.matches_eq z (bare z)) ∙ goes.itself z) in
    total.congr x (bare x) y (own x) ∙ alike_right total y (bare y) (bare x) (own y)
