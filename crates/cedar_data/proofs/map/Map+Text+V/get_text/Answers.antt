-- SPDX-License-Identifier: Apache-2.0
use Rattle.std.proofs.Common.{nat_eq, ap, sym, ◌∙◌}
use Rattle.std.specs.Cmp.Lexicographic.{pointwise}
use Rattle.cedar_data.proofs.Texts.{get_text-here, get_text-later}
use Rattle.cedar_data.proofs.map.Map+Text+V.get_text.Goals as goal

pub returns-then-eq : goal.returns-then-eq
returns-then-eq g c =
    let name = c.args.name.now in
    sym (get_text-here name c.in-Some.ensures.steps (ap (pointwise nat_eq name) (sym c.as_str.ensures) ∙ sym c.if-eq.ensures)) ∙ c.loop-key.invariant

pub loop-key-preserved : goal.loop-key-preserved
loop-key-preserved g c =
    let name = c.args.name.now in
    sym (get_text-later name c.in-Some.ensures.steps (ap (pointwise nat_eq name) (sym c.as_str.ensures) ∙ sym c.if-eq.ensures)) ∙ c.loop-key.invariant
