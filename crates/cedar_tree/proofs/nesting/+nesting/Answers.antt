-- SPDX-License-Identifier: Apache-2.0
use Rattle.std.proofs.Common.{◌+◌, ◌||◌, ◌∙◌, sym, ap, drop, nat_lt}
use Rattle.cedar_tree.specs.Meanings.{attrs_tree}
use Rattle.cedar_tree.specs.Nesting.{greatest_nest}
use Rattle.cedar_tree.proofs.DeepPlaces.{past_record, past_step}
use Rattle.cedar_tree.proofs.nesting.+nesting.Goals as goal

pub nests_past-returns-else-limit-eq0-2 : goal.nests_past-returns-else-limit-eq0-2
nests_past-returns-else-limit-eq0-2 t c = c.any_nests_past.ensures ∙ past_record c.args.limit c.args.ty.now c.in-Record.attrs c.if-limit-eq0-2.false c.in-Record.is

pub any_nests_past-returns-then-nests_past : goal.any_nests_past-returns-then-nests_past
any_nests_past-returns-then-nests_past t c =
    let stepped = past_step c.args.limit c.loop-attr.attr-index c.as_slice-attr-items.result.now c.attr-item.result c.nests_past.result _ c.loop-attr-test.true c.attr-item.is c.nests_past.ensures c.loop-attr.invariant in
    sym (stepped ∙ ap (λ b. b || nat_lt c.args.limit (greatest_nest (attrs_tree (drop (c.loop-attr.attr-index + 1) c.as_slice-attr-items.result.now)))) c.if-nests_past.true)

pub any_nests_past-loop-attr-preserved : goal.any_nests_past-loop-attr-preserved
any_nests_past-loop-attr-preserved t c =
    let stepped = past_step c.args.limit c.loop-attr.attr-index c.as_slice-attr-items.result.now c.attr-item.result c.nests_past.result _ c.loop-attr-test.true c.attr-item.is c.nests_past.ensures c.loop-attr.invariant in
    sym (stepped ∙ ap (λ b. b || nat_lt c.args.limit (greatest_nest (attrs_tree (drop (c.loop-attr.attr-index + 1) c.as_slice-attr-items.result.now)))) c.if-nests_past.false)
