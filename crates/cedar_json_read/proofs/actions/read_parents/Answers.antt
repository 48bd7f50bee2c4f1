-- SPDX-License-Identifier: Apache-2.0
use Rattle.std.proofs.Common.{◌≡◌, ◌∷◌, ◌+◌, drop, arith, rules, refl, ap}
use Rattle.std.proofs.lemmas.List.{drop_more}
use Rattle.cedar_json_types.proofs.ItemLoops.{ReadsItems-next}
use Rattle.cedar_json_read.proofs.actions.read_parents.Goals as goal

pub loop-item-preserved : goal.loop-item-preserved
loop-item-preserved c =
    let l = c.loop-item in
    let left : drop l.item-index c.deref-item-items.result.now ≡ c.item-item.result ∷ drop (l.item-index + 1) c.deref-item-items.result.now = grind (arith, drop_more) in
    let shape = rw c.in_ok-parent.ensures.ok at c.from_json_value.ensures.shape in
    let clean = rw c.in_ok-parent.ensures.ok at c.from_json_value.ensures.clean in
    (ReadsItems-next l.invariant.0 left refl shape clean c.in_ok-push.ensures.ok, ap (λ n. n + 1) l.invariant.1)
