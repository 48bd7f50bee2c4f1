-- SPDX-License-Identifier: Apache-2.0
use Rattle.std.proofs.Common.{◌≡◌, ◌∷◌, ◌+◌, drop, arith, refl, ap}
use Rattle.std.proofs.lemmas.List.{drop_more}
use Rattle.cedar_checks.specs.SchemaViews.{schema_in}
use Rattle.cedar_conform.proofs.EntityLoops.{ReadsEntities-next}
use Rattle.cedar_conform.proofs.entities.read_entities.Goals as goal

pub loop-item-preserved : goal.loop-item-preserved
loop-item-preserved c =
    let l = c.loop-item in
    let left : drop l.item-index c.deref-item-items.result.now ≡ c.item-item.result ∷ drop (l.item-index + 1) c.deref-item-items.result.now = grind (arith, drop_more) in
    let passes = rw c.in_ok-uid.ensures.ok at c.read_entity.ensures in
    (ReadsEntities-next (schema_in c.args.schema.now) c.in_ok-uid.uid l.invariant.0 left refl passes c.in_ok-push.ensures.ok, ap (λ n. n + 1) l.invariant.1)
