-- SPDX-License-Identifier: Apache-2.0
use Rattle.std.proofs.Common.{◌≡◌, ◌++◌, sym, ap, ◌∙◌, subst}
use Rattle.std.proofs.lemmas.Iterator.{items_from_drains}
use Rattle.std.proofs.lemmas.Iterator.Adapters.{YieldsList-from_vec}
use Rattle.std.proofs.lemmas.List.{map-id}
use Rattle.cedar_names.specs.of_data.Sets.{contains}
use Rattle.cedar_closure.specs.Places.{PutsInOrder}
use Rattle.cedar_closure.proofs.key_graph.in_order.Goals as goal

pub loop-key-init : goal.loop-key-init
loop-key-init g c =
    let ran = c.in_ok-set.ensures.ran in
    let keys = c.args.keys.items in
    let all : ran.1 ≡ keys = sym (map-id ran.1) ∙ items_from_drains ran.1 ran.3 (YieldsList-from_vec {s = ran.0} keys ran.2.0 (ran.2.1 ∙ c.args.keys.ok.0)) in
    let left = ap (λ l. l ++ c.into_iter-key-iterator.result) c.in_ok-sorted.ensures.items ∙ c.into_iter-key-iterator.ensures.into_iter_gives.0 in
    subst (λ l. PutsInOrder g.K.Ord.cmp keys l) (sym left) (record {
      ordered = ran.4.1;
      same = λ key. ran.4.0 key ∙ ap (λ l. contains g.K.Ord.cmp l key) all;
    })
