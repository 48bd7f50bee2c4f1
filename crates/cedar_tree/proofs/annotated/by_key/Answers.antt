-- SPDX-License-Identifier: Apache-2.0
use Rattle.std.proofs.Common.{rules, ◌≡◌, ◌∷◌, subst}
use Rattle.std.specs.Vec.Iter.{into_iter_items}
use Rattle.cedar_tree.proofs.Repeats.{Seen, seen_more}
use Rattle.cedar_tree.proofs.annotated.by_key.Goals as goal

pub loop-annotation-preserved : goal.loop-annotation-preserved
loop-annotation-preserved c =
    let places = c.loop-annotation.places in
    let put = c.in_ok-put_annotation.ensures in
    let left : into_iter_items c.loop-annotation.annotation-iterator ≡ c.in-Some.annotation ∷ into_iter_items c.next.new.self = search rules in
    let seen = subst (Seen c.args.annotations.items places) left c.loop-annotation.invariant.seen in
    record {
      seen = seen_more _ places _ c.in-Some.annotation _ seen put.new put.noted;
      means = search rules;
    }
