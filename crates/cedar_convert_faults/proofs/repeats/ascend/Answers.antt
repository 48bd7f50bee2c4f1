-- SPDX-License-Identifier: Apache-2.0
use Rattle.std.proofs.Common.{rules, ◌≡◌, ◌+◌, ◌∷◌, ◌∙◌, ap, sym, refl, drop, true}
use Rattle.std.proofs.lemmas.List.{drop_more}
use Rattle.cedar_convert_faults.proofs.Ascending.{is_behind, Ascends-next}
use Rattle.cedar_convert_faults.proofs.repeats.ascend.Goals as goal

pub loop-name-preserved : goal.loop-name-preserved
loop-name-preserved c =
    let others = c.in-Some.others.now in
    let i = c.loop-name.name-index in
    let n = c.name-item.result in
    let first : drop i others ≡ n ∷ drop (i + 1) others = drop_more others i n c.loop-name-test.true ∙ ap (λ x. x ∷ drop (i + 1) others) (sym c.name-item.is) in
    let behind : is_behind n.node c.loop-name.last.now ≡ true = search rules in
    Ascends-next n c.loop-name.invariant first refl behind
