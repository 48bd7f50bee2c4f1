-- SPDX-License-Identifier: Apache-2.0
use Rattle.std.proofs.Common.{drop, ◌+◌}
use Rattle.std.proofs.lemmas.List.{drop_all}
use Rattle.std.proofs.lemmas.Result.{err_from_is_err_and}
use Rattle.std.specs.String.{string_bytes}
use Rattle.cedar_names.specs.Extensions.{extension_words}
use Rattle.cedar_reviews.proofs.MergeLoops.{DeclaresTexts-end, DeclaresTexts-next, from-index, refused-told}
use Rattle.cedar_reviews.proofs.merging.declared.Goals as goal

pub loop-item-preserved : goal.loop-item-preserved
loop-item-preserved c =
    DeclaresTexts-next (extension_words c.args.extensions.now) c.in_ok-fragment.fragment c.loop-item.invariant
    (from-index c.args.items.now c.loop-item.item-index c.item-item.result c.loop-item-test.true c.item-item.is) c.in_ok-fragment.ensures.made (rw c.in_ok-push.was at c.push.ensures.items)

pub returns-in_err-fragment-clause-told : goal.returns-in_err-fragment-clause-told
returns-in_err-fragment-clause-told c =
    let p = err_from_is_err_and c.from_residual.result c.from_residual.ensures.1 in
    rw (p.1, p.2)
    (refused-told (extension_words c.args.extensions.now) (Unit {0}) (Unit {0}) string_bytes c.args.items.now (drop c.loop-item.item-index c.args.items.now) (drop (c.loop-item.item-index + 1) c.args.items.now) c.loop-item.fragments.items c.item-item.result
    c.in_err-fragment.field-0.0 c.loop-item.invariant (from-index c.args.items.now c.loop-item.item-index c.item-item.result c.loop-item-test.true c.item-item.is) c.in_err-fragment.ensures.told)

pub returns-clause-made : goal.returns-clause-made
returns-clause-made c = DeclaresTexts-end (extension_words c.args.extensions.now) c.loop-item.invariant (drop_all c.loop-item.item-index c.args.items.now c.loop-item-test.false)
