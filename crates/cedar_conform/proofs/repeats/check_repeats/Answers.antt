-- SPDX-License-Identifier: Apache-2.0
use Rattle.std.proofs.Common.{◌≡◌, ◌∷◌, ◌+◌, ◌∙◌, drop, true, false, decimal, arith, refl, sym, ap}
use Rattle.std.proofs.lemmas.List.{drop_more}
use Rattle.cedar_data.specs.Sets.{contains}
use Rattle.cedar_resolved.specs.Schemas.{uid_cmp}
use Rattle.cedar_schema_error.specs.FullNames.{uid_in}
use Rattle.cedar_conform.specs.Checks.{passed}
use Rattle.cedar_conform.specs.EntityChecks.{repeated_check}
use Rattle.cedar_conform.proofs.RepeatLoops.{SeeksRepeats-next, SeeksRepeats-refused}
use Rattle.cedar_conform.proofs.Told.{Tells-under}
use Rattle.cedar_conform.proofs.repeats.check_repeats.Goals as goal

pub returns-then-contains : goal.returns-then-contains
returns-then-contains c =
    let l = c.loop-uid in
    let left : drop l.uid-index c.args.uids.now ≡ c.uid-item.result ∷ drop (l.uid-index + 1) c.args.uids.now = grind (arith, drop_more) in
    let old : contains uid_cmp l.before c.uid-item.result ≡ true = sym c.contains.ensures ∙ c.if-contains.true in
    SeeksRepeats-refused c.under_place.result l.invariant.0 left old
    (Tells-under passed (decimal l.place) c.refuse_repeated.result c.under_place.result (repeated_check (uid_in c.uid-item.result)) c.refuse_repeated.ensures c.under_place.ensures.ok c.under_place.ensures.refused)

pub loop-uid-preserved : goal.loop-uid-preserved
loop-uid-preserved c =
    let l = c.loop-uid in
    let left : drop l.uid-index c.args.uids.now ≡ c.uid-item.result ∷ drop (l.uid-index + 1) c.args.uids.now = grind (arith, drop_more) in
    let new : contains uid_cmp l.before c.uid-item.result ≡ false = sym c.contains.ensures ∙ c.if-contains.false in
    let adds = rw c.in_ok-seen.ensures at c.in_ok-insert.ensures.adds in
    (SeeksRepeats-next l.invariant.0 left refl new adds, ap (λ n. n + 1) l.invariant.1)
