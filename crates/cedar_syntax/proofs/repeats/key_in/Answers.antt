-- SPDX-License-Identifier: Apache-2.0
use Rattle.std.proofs.Common.{◌∙◌, ap, sym}
use Rattle.std.specs.Iterator.Adapters.{rev_source}
use Rattle.std.specs.Slice.Iter.{iter_rest}
use Rattle.cedar_syntax.specs.Repeats.{seen_from}
use Rattle.cedar_syntax.proofs.GoingBack.{seen_from-push}
use Rattle.cedar_syntax.proofs.repeats.key_in.Goals as goal

pub loop-token-preserved : goal.loop-token-preserved
loop-token-preserved c =
    ap (λ s. seen_from c.args.word.now s (iter_rest (rev_source c.next.new.self))) c.seen_with-seen.ensures
    ∙ sym (seen_from-push c.args.word.now c.loop-token.seen (iter_rest (rev_source c.next.new.self)) c.in-Some.token.now)
    ∙ ap (seen_from c.args.word.now c.loop-token.seen) (sym c.in-Some.ensures.steps)
    ∙ c.loop-token.invariant
