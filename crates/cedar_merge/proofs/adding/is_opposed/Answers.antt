-- SPDX-License-Identifier: Apache-2.0
use Rattle.std.proofs.Common.{◌∙◌, Some, ap, sym}
use Rattle.std.specs.Option.{option_copied}
use Rattle.cedar_merge.specs.Pairs.{opposed}
use Rattle.cedar_merge.proofs.Orders.{words_exact}
use Rattle.cedar_merge.proofs.Words.{get-at}
use Rattle.cedar_merge.proofs.adding.is_opposed.Goals as goal

pub returns-in-None : goal.returns-in-None
returns-in-None g c =
    ap (λ o. opposed g.V.Stands.against (option_copied o) (Some c.args.value.now)) (sym c.in-None.is)
    ∙ ap (λ o. opposed g.V.Stands.against o (Some c.args.value.now)) (c.get.ensures ∙ get-at words_exact g.K.Word.word g.met.K.Word.by_word c.args.all.now c.args.key.now)

pub returns-in-Some : goal.returns-in-Some
returns-in-Some g c =
    c.is_against.ensures
    ∙ ap (λ o. opposed g.V.Stands.against (option_copied o) (Some c.args.value.now)) (sym c.in-Some.is)
    ∙ ap (λ o. opposed g.V.Stands.against o (Some c.args.value.now)) (c.get.ensures ∙ get-at words_exact g.K.Word.word g.met.K.Word.by_word c.args.all.now c.args.key.now)
