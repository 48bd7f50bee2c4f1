-- SPDX-License-Identifier: Apache-2.0
use Rattle.std.proofs.Common.{◌∙◌, ap}
use Rattle.cedar_merge.specs.Lookups.{at_word}
use Rattle.cedar_merge.specs.Pairs.{opposed}
use Rattle.cedar_merge.specs.Texts.{place_told}
use Rattle.cedar_merge.proofs.Found.{kind_none, kind_some}
use Rattle.cedar_merge.proofs.Keeping.{keeps-same, kind_kept}
use Rattle.cedar_merge.proofs.joined.add_kind.Goals as goal

pub returns-in-None-clause-clash : goal.returns-in-None-clause-clash
returns-in-None-clause-clash g c =
    kind_none c.args.path.now c.args.kind
    (λ name. opposed g.V.Stands.against (at_word g.K.Word.word c.args.all.now name) (at_word g.K.Word.word c.args.more name))
    g.K.Word.word _ c.in_ok-add_entries.ensures.least c.in-None.is c.args.clash

pub returns-in_ok-place-in-Some-clause-clash : goal.returns-in_ok-place-in-Some-clause-clash
returns-in_ok-place-in-Some-clause-clash g c =
    kind_some c.args.path.now c.args.kind
    (λ name. opposed g.V.Stands.against (at_word g.K.Word.word c.args.all.now name) (at_word g.K.Word.word c.args.more name))
    g.K.Word.word _ c.in-Some.key c.in_ok-add_entries.ensures.least c.in-Some.is c.args.clash _ c.in_ok-place-in-Some.place (c.in_ok-place-in-Some.ensures.told ∙ ap (place_told c.args.kind c.args.path.now) c.word.ensures) c.lesser.ensures

pub returns-in-None-clause-kept : goal.returns-in-None-clause-kept
returns-in-None-clause-kept g c = keeps-same _ c.args.clash

pub returns-in_ok-place-in-Some-clause-kept : goal.returns-in_ok-place-in-Some-clause-kept
returns-in_ok-place-in-Some-clause-kept g c =
    let place = c.in_ok-place-in-Some in
    kind_kept c.args.path.now c.args.kind
    (λ name. opposed g.V.Stands.against (at_word g.K.Word.word c.args.all.now name) (at_word g.K.Word.word c.args.more name))
    g.K.Word.word _ c.in-Some.key c.in_ok-add_entries.ensures.least c.in-Some.is c.args.clash _ place.place
    (place.ensures.told ∙ ap (place_told c.args.kind c.args.path.now) c.word.ensures) place.ensures.kept c.lesser.ensures
