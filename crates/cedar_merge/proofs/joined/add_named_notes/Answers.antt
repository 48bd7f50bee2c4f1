-- SPDX-License-Identifier: Apache-2.0
use Rattle.cedar_names.specs.Identifiers.{any_word}
use Rattle.cedar_merge.specs.Joining.{texts_differ}
use Rattle.cedar_merge.specs.Lookups.{at_word}
use Rattle.cedar_merge.specs.Pairs.{opposed}
use Rattle.cedar_merge.proofs.Found.{notes_none, notes_some}
use Rattle.cedar_merge.proofs.Keeping.{keeps-same, kept_notes, note_kept}
use Rattle.cedar_merge.proofs.Parts.{adds_notes, finds_notes}
use Rattle.cedar_merge.proofs.joined.add_named_notes.Goals as goal

pub returns-in-None-clause-notes : goal.returns-in-None-clause-notes
returns-in-None-clause-notes c = adds_notes c.args.all.now _ c.in_ok-more.more c.args.annotations.now c.in_ok-more.ensures c.in_ok-add_entries.ensures.values

pub returns-in-None-clause-conflict : goal.returns-in-None-clause-conflict
returns-in-None-clause-conflict c =
    finds_notes c.args.name.now c.args.all.now c.in_ok-more.more c.args.annotations.now c.in_ok-more.ensures _ _
    (notes_none c.args.name.now (λ key. opposed texts_differ (at_word any_word c.args.all.now key) (at_word any_word c.in_ok-more.more key)) _ c.in_ok-add_entries.ensures.least c.in-None.is c.args.conflict)

pub returns-in_ok-place-in-Some-clause-notes : goal.returns-in_ok-place-in-Some-clause-notes
returns-in_ok-place-in-Some-clause-notes c = adds_notes c.args.all.now _ c.in_ok-more.more c.args.annotations.now c.in_ok-more.ensures c.in_ok-add_entries.ensures.values

pub returns-in_ok-place-in-Some-clause-conflict : goal.returns-in_ok-place-in-Some-clause-conflict
returns-in_ok-place-in-Some-clause-conflict c =
    finds_notes c.args.name.now c.args.all.now c.in_ok-more.more c.args.annotations.now c.in_ok-more.ensures _ _
    (notes_some c.args.name.now (λ key. opposed texts_differ (at_word any_word c.args.all.now key) (at_word any_word c.in_ok-more.more key)) _ c.in-Some.key
    c.in_ok-add_entries.ensures.least c.in-Some.is c.args.conflict _ c.in_ok-place-in-Some.place c.in_ok-place-in-Some.ensures.told c.lesser.ensures)

pub returns-in-None-clause-kept : goal.returns-in-None-clause-kept
returns-in-None-clause-kept c = keeps-same _ c.args.conflict

pub returns-in_ok-place-in-Some-clause-kept : goal.returns-in_ok-place-in-Some-clause-kept
returns-in_ok-place-in-Some-clause-kept c =
    let place = c.in_ok-place-in-Some in
    kept_notes c.args.name.now c.args.all.now c.in_ok-more.more c.args.annotations.now c.in_ok-more.ensures _ _
    (note_kept c.args.name.now (λ key. opposed texts_differ (at_word any_word c.args.all.now key) (at_word any_word c.in_ok-more.more key)) _ c.in-Some.key
    c.in_ok-add_entries.ensures.least c.in-Some.is c.args.conflict _ place.place place.ensures.told place.ensures.kept c.lesser.ensures)
