-- SPDX-License-Identifier: Apache-2.0
use Rattle.cedar_merge.proofs.Keeping.{keeps-same, some_kept}
use Rattle.cedar_merge.proofs.Parts.{none_noted, none_otherwise, some_noted, some_otherwise}
use Rattle.cedar_merge.proofs.joined.add_notes.Goals as goal

pub returns-in-None-clause-notes : goal.returns-in-None-clause-notes
returns-in-None-clause-notes c = none_noted c.args.path.now c.args.all.now c.args.annotations.now c.in-None.is

pub returns-in-None-clause-conflict : goal.returns-in-None-clause-conflict
returns-in-None-clause-conflict c = none_otherwise c.args.path.now c.args.all.now c.args.annotations.now c.in-None.is _

pub returns-in_ok-conflict-in-Some-clause-notes : goal.returns-in_ok-conflict-in-Some-clause-notes
returns-in_ok-conflict-in-Some-clause-notes c =
    some_noted c.args.path.now c.in-Some.name c.args.all.now _ c.args.annotations.now c.in-Some.is c.in_ok-conflict-in-Some.ensures.notes

pub returns-in_ok-conflict-in-Some-clause-conflict : goal.returns-in_ok-conflict-in-Some-clause-conflict
returns-in_ok-conflict-in-Some-clause-conflict c =
    some_otherwise c.args.path.now c.in-Some.name c.args.all.now c.args.annotations.now c.in-Some.is _ _ c.in_ok-conflict-in-Some.ensures.conflict

pub returns-in-None-clause-kept : goal.returns-in-None-clause-kept
returns-in-None-clause-kept c = keeps-same _ c.args.conflict

pub returns-in_ok-conflict-in-Some-clause-kept : goal.returns-in_ok-conflict-in-Some-clause-kept
returns-in_ok-conflict-in-Some-clause-kept c =
    some_kept c.args.path.now c.in-Some.name c.args.all.now c.args.annotations.now c.in-Some.is _ _ c.in_ok-conflict-in-Some.ensures.kept
