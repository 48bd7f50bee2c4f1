-- SPDX-License-Identifier: Apache-2.0
use Rattle.cedar_duplicates.proofs.Declared.{told_once, told_twice}
use Rattle.cedar_duplicates.proofs.Kept.{keeps_declared}
use Rattle.cedar_duplicates.proofs.duplicates.refuse_duplicates.Goals as goal

pub returns-in-None-clause-once : goal.returns-in-None-clause-once
returns-in-None-clause-once g c = told_once c.args.definitions.now c.in_ok-declarations.declarations c.in_ok-first_again.field-0 c.in_ok-declarations.ensures c.in_ok-first_again.ensures c.in-None.is

pub returns-in-Some-clause-twice : goal.returns-in-Some-clause-twice
returns-in-Some-clause-twice g c = told_twice c.args.definitions.now c.in_ok-declarations.declarations c.in_ok-first_again.field-0 c.in-Some.declaration _ c.in_ok-declarations.ensures c.in_ok-first_again.ensures c.in-Some.is c.into_error.ensures.told

pub returns-in-Some-clause-kept : goal.returns-in-Some-clause-kept
returns-in-Some-clause-kept g c = keeps_declared c.args.definitions.now c.in_ok-declarations.declarations c.in_ok-first_again.field-0 c.in-Some.declaration _ c.in_ok-declarations.ensures c.in_ok-first_again.ensures c.in-Some.is c.into_error.ensures.keeps
