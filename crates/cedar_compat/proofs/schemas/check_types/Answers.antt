-- SPDX-License-Identifier: Apache-2.0
use Rattle.std.proofs.Common.{Ok, Err, rules}
use Rattle.cedar_names.specs.Names.{entity_words}
use Rattle.cedar_checks.specs.SchemaViews.{entity_of, schema_in}
use Rattle.cedar_compat.specs.BreakChecks.{type_stays_check}
use Rattle.cedar_compat.proofs.Keeping.{type-kept}
use Rattle.cedar_compat.proofs.Told.{Tells-of_type}
use Rattle.cedar_compat.proofs.TypeLoops.{PassesTypes-end, PassesTypes-next, PassesTypes-refused}
use Rattle.cedar_compat.proofs.schemas.check_types.Goals as goal

pub loop-name-preserved : goal.loop-name-preserved
loop-name-preserved c =
    let R = schema_in c.args.new.now in
    let check = type_stays_check R (entity_words c.in-Some.name.now) (entity_of c.in-Some.ty.now) in
    let passes = Tells-of_type c.in-Some.name.now c.check_type_stays.result (Ok c.in_ok-of_type.field-0) check c.check_type_stays.ensures.told c.in_ok-of_type.ensures.ok c.in_ok-of_type.ensures.refused in
    PassesTypes-next R c.loop-name.invariant c.in-Some.ensures.steps.0 c.in-Some.ensures.steps.1 passes

pub returns-in_err-of_type-clause-told : goal.returns-in_err-of_type-clause-told
returns-in_err-of_type-clause-told c =
    let R = schema_in c.args.new.now in
    let check = type_stays_check R (entity_words c.in-Some.name.now) (entity_of c.in-Some.ty.now) in
    let x = c.in_err-of_type.field-0.0 in
    let told = Tells-of_type c.in-Some.name.now c.check_type_stays.result (Err x) check c.check_type_stays.ensures.told c.in_err-of_type.ensures.ok c.in_err-of_type.ensures.refused in
    let refused = PassesTypes-refused R x c.loop-name.invariant c.in-Some.ensures.steps.0 c.in-Some.ensures.steps.1 told in
    search (rules, refused)

pub returns-in_err-of_type-clause-kept : goal.returns-in_err-of_type-clause-kept
returns-in_err-of_type-clause-kept c =
    let x = c.in_err-of_type.field-0.0 in
    let kept = type-kept (schema_in c.args.new.now) x c.check_type_stays.result c.loop-name.invariant c.in-Some.ensures.steps.0 c.in-Some.ensures.steps.1 c.in_err-of_type.ensures.kept c.check_type_stays.ensures.kept in
    search (rules, kept)

pub returns-clause-told : goal.returns-clause-told
returns-clause-told c = PassesTypes-end (schema_in c.args.new.now) c.loop-name.invariant c.in-None.ensures.steps
