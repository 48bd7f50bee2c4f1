-- SPDX-License-Identifier: Apache-2.0
use Rattle.std.proofs.Common.{[], ◌∷◌}
use Rattle.cedar_names.specs.Components.{components}
use Rattle.cedar_schema_error.specs.FullNames.{basename, uid_in}
use Rattle.cedar_declared.specs.Held.{names_of}
use Rattle.cedar_shadowing.proofs.KeptPairs.{keeps_pair}
use Rattle.cedar_shadowing.proofs.Phases.{action_fails, none_refused, type_fails}
use Rattle.cedar_shadowing.proofs.checks.AllDefsShadowingChecks.rfc_70_shadowing_checks.Goals as goal

pub returns-in_err-error-clause-sure : goal.returns-in_err-error-clause-sure
returns-in_err-error-clause-sure c all =
    let name = components c.in-Some.shadowing.now in
    absurd (type_fails (names_of c.args.self.now) (basename name ∷ []) name c.in-Some.ensures.least all)

pub returns-in-Some-clause-sure : goal.returns-in-Some-clause-sure
returns-in-Some-clause-sure c all =
    let name = components c.in-Some.shadowing.now in
    absurd (type_fails (names_of c.args.self.now) (basename name ∷ []) name c.in-Some.ensures.least all)

pub returns-in-Some-clause-kept : goal.returns-in-Some-clause-kept
returns-in-Some-clause-kept c =
    keeps_pair c.args.self.now c.in-Some.shadowing.now c.in_ok-error.error c.in-Some.ensures.least c.in-Some.ensures.held c.in_ok-error.ensures.kept

pub returns-in_err-error-2-clause-sure : goal.returns-in_err-error-2-clause-sure
returns-in_err-error-2-clause-sure c all =
    absurd (action_fails (names_of c.args.self.now) (uid_in c.in-Some-least_action.shadowing.now) c.in-Some-least_action.ensures.least all)

pub returns-clause-ok : goal.returns-clause-ok
returns-clause-ok c =
    none_refused (names_of c.args.self.now) c.in_default.ensures.least c.in_default-least_action.ensures.least
