-- SPDX-License-Identifier: Apache-2.0
use Rattle.std.proofs.Common.{◌≡◌, IfOk, subst}
use Rattle.std.specs.Option.{option_copied}
use Rattle.cedar_namespace_definitions.proofs.DistinctApplication.{distinct_context, distinct_types}
use Rattle.cedar_namespace_definitions.proofs.actions.application_made.Goals as goal

pub returns-clause-context : goal.returns-clause-context
returns-clause-context c =
    subst (λ whole. IfOk c.application_in.result (λ made. made.0 ≡ whole))
    (distinct_context (option_copied c.args.step.now.namespace) c.args.applies_to c.in_ok-applies_to.applies_to c.in_ok-applies_to-2.applies_to c.in_ok-applies_to.ensures c.in_ok-applies_to-2.ensures)
    c.application_in.ensures.context

pub returns-clause-types : goal.returns-clause-types
returns-clause-types c =
    subst (λ whole. IfOk c.application_in.result (λ made. made.1 ≡ whole))
    (distinct_types (option_copied c.args.step.now.namespace) c.args.applies_to c.in_ok-applies_to.applies_to c.in_ok-applies_to-2.applies_to c.in_ok-applies_to.ensures c.in_ok-applies_to-2.ensures)
    c.application_in.ensures.types
