-- SPDX-License-Identifier: Apache-2.0
use Rattle.std.proofs.Common.{◌≡◌, IsTrue, true, ap, ◌∙◌}
use Rattle.cedar_closure.specs.Closure.{IsLeastOnCycle}
use Rattle.cedar_closure.specs.declared.tc_error.TcError.{TcError}
use Rattle.cedar_closure.specs.declared.tc_error.TcError.TheVariants.{HasCycle}
use Rattle.cedar_hierarchy.proofs.Answering.{refused_at}
use Rattle.cedar_names.specs.declared.entity_uid.EntityUID.{EntityUID}
use Rattle.cedar_resolved.specs.Schemas.{action_descendants, uid_cmp}
use Rattle.cedar_schema_error.specs.ClosureErrors.{action_error}
use Rattle.cedar_hierarchy.proofs.actions.close_actions.Goals as goal

pub returns-in-Err-Refused-clause-refused : goal.returns-in-Err-Refused-clause-refused
returns-in-Err-Refused-clause-refused c =
    let told = refused_at (λ (error : TcError EntityUID). IsTrue true × ((vertex : EntityUID) × (error ≡ HasCycle vertex) × IsLeastOnCycle uid_cmp action_descendants c.args.nodes vertex))
    c.close_map.result c.in-Err-Refused.field-0 c.in-Err-Refused.error c.in-Err-Refused.is c.in-Err-Refused.field-0-is c.close_map.ensures.refused
    in
    record { vertex = told.1.0; is = c.from.ensures ∙ ap action_error told.1.1; least = told.1.2 }
