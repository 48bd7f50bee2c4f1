-- SPDX-License-Identifier: Apache-2.0
use Rattle.std.proofs.Common.{rules}
use Rattle.std.specs.Option.{option_copied}
use Rattle.cedar_schema_error.specs.Told.{told}
use Rattle.cedar_namespace_definitions.proofs.Faultless.{Faultless-next, Faultless-refuses}
use Rattle.cedar_namespace_definitions.proofs.Loops.{EntityTypes-end, EntityTypes-next}
use Rattle.cedar_namespace_definitions.proofs.entity_types.entity_types_in.Goals as goal

pub loop-id-preserved : goal.loop-id-preserved
loop-id-preserved c = (
  Faultless-next (c.in-Some.id, c.in-Some.entity_type) c.loop-id.invariant.0 c.in-Some.ensures.steps c.in_ok-declare_entity_type.ensures.ok,
  EntityTypes-next (option_copied c.args.step.now.namespace) (c.in-Some.id, c.in-Some.entity_type) c.loop-id.invariant.1 c.in-Some.ensures.steps
      c.in_ok-declare_entity_type.ensures.defs c.in_ok-declare_entity_type.ensures.locs,
)

pub returns-in_err-declare_entity_type-clause-refused : goal.returns-in_err-declare_entity_type-clause-refused
returns-in_err-declare_entity_type-clause-refused c =
    Faultless-refuses (c.in-Some.id, c.in-Some.entity_type) told c.from_residual-in_err-declare_entity_type.result c.loop-id.invariant.0 c.in-Some.ensures.steps (search rules)

pub returns-clause-made : goal.returns-clause-made
returns-clause-made c =
    EntityTypes-end (option_copied c.args.step.now.namespace) (record { defs = c.loop-id.defs; locs = c.loop-id.locs }) c.loop-id.invariant.1 (search rules) (search rules)
