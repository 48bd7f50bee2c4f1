-- SPDX-License-Identifier: Apache-2.0
use Rattle.std.proofs.Common.{rules}
use Rattle.std.specs.Option.{option_map}
use Rattle.cedar_data.proofs.Progress.{Aligned-end, Aligned-next}
use Rattle.cedar_names.specs.Names.{internal_of}
use Rattle.cedar_schema_error.specs.Told.{told}
use Rattle.cedar_namespace_definitions.specs.Definitions.{IsDefinitionOf}
use Rattle.cedar_namespace_definitions.proofs.Faultless.{Faultless-next, Faultless-refuses}
use Rattle.cedar_namespace_definitions.proofs.fragments.definitions_in.Goals as goal

pub loop-name-preserved : goal.loop-name-preserved
loop-name-preserved c = (
  Faultless-next (c.in-Some.name, c.in-Some.namespace_def) c.loop-name.invariant.0 c.in-Some.ensures.steps c.in_ok-definition.ensures.ok,
  Aligned-next (λ n d. IsDefinitionOf (option_map internal_of n.0) n.1 d) (c.in-Some.name, c.in-Some.namespace_def) c.in_ok-definition.definition
      c.loop-name.invariant.1 c.in-Some.ensures.steps c.in_ok-definition.ensures.made (search rules),
)

pub loop-name-preserved-in_ok-push : goal.loop-name-preserved-in_ok-push
loop-name-preserved-in_ok-push c = (
  Faultless-next (c.in-Some.name, c.in-Some.namespace_def) c.loop-name.invariant.0 c.in-Some.ensures.steps c.in_ok-definition.ensures.ok,
  Aligned-next (λ n d. IsDefinitionOf (option_map internal_of n.0) n.1 d) (c.in-Some.name, c.in-Some.namespace_def) c.in_ok-definition.definition
      c.loop-name.invariant.1 c.in-Some.ensures.steps c.in_ok-definition.ensures.made (search rules),
)

pub loop-name-preserved-in_ok-push-2 : goal.loop-name-preserved-in_ok-push-2
loop-name-preserved-in_ok-push-2 c = (
  Faultless-next (c.in-Some.name, c.in-Some.namespace_def) c.loop-name.invariant.0 c.in-Some.ensures.steps c.in_ok-definition.ensures.ok,
  Aligned-next (λ n d. IsDefinitionOf (option_map internal_of n.0) n.1 d) (c.in-Some.name, c.in-Some.namespace_def) c.in_ok-definition.definition
      c.loop-name.invariant.1 c.in-Some.ensures.steps c.in_ok-definition.ensures.made (search rules),
)

pub returns-in_err-definition-clause-refused : goal.returns-in_err-definition-clause-refused
returns-in_err-definition-clause-refused c =
    Faultless-refuses (c.in-Some.name, c.in-Some.namespace_def) told c.from_residual-in_err-definition.result c.loop-name.invariant.0 c.in-Some.ensures.steps (search rules)

pub returns-clause-made : goal.returns-clause-made
returns-clause-made c = Aligned-end (λ n d. IsDefinitionOf (option_map internal_of n.0) n.1 d) c.loop-name.invariant.1 (search rules)
