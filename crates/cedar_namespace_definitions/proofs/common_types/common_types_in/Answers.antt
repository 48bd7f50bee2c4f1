-- SPDX-License-Identifier: Apache-2.0
use Rattle.std.specs.Option.{option_copied}
use Rattle.cedar_namespace_definitions.proofs.Loops.{CommonTypes-next}
use Rattle.cedar_namespace_definitions.proofs.common_types.common_types_in.Goals as goal

pub loop-id-preserved : goal.loop-id-preserved
loop-id-preserved c =
    CommonTypes-next (option_copied c.args.step.now.namespace) (c.in-Some.id, c.in-Some.common_type) c.in_ok-name.name c.in_ok-name.ty
    c.loop-id.invariant c.in-Some.ensures.steps c.in_ok-name.ensures c.in_ok-put.ensures.ok
