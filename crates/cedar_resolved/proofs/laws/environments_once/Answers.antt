-- SPDX-License-Identifier: Apache-2.0
use Rattle.cedar_resolved.proofs.EnvironmentCounts.{each_once}
use Rattle.cedar_resolved.proofs.laws.environments_once.Goals as goal

pub returns : goal.returns
returns c = λ principal action resource. each_once principal action resource c.args.schema.now c.see_order.ensures
