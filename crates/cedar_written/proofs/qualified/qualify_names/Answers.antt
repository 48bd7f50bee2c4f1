-- SPDX-License-Identifier: Apache-2.0
use Rattle.std.proofs.Common.{◌≡◌}
use Rattle.std.specs.Option.{option_copied}
use Rattle.cedar_written.proofs.Made.{by_step}
use Rattle.cedar_written.proofs.qualified.qualify_names.Goals as goal

pub returns : goal.returns
returns g c =
    by_step (λ s. option_copied s.namespace ≡ option_copied c.args.ns) (λ s. g.W.Walk.through s c.args.whole) c.in_ok-step.step c.in_ok-step.ensures c.walk_unrefused.result c.walk_unrefused.ensures
