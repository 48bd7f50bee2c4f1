-- SPDX-License-Identifier: Apache-2.0
use Rattle.cedar_streams.specs.Texts.{◌+++◌}
use Rattle.cedar_generator.proofs.generating.action_line.Goals as goal

pub returns : goal.returns
unfolding ◌+++◌
returns c = c.in_ok-line.ensures.ok
