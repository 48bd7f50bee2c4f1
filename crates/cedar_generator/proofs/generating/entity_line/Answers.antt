-- SPDX-License-Identifier: Apache-2.0
use Rattle.cedar_streams.specs.Texts.{◌+++◌}
use Rattle.cedar_generator.proofs.Lines.{entity-first, entity-within}
use Rattle.cedar_generator.proofs.generating.entity_line.Goals as goal

pub returns-then-i-eq1 : goal.returns-then-i-eq1
unfolding ◌+++◌
returns-then-i-eq1 c = entity-first c.args.i _ c.if-i-eq1.true c.in_ok-line.ensures.ok

pub returns : goal.returns
unfolding ◌+++◌
returns c = entity-within c.args.i _ c.if-i-eq1.false c.in_ok-line-2.ensures.ok
