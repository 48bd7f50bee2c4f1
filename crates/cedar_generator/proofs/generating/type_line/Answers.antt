-- SPDX-License-Identifier: Apache-2.0
use Rattle.cedar_streams.specs.Texts.{◌+++◌}
use Rattle.cedar_generator.proofs.Lines.{type-plain, type-set}
use Rattle.cedar_generator.proofs.generating.type_line.Goals as goal

pub returns-then-i-eq1 : goal.returns-then-i-eq1
unfolding ◌+++◌
returns-then-i-eq1 c = type-plain c.args.i _ c.if-i-eq1.true c.in_ok-line.ensures.ok

pub returns : goal.returns
unfolding ◌+++◌
returns c = type-set c.args.i _ c.if-i-eq1.false c.in_ok-line-2.ensures.ok
