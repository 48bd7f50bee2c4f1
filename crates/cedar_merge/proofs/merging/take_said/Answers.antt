-- SPDX-License-Identifier: Apache-2.0
use Rattle.cedar_merge.proofs.Putting.{left_empty, taken}
use Rattle.cedar_merge.proofs.merging.take_said.Goals as goal

pub returns-clause-taken : goal.returns-clause-taken
returns-clause-taken c = taken c.args.all.now c.args.path.now c.in_ok-copy.copy c.in_ok-before.before c.said.result c.in_ok-copy.ensures c.in_ok-before.ensures.old c.said.ensures

pub returns-clause-left : goal.returns-clause-left
returns-clause-left c = left_empty c.args.all.now _ c.args.path.now c.in_ok-copy.copy c.new.result c.in_ok-copy.ensures c.new.ensures c.in_ok-before.ensures.ok
