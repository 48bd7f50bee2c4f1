-- SPDX-License-Identifier: Apache-2.0
use Rattle.cedar_missing.specs.of_declared.Held.{names_of}
use Rattle.cedar_written.specs.References.{references}
use Rattle.cedar_undeclared.proofs.Gathers.{Gathers-next}
use Rattle.cedar_undeclared.proofs.gather.gather_in_types.Goals as goal

pub loop-ty-preserved : goal.loop-ty-preserved
loop-ty-preserved g c = Gathers-next (names_of c.args.all_defs.now) references c.loop-ty.invariant c.in-Some.ensures.steps c.in_ok-gather_in_type.ensures
