-- SPDX-License-Identifier: Apache-2.0
use Rattle.cedar_merge.proofs.Holding.{Passes-end, Passes-next}
use Rattle.cedar_merge.proofs.merging.add_fragment.Goals as goal

pub loop-path-preserved : goal.loop-path-preserved
loop-path-preserved c = Passes-next c.in-Some.path c.in-Some.definition c.loop-path.invariant c.in-Some.ensures.steps c.in_ok-now.ensures

pub returns : goal.returns
returns c = Passes-end c.args.fragment c.loop-path.invariant c.in-None.ensures.steps.0
