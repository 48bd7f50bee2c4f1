-- SPDX-License-Identifier: Apache-2.0
use Rattle.std.proofs.Common.{rules}
use Rattle.cedar_namespace_definitions.proofs.OrderedSets.{set_of-few, set_of-next}
use Rattle.cedar_namespace_definitions.proofs.sets.distinct.Goals as goal

pub returns-then-len-lt2 : goal.returns-then-len-lt2
returns-then-len-lt2 g c = set_of-few g.K.Ord.cmp c.args.items (search rules)

pub loop-item-preserved : goal.loop-item-preserved
loop-item-preserved g c = set_of-next g.K.Ord.cmp c.loop-item.kept c.args.items c.loop-item.invariant c.in-Some.ensures.steps.0 c.in_ok-put.ensures.ok
