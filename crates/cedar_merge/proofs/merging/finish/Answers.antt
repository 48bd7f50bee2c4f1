-- SPDX-License-Identifier: Apache-2.0
use Rattle.std.proofs.Common.{refl}
use Rattle.std.specs.Option.{option_cmp}
use Rattle.cedar_data.proofs.Rebuild.{Rebuilds-end, Rebuilds-next, Rebuilds-sorted}
use Rattle.cedar_names.specs.Names.{name_cmp}
use Rattle.cedar_merge.proofs.merging.finish.Goals as goal

pub push_last-requires : goal.push_last-requires
push_last-requires c = Rebuilds-sorted (option_cmp name_cmp) c.loop-path.invariant c.in-Some.ensures.steps refl c.into_entries-path-items.ensures.ordered

pub loop-path-preserved : goal.loop-path-preserved
loop-path-preserved c = Rebuilds-next c.loop-path.invariant c.in-Some.ensures.steps refl c.in_ok-definition.ensures c.in_ok-push_last.ensures.ok

pub returns : goal.returns
returns c = Rebuilds-end c.loop-path.invariant c.in-None.ensures.steps.0
