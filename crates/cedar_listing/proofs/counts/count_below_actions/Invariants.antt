-- SPDX-License-Identifier: Apache-2.0
use Rattle.std.specs.Map.{values_of}
use Rattle.cedar_resolved.specs.Schemas.{action_types}
use Rattle.cedar_listing.proofs.Counting.{IsCounted}
use Rattle.cedar_listing.specs.Counts.{below_action}
use Rattle.cedar_listing.proofs.counts.count_below_actions.Given as goal

abbrev pub invariant-loop-action : goal.invariant-loop-action
invariant-loop-action l = IsCounted below_action (values_of (action_types l.schema)) l.count l.action-iterator
