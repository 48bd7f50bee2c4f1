-- SPDX-License-Identifier: Apache-2.0
use Rattle.std.proofs.Common.{ap, ◌∙◌, ◌+◌, subst}
use Rattle.cedar_data.specs.Maps.{IsSortedMap}
use Rattle.cedar_resolved.specs.Schemas.{uid_cmp}
use Rattle.cedar_request.proofs.Counting.{CountsOn-next, CountsOn-sorted}
use Rattle.cedar_request.proofs.environments.counted_actions.Goals as goal
use Rattle.cedar_request.specs.Requests.{in_64_bits}

pub push_last-requires : goal.push_last-requires
push_last-requires c =
    CountsOn-sorted c.loop-name.invariant c.in-Some.ensures.steps c.in_ok-name.ensures
    (subst (IsSortedMap uid_cmp) c.by_action-2.ensures c.iter-name-items.ensures.ordered)

pub loop-name-preserved : goal.loop-name-preserved
loop-name-preserved c =
    CountsOn-next _ c.loop-name.invariant c.in-Some.ensures.steps c.in_ok-push_last.ensures.ok c.in_ok-name.ensures c.in_ok-here.ensures.action c.in_ok-here.ensures.before
    (c.saturating_add-before.ensures ∙ ap (λ n. in_64_bits (c.loop-name.before + n)) c.count_of.ensures) c.in_ok-here.ensures.places
