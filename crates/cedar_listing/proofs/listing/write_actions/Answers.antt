-- SPDX-License-Identifier: Apache-2.0
use Rattle.cedar_streams.proofs.InLoop.{in_each, each-start}
use Rattle.cedar_listing.proofs.listing.write_actions.Goals as goal

pub loop-action-init : goal.loop-action-init
loop-action-init g c = each-start _ (cc)

pub loop-action-preserved : goal.loop-action-preserved
loop-action-preserved g c = search (in_each, c.in-Some.ensures.steps, c.in_ok-write_action.ensures)

pub returns-in_err-write_action : goal.returns-in_err-write_action
returns-in_err-write_action g c = search (in_each, c.in-Some.ensures.steps, c.in_err-write_action.ensures)

pub returns : goal.returns
returns g c = search (in_each, c.in-None.ensures.steps)
