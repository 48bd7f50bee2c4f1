-- SPDX-License-Identifier: Apache-2.0
use Rattle.cedar_streams.proofs.InLoop.{in_each, each-start}
use Rattle.cedar_listing.proofs.listing.write_entities.Goals as goal

pub loop-ty-init : goal.loop-ty-init
loop-ty-init g c = each-start _ (cc)

pub loop-ty-preserved : goal.loop-ty-preserved
loop-ty-preserved g c = search (in_each, c.in-Some.ensures.steps, c.in_ok-write_entity.ensures)

pub returns-in_err-write_entity : goal.returns-in_err-write_entity
returns-in_err-write_entity g c = search (in_each, c.in-Some.ensures.steps, c.in_err-write_entity.ensures)

pub returns : goal.returns
returns g c = search (in_each, c.in-None.ensures.steps)
