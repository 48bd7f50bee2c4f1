-- SPDX-License-Identifier: Apache-2.0
use Rattle.cedar_streams.proofs.InLoop.{in_joined, joined-start}
use Rattle.cedar_listing.proofs.lists.write_items.Goals as goal

pub loop-item-init : goal.loop-item-init
loop-item-init g c = joined-start _ (cc)

pub returns-in_err-write_all : goal.returns-in_err-write_all
returns-in_err-write_all g c = search (in_joined, c.in-Some.ensures.steps, c.in_err-write_all.ensures)

pub loop-item-preserved : goal.loop-item-preserved
loop-item-preserved g c = search (in_joined, c.in-Some.ensures.steps, c.in_ok-write_all.ensures, c.in_ok-write.ensures)

pub returns-in_err-write : goal.returns-in_err-write
returns-in_err-write g c = search (in_joined, c.in-Some.ensures.steps, c.in_ok-write_all.ensures, c.in_err-write.ensures)

pub returns : goal.returns
returns g c = search (in_joined, c.in-None.ensures.steps)
