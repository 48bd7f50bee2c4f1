-- SPDX-License-Identifier: Apache-2.0
use Rattle.cedar_streams.proofs.InOrder.{in_order}
use Rattle.cedar_listing.proofs.counts.Counts.write.Goals as goal

pub returns-in_err-write_count : goal.returns-in_err-write_count
returns-in_err-write_count g c = search (in_order, c.in_err-write_count.ensures) depth 16

pub returns-in_err-write_count-2 : goal.returns-in_err-write_count-2
returns-in_err-write_count-2 g c = search (in_order, c.in_ok-write_count.ensures, c.in_err-write_count-2.ensures) depth 16

pub returns-in_err-write_count-3 : goal.returns-in_err-write_count-3
returns-in_err-write_count-3 g c = search (in_order, c.in_ok-write_count.ensures, c.in_ok-write_count-2.ensures, c.in_err-write_count-3.ensures) depth 16

pub returns-in_err-write_count-4 : goal.returns-in_err-write_count-4
returns-in_err-write_count-4 g c = search (in_order, c.in_ok-write_count.ensures, c.in_ok-write_count-2.ensures, c.in_ok-write_count-3.ensures, c.in_err-write_count-4.ensures) depth 16

pub returns : goal.returns
returns g c = search (in_order, c.in_ok-write_count.ensures, c.in_ok-write_count-2.ensures, c.in_ok-write_count-3.ensures, c.in_ok-write_count-4.ensures, c.write_count-5.ensures) depth 16
