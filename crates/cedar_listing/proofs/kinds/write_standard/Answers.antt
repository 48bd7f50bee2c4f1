-- SPDX-License-Identifier: Apache-2.0
use Rattle.cedar_streams.proofs.InOrder.{in_order}
use Rattle.cedar_listing.proofs.kinds.write_standard.Goals as goal

pub returns-in_err-write_str : goal.returns-in_err-write_str
returns-in_err-write_str g c = search (in_order, c.in_err-write_str.ensures) depth 16

pub returns-in_err-write_attributes : goal.returns-in_err-write_attributes
returns-in_err-write_attributes g c = search (in_order, c.in_ok-write_str.ensures, c.in_err-write_attributes.ensures) depth 16

pub returns : goal.returns
returns g c = search (in_order, c.in_ok-write_str.ensures, c.in_ok-write_attributes.ensures, c.write_tags.ensures) depth 16
