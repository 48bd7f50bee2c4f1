-- SPDX-License-Identifier: Apache-2.0
use Rattle.cedar_streams.proofs.InOrder.{in_order}
use Rattle.cedar_listing.proofs.listing.write_applies.Goals as goal

pub returns-in_err-write_str : goal.returns-in_err-write_str
returns-in_err-write_str g c = search (in_order, c.in_err-write_str.ensures) depth 16

pub returns-in_err-write_list : goal.returns-in_err-write_list
returns-in_err-write_list g c = search (in_order, c.in_ok-write_str.ensures, c.in_err-write_list.ensures) depth 16

pub returns-in_err-write_str-2 : goal.returns-in_err-write_str-2
returns-in_err-write_str-2 g c = search (in_order, c.in_ok-write_str.ensures, c.in_ok-write_list.ensures, c.in_err-write_str-2.ensures) depth 16

pub returns-in_err-write_list-2 : goal.returns-in_err-write_list-2
returns-in_err-write_list-2 g c = search (in_order, c.in_ok-write_str.ensures, c.in_ok-write_list.ensures, c.in_ok-write_str-2.ensures, c.in_err-write_list-2.ensures) depth 16

pub returns-in_err-write_str-3 : goal.returns-in_err-write_str-3
returns-in_err-write_str-3 g c = search (in_order, c.in_ok-write_str.ensures, c.in_ok-write_list.ensures, c.in_ok-write_str-2.ensures, c.in_ok-write_list-2.ensures, c.in_err-write_str-3.ensures) depth 16

pub returns-in_err-write_type : goal.returns-in_err-write_type
returns-in_err-write_type g c = search (in_order, c.in_ok-write_str.ensures, c.in_ok-write_list.ensures, c.in_ok-write_str-2.ensures, c.in_ok-write_list-2.ensures, c.in_ok-write_str-3.ensures, c.in_err-write_type.ensures) depth 16

pub returns : goal.returns
returns g c = search (in_order, c.in_ok-write_str.ensures, c.in_ok-write_list.ensures, c.in_ok-write_str-2.ensures, c.in_ok-write_list-2.ensures, c.in_ok-write_str-3.ensures, c.in_ok-write_type.ensures, c.write_str-4.ensures) depth 16
