-- SPDX-License-Identifier: Apache-2.0
use Rattle.cedar_streams.proofs.InOrder.{in_order}
use Rattle.cedar_listing.proofs.listing.write_entity_line.Goals as goal

pub returns-in_err-write_str-2 : goal.returns-in_err-write_str-2
returns-in_err-write_str-2 g c = search (in_order, c.in_ok-write_str.ensures, c.in_ok-write_entity_name.ensures, c.in_err-write_str-2.ensures) depth 16

pub returns-in_err-write_list : goal.returns-in_err-write_list
returns-in_err-write_list g c = search (in_order, c.in_ok-write_str.ensures, c.in_ok-write_entity_name.ensures, c.in_ok-write_str-2.ensures, c.in_err-write_list.ensures) depth 16

pub returns-in_err-write_kind : goal.returns-in_err-write_kind
returns-in_err-write_kind g c = search (in_order, c.in_ok-write_str.ensures, c.in_ok-write_entity_name.ensures, c.in_ok-write_str-2.ensures, c.in_ok-write_list.ensures, c.in_err-write_kind.ensures) depth 16

pub returns : goal.returns
returns g c = search (in_order, c.in_ok-write_str.ensures, c.in_ok-write_entity_name.ensures, c.in_ok-write_str-2.ensures, c.in_ok-write_list.ensures, c.in_ok-write_kind.ensures, c.write_str-3.ensures) depth 16
