-- SPDX-License-Identifier: Apache-2.0
use Rattle.std.proofs.Common.{ap, ◌∙◌}
use Rattle.cedar_names.specs.Identifiers.{ids_left}
use Rattle.cedar_streams.proofs.InLoop.{in_joined, joined-start}
use Rattle.cedar_listing.proofs.names.write_name.Goals as goal

pub loop-id-init : goal.loop-id-init
loop-id-init g c = record { can_next = tt; is_finite = tt; written = joined-start _ (ap ids_left c.into_iter-id-iterator.ensures.into_iter_gives ∙ c.components-id-items.ensures) }

pub returns-in_err-write_all : goal.returns-in_err-write_all
returns-in_err-write_all g c = search (in_joined, c.loop-id.invariant.written, c.in-Some.ensures.steps, c.in_err-write_all.ensures)

pub loop-id-preserved : goal.loop-id-preserved
loop-id-preserved g c = record { can_next = tt; is_finite = tt; written = search (in_joined, c.loop-id.invariant.written, c.in-Some.ensures.steps, c.in_ok-write_all.ensures, c.in_ok-write_str.ensures, c.as_ref.ensures) }

pub returns-in_err-write_str : goal.returns-in_err-write_str
returns-in_err-write_str g c = search (in_joined, c.loop-id.invariant.written, c.in-Some.ensures.steps, c.in_ok-write_all.ensures, c.in_err-write_str.ensures, c.as_ref.ensures)

pub returns : goal.returns
returns g c = search (in_joined, c.loop-id.invariant.written, c.in-None.ensures.steps)
