-- SPDX-License-Identifier: Apache-2.0
use Rattle.std.proofs.Common.{decimal, ◌%◌}
use Rattle.cedar_streams.proofs.InOrder.{Writes-append, Writes-append-stopped}
use Rattle.cedar_listing.proofs.Digits.{last_apart}
use Rattle.cedar_listing.proofs.counts.+write_decimal.Goals as goal

pub returns-in_err-write_decimal : goal.returns-in_err-write_decimal
returns-in_err-write_decimal g t c = rw (last_apart c.args.number c.if-number-lt10.false c.ranges.number.fits) (Writes-append-stopped (decimal (c.args.number % 10)) c.in_err-write_decimal.ensures c.from_residual.ensures.0)

pub returns : goal.returns
returns g t c = rw (last_apart c.args.number c.if-number-lt10.false c.ranges.number.fits) (Writes-append c.in_ok-write_decimal.ensures c.write_digit-2.ensures)
