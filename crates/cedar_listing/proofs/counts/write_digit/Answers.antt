-- SPDX-License-Identifier: Apache-2.0
use Rattle.std.proofs.lemmas.Fmt.{decimal_digit}
use Rattle.cedar_listing.proofs.counts.write_digit.Goals as goal

pub returns : goal.returns
returns g c = rw (decimal_digit c.args.digit c.requires) c.write_all.ensures
