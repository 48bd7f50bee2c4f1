-- SPDX-License-Identifier: Apache-2.0
use Rattle.cedar_listing.proofs.TypeTexts.{Writes-at, escaped-plain}
use Rattle.cedar_listing.proofs.quoting.write_escaped_bytes.Goals as goal

pub returns-then-are_plain : goal.returns-then-are_plain
returns-then-are_plain g c = Writes-at (escaped-plain c.args.bytes.now (c.are_plain.ensures c.if-are_plain.true)) c.write_all.ensures
