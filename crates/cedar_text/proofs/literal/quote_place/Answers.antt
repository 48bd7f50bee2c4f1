-- SPDX-License-Identifier: Apache-2.0
use Rattle.std.proofs.Common.{lit<, rules}
use Rattle.cedar_text.proofs.UnescapeLemmas.{IsCharBoundary-before_sign}
use Rattle.cedar_text.proofs.literal.quote_place.Goals as goal

pub returns-clause-boundary : goal.returns-clause-boundary
returns-clause-boundary c = IsCharBoundary-before_sign 34 c.args.s.now _ (lit< tt) c.utf8.s (search rules)
