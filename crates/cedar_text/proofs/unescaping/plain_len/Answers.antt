-- SPDX-License-Identifier: Apache-2.0
use Rattle.std.proofs.Common.{rules}
use Rattle.cedar_text.proofs.UnescapeLemmas.{IsCharBoundary-plain}
use Rattle.cedar_text.proofs.unescaping.plain_len.Goals as goal

pub returns-clause-boundary : goal.returns-clause-boundary
returns-clause-boundary c = IsCharBoundary-plain c.args.s.now _ c.utf8.s (search rules)
