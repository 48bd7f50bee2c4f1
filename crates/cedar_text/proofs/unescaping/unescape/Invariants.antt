-- SPDX-License-Identifier: Apache-2.0
use denote.Shadow.{shadow}
use denote.Text.{Utf8}
use Rattle.std.proofs.Common.{length}
use Rattle.std.specs.String.{string_bytes}
use Rattle.cedar_text.proofs.UnescapeLemmas.{Unescaping}
use Rattle.cedar_text.proofs.unescaping.unescape.Given as goal

-- the rest is text, and what the body before it stands for is made
abbrev pub invariant-pieces : goal.invariant-pieces
invariant-pieces l = shadow (Utf8 l.rest) × Unescaping l.body l.at l.rest (string_bytes l.text)

abbrev pub decreases-pieces : goal.decreases-pieces
decreases-pieces l = length l.rest
