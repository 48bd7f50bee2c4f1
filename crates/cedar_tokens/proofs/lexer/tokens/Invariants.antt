-- SPDX-License-Identifier: Apache-2.0
use Rattle.std.proofs.Common.{◌≡◌, ◌+◌, length}
use denote.Text.{Utf8}
use denote.Shadow.{shadow}
use Rattle.cedar_tokens.proofs.Lexed.{Reached}
use Rattle.cedar_tokens.proofs.lexer.tokens.Given as goal

-- the tokens so far are those of the text up to the rest
abbrev pub invariant-pieces : goal.invariant-pieces
invariant-pieces l = shadow (Utf8 l.rest) × Reached l.text l.at l.rest l.found.items × (l.at + length l.rest ≡ length l.text)

abbrev pub decreases-pieces : goal.decreases-pieces
decreases-pieces l = length l.rest
