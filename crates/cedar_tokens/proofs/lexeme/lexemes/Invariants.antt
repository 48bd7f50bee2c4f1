-- SPDX-License-Identifier: Apache-2.0
use Rattle.std.proofs.Common.{◌≡◌, map, take}
use Rattle.cedar_tokens.specs.Lexemes.{text_token, lexeme_token}
use Rattle.cedar_tokens.proofs.lexeme.lexemes.Given as goal

-- the lexemes so far are those of the tokens so far
abbrev pub invariant-loop-token : goal.invariant-loop-token
invariant-loop-token l = map (lexeme_token l.source) l.found.items ≡ map (text_token l.source) (take l.token-index l.tokens)
