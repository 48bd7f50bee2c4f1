-- SPDX-License-Identifier: Apache-2.0
-- Tokens with their bytes, as a grammar reads them.
use Rattle.std.specs.Prelude.{ℕ, List}
use Rattle.cedar_text.specs.declared.location.Loc.{Loc}
use Rattle.cedar_tokens.specs.Standing.{own_text}
use Rattle.cedar_tokens.specs.declared.lexeme.Lexeme.{Lexeme}
use Rattle.cedar_tokens.specs.declared.token.TokenKind.{TokenKind}
use Rattle.cedar_tokens.specs.declared.token.Token.{Token}

-- a token with the bytes that it takes, and its place in a text
pub record TextToken : Type 0 where
  pub kind : TokenKind
  pub text : List ℕ
  pub loc : Loc

-- a token of the text, with its bytes
abbrev pub text_token : List ℕ → Token → TextToken
text_token text t = record { kind = t.kind; text = own_text text t; loc = record { start = t.start; end = t.end; src = text } }

-- the token of a lexeme that stands in this text
abbrev pub lexeme_token : List ℕ → Lexeme → TextToken
lexeme_token text l = record { kind = l.kind; text = l.text.now; loc = record { start = l.start; end = l.end; src = text } }
