-- SPDX-License-Identifier: Apache-2.0
-- Tests of a token that hold in whatever text it stands.
use Rattle.std.specs.Prelude.{Bool, ◌||◌, [], codes}
use Rattle.cedar_tokens.specs.Lexemes.{TextToken, lexeme_token}
use Rattle.cedar_tokens.specs.declared.lexeme.Lexeme.{Lexeme}
use Rattle.cedar_grammar.specs.Grammar.{is_mark_token}

-- the token of a lexeme, where it doesn't matter in which text it stands
abbrev pub bare : Lexeme → TextToken
bare l = lexeme_token [] l

-- `{` or `<`
abbrev pub opens_bracket : TextToken → Bool
opens_bracket t = is_mark_token (codes "{") t || is_mark_token (codes "<") t

-- `}` or `>`
abbrev pub closes_bracket : TextToken → Bool
closes_bracket t = is_mark_token (codes "}") t || is_mark_token (codes ">") t
