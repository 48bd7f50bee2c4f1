-- SPDX-License-Identifier: Apache-2.0
use Rattle.std.proofs.Common.{◌≡◌, ◌≤◌, ℕ, List, drop, map}
use Rattle.cedar_tokens.specs.Lexemes.{lexeme_token}
use Rattle.cedar_syntax.specs.Texts.{open_at_most}
use Rattle.cedar_syntax.proofs.Unclosed.{bracket_place}
use Rattle.cedar_syntax.proofs.brackets.first_too_many.Given as goal

-- what is found of the tokens that are left is found of all
abbrev pub invariant-loop-token : goal.invariant-loop-token
invariant-loop-token l = record {
  within : l.unclosed ≤ open_at_most;
  found : (source : List ℕ) → bracket_place l.unclosed (map (lexeme_token source) (drop l.token-index l.lexemes)) ≡ bracket_place 0 (map (lexeme_token source) l.lexemes);
}
