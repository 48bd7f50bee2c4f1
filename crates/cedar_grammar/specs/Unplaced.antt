-- SPDX-License-Identifier: Apache-2.0
-- Tokens with their places left out.
use Rattle.std.specs.Prelude.{List, map}
use Rattle.cedar_tokens.specs.Lexemes.{TextToken}
use Rattle.cedar_tree.specs.Unplaced.{nowhere}

-- a token with its kind and text alone
abbrev pub token_unplaced : TextToken → TextToken
token_unplaced t = record { kind = t.kind; text = t.text; loc = nowhere }

-- tokens with their kinds and texts alone
abbrev pub tokens_unplaced : List TextToken → List TextToken
tokens_unplaced ts = map token_unplaced ts
