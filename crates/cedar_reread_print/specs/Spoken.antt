-- SPDX-License-Identifier: Apache-2.0
-- The tokens of pieces over names as they are written, each of which stands nowhere.
use Rattle.std.specs.Prelude.{ℕ, List, map}
use Rattle.cedar_names.specs.Components.{components}
use Rattle.cedar_print.specs.Pieces.{Pieces}
use Rattle.cedar_print_laws.specs.Tokens.{Said, tokens_of}
use Rattle.cedar_tokens.specs.Lexemes.{TextToken}
use Rattle.cedar_tree.specs.Unplaced.{nowhere}
use Rattle.cedar_written.specs.Possibilities.{written as name_written}
use Rattle.cedar_written.specs.declared.raw_name.RawName.{RawName}

-- the words of a name
abbrev pub words : RawName → List (List ℕ)
words n = components (name_written n)

-- a token, which stands nowhere
abbrev pub spoken : Said → TextToken
spoken s = record { kind = s.0; text = s.1; loc = nowhere }

-- the tokens of pieces
abbrev pub say : Pieces RawName → List TextToken
say ps = map spoken (tokens_of words ps)
