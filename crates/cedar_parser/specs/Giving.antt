-- SPDX-License-Identifier: Apache-2.0
-- What a step of the parser gives, compared with what the reader of the tokens gives.
use Rattle.std.specs.Prelude.{◌≡◌, ℕ, List, map, Result, Ok, Err}
use Rattle.cedar_data.specs.declared.memory.Failure.{Failure}
use Rattle.cedar_data.specs.declared.memory.Failure.TheVariants.{Refused, NoMemory}
use Rattle.cedar_text.specs.declared.location.Loc.{Loc}
use Rattle.cedar_tokens.specs.Lexemes.{TextToken, lexeme_token}
use Rattle.cedar_tokens.specs.declared.lexeme.Lexeme.{Lexeme}
use Rattle.cedar_tree.specs.Trees.{Node, Text}
use Rattle.cedar_parser.specs.declared.fault.Fault.{Fault}

-- the fault stands where the reader finds one; want of memory says nothing
abbrev pub Refuses : {A : Type 0} → Failure Fault → Result (A × List TextToken) ℕ → Type 0
Refuses (Refused fault) reading = reading ≡ Err fault.left
Refuses NoMemory reading = Unit {0}

-- the step answers what the reader gives: a value, of which view is what it means, and the tokens that are left; or where the fault is. For want of memory it may also answer that
abbrev pub Gives : {V A : Type 0} → (V → A) → List TextToken → Result V (Failure Fault) → Result (A × List TextToken) ℕ → Type 0
Gives view left (Ok value) reading = reading ≡ Ok (view value, left)
Gives view left (Err e) reading = Refuses e reading

-- the tokens of lexemes that stand in this text
abbrev pub tokens_of : List ℕ → List Lexeme → List TextToken
tokens_of text lexemes = map (lexeme_token text) lexemes

-- the place between two byte offsets of a text
abbrev pub place_from : List ℕ → ℕ → ℕ → Loc
place_from text start end = record { start = start; end = end; src = text }

-- the text of a lexeme that stands in this text, at its place
abbrev pub lexeme_node : List ℕ → Lexeme → Node Text
lexeme_node text l = record { node = l.text.now; loc = place_from text l.start l.end }
