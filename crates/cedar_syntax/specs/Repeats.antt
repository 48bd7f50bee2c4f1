-- SPDX-License-Identifier: Apache-2.0
-- How one goes back along annotations, to find the key that a word repeats.
use Rattle.std.specs.Prelude.{ℕ, if◌then◌else◌, List, [], ◌∷◌, codes, Option, Some, None}
use Rattle.std.specs.Str.{bytes_eq}
use Rattle.cedar_tokens.specs.declared.lexeme.Lexeme.{Lexeme}
use Rattle.cedar_grammar.specs.Grammar.{is_mark_token, is_str_kind, is_word_kind}
use Rattle.cedar_syntax.specs.Marks.{bare}
use Rattle.cedar_syntax.specs.declared.repeats.Seen.{Seen}
use Rattle.cedar_syntax.specs.declared.repeats.Seen.TheVariants.{Annotations, Closing, Literal, Opening, Key, Repeated, Other}

-- what was seen with the token before it
abbrev pub seen_with : List ℕ → Lexeme → Seen → Seen
seen_with word l Annotations = if is_word_kind l.kind then Key l else (if is_mark_token (codes ")") (bare l) then Closing else Other)
seen_with word l Closing = if is_str_kind l.kind then Literal else Other
seen_with word l Literal = if is_mark_token (codes "(") (bare l) then Opening else Other
seen_with word l Opening = if is_word_kind l.kind then Key l else Other
seen_with word l (Key key) = if is_mark_token (codes "@") (bare l) then (if bytes_eq key.text.now word then Repeated key else Annotations) else Other
seen_with word l (Repeated key) = Repeated key
seen_with word l Other = Other

-- what is seen of tokens from their end back, where this was seen behind them
abbrev pub seen_from : List ℕ → Seen → List Lexeme → Seen
seen_from word seen [] = seen
seen_from word seen (l ∷ ls) = seen_with word l (seen_from word seen ls)

-- the key with the word, if one was found
abbrev pub found_key : Seen → Option Lexeme
found_key (Repeated key) = Some key
found_key _ = None

-- the last key with this word in the annotations at the end of tokens
abbrev pub key_in : List ℕ → List Lexeme → Option Lexeme
key_in word ls = found_key (seen_from word Annotations ls)
