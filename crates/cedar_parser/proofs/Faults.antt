-- SPDX-License-Identifier: Apache-2.0
-- What a fault of a part says of the whole, and how many tokens lexemes are.
use Rattle.std.proofs.Common.{◌≡◌, ℕ, ◌<◌, arith, List, length, Result, Err}
use Rattle.std.proofs.lemmas.List.{length-map}
use Rattle.cedar_data.specs.declared.memory.Failure.{Failure}
use Rattle.cedar_data.specs.declared.memory.Failure.TheVariants.{Refused, NoMemory}
use Rattle.cedar_tokens.specs.Lexemes.{TextToken, lexeme_token}
use Rattle.cedar_tokens.specs.declared.lexeme.Lexeme.{Lexeme}
use Rattle.cedar_parser.specs.Giving.{Refuses, tokens_of}
use Rattle.cedar_parser.specs.declared.fault.Fault.{Fault}

-- the fault of a part is that of the whole where its reader says so
pub fault_along : {A B : Type 0} (e : Failure Fault) (part : Result (A × List TextToken) ℕ) (whole : Result (B × List TextToken) ℕ) → ((n : ℕ) → part ≡ Err n → whole ≡ Err n) → Refuses e part → Refuses e whole
fault_along (Refused fault) part whole along h = along fault.left h
fault_along NoMemory part whole along h = tt

-- as many tokens as lexemes
pub tokens-length : (text : List ℕ) (lexemes : List Lexeme) → length (tokens_of text lexemes) ≡ length lexemes
tokens-length text lexemes = length-map lexemes (lexeme_token text)

-- fewer lexemes are fewer tokens
pub fewer_tokens : (text : List ℕ) (xs ys : List Lexeme) → length xs < length ys → length (tokens_of text xs) < length (tokens_of text ys)
fewer_tokens text xs ys h = omega (arith, h, tokens-length text xs, tokens-length text ys)
