-- SPDX-License-Identifier: Apache-2.0
-- Which rule a token breaks that strays.
use Rattle.std.proofs.Common.{◌≡◌, ◌↔◌, ℕ, Bool, true, false, IsTrue, List, [], ◌∷◌, ◌++◌, map, codes, Option, Some, None, Result, Ok, Err, IfOk, ap, sym, ◌∙◌, subst, append_assoc}
use Rattle.std.proofs.lemmas.List.{map-append, same_from_push}
use Rattle.cedar_tokens.specs.Lexemes.{TextToken, lexeme_token}
use Rattle.cedar_tokens.specs.declared.lexeme.Lexeme.{Lexeme}
use Rattle.cedar_text.specs.Words.{is_reserved_word}
use Rattle.cedar_tree.specs.declared.parse_error.UserError.{UserError}
use Rattle.cedar_tree.specs.declared.parse_error.UserError.TheVariants.{EmptyList, StringEscape, ReservedIdentifierUsed, DuplicateAnnotations}
use Rattle.cedar_grammar.specs.Grammar.{Viable, is_keyword, is_mark_token, is_word_token}
use Rattle.cedar_syntax.specs.Causes.{ClosesEmptyEnum, IsReservedWord, IsNoRepeat, as_word}
use Rattle.cedar_syntax.specs.Marks.{bare}
use Rattle.cedar_syntax.specs.Steps.{TellsEscape, TellsReservedError, TellsRule}

-- what follows of each value follows of a result
pub if_ok_follows : {T E : Type 0} (r : Result T E) (P Q : T → Type 0) → ((x : T) → P x → Q x) → IfOk r P → IfOk r Q
if_ok_follows (Ok x) P Q f h = f x h
if_ok_follows (Err e) P Q f h = h

-- what isn't true is not true
pub not_true : (b : Bool) → b ≡ false → IsTrue b → ⊥
not_true b fails holds = let e : false ≡ true = sym fails ∙ holds in absurd cc

-- the tokens of lexemes with a last one
map_push : (source : List ℕ) (front behind : List Lexeme) (last : Lexeme) → front ≡ behind ++ last ∷ []
    → map (lexeme_token source) front ≡ map (lexeme_token source) behind ++ lexeme_token source last ∷ []
map_push source front behind last is = ap (map (lexeme_token source)) is ∙ map-append (lexeme_token source) behind (last ∷ [])

-- the last token before a `]` that closes an empty list, and those before it
closing_parts : (source : List ℕ) (front behind : List Lexeme) (opening : Lexeme) (token : TextToken) → front ≡ behind ++ opening ∷ [] → (closes : ClosesEmptyEnum (map (lexeme_token source) front) token)
    → (map (lexeme_token source) behind ≡ closes.before ++ closes.enum ∷ []) × (lexeme_token source opening ≡ closes.opening)
closing_parts source front behind opening token last closes =
    same_from_push (map (lexeme_token source) behind) (closes.before ++ closes.enum ∷ []) (lexeme_token source opening) closes.opening
    (sym (map_push source front behind opening last) ∙ closes.is ∙ sym (append_assoc closes.before (closes.enum ∷ []) (closes.opening ∷ [])))

-- the last token is the `[`
pub opening_is : (source : List ℕ) (front behind : List Lexeme) (opening token : Lexeme) → front ≡ behind ++ opening ∷ [] → ClosesEmptyEnum (map (lexeme_token source) front) (lexeme_token source token)
    → IsTrue (is_mark_token (codes "[") (bare opening))
opening_is source front behind opening token last closes =
    let same = (closing_parts source front behind opening (lexeme_token source token) last closes).1 in
    subst (λ t. IsTrue (is_mark_token (codes "[") t)) (sym same) closes.opens

-- the one before it is the word
pub word_is : (source : List ℕ) (front before behind : List Lexeme) (word opening token : Lexeme) → front ≡ behind ++ opening ∷ [] → behind ≡ before ++ word ∷ []
    → ClosesEmptyEnum (map (lexeme_token source) front) (lexeme_token source token) → IsTrue (is_keyword (codes "enum") (bare word))
word_is source front before behind word opening token last second closes =
    let rest = (closing_parts source front behind opening (lexeme_token source token) last closes).0 in
    let same = (same_from_push (map (lexeme_token source) before) closes.before (lexeme_token source word) closes.enum (sym (map_push source behind before word second) ∙ rest)).1 in
    subst (λ t. IsTrue (is_keyword (codes "enum") t)) (sym same) closes.names

-- tokens that close an empty list
pub closes_by : (source : List ℕ) (front before behind : List Lexeme) (word opening token : Lexeme) → front ≡ behind ++ opening ∷ [] → behind ≡ before ++ word ∷ []
    → IsTrue (is_keyword (codes "enum") (bare word)) → IsTrue (is_mark_token (codes "[") (bare opening)) → IsTrue (is_mark_token (codes "]") (bare token))
    → ClosesEmptyEnum (map (lexeme_token source) front) (lexeme_token source token)
closes_by source front before behind word opening token last second names opens closes = record {
  before = map (lexeme_token source) before;
  enum = lexeme_token source word;
  opening = lexeme_token source opening;
  is = map_push source front behind opening last
      ∙ ap (λ (ts : List TextToken). ts ++ lexeme_token source opening ∷ []) (map_push source behind before word second)
      ∙ append_assoc (map (lexeme_token source) before) (lexeme_token source word ∷ []) (lexeme_token source opening ∷ []);
  names = names;
  opens = opens;
  closes = closes;
}

-- whether the word x may stand in the place of a reserved word decides
pub reserved_by : (front : List TextToken) (t : TextToken) (b : Bool) → IsTrue (is_word_token t) → IsTrue (is_reserved_word t.text) → IsNoRepeat front t
    → IsTrue b ↔ Viable (front ++ as_word t ∷ []) → IsTrue b ↔ IsReservedWord front t
reserved_by front t b word reserved new may = (λ h. record { word = word; reserved = reserved; could = may.0 h; new = new }, λ r. may.1 r.could)

-- no rule is broken where none of the four is
pub no_rule : (front : List TextToken) (t : TextToken) → (ClosesEmptyEnum front t → ⊥) → TellsEscape front t None → IsNoRepeat front t → (IsReservedWord front t → ⊥) → TellsRule front t None
no_rule front t list escape repeat reserved (EmptyList span) strays = list strays.0
no_rule front t list escape repeat reserved (StringEscape span bad) strays = escape bad strays.0
no_rule front t list escape repeat reserved (ReservedIdentifierUsed word) strays = reserved strays.0
no_rule front t list escape repeat reserved (DuplicateAnnotations key first second) strays = repeat strays.2.0 strays.2.1.key

-- the last of the four decides
pub last_rule : (front : List TextToken) (t : TextToken) (found : Option UserError) → (ClosesEmptyEnum front t → ⊥) → TellsEscape front t None → IsNoRepeat front t
    → TellsReservedError front t found → TellsRule front t found
last_rule front t None list escape repeat reserved = no_rule front t list escape repeat reserved
last_rule front t (Some error) list escape repeat reserved = reserved
