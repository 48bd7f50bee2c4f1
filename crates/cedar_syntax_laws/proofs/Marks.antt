-- SPDX-License-Identifier: Apache-2.0
-- Which tokens open a bracket, which close one, and which do neither.
use Rattle.std.proofs.Common.{◌≡◌, ◌≤◌, ◌+◌, ◌-◌, ℕ, true, false, List, codes, refl, sym, subst, arith}
use Rattle.std.specs.Str.{bytes_eq}
use Rattle.cedar_tokens.specs.Lexemes.{TextToken}
use Rattle.cedar_tokens.specs.declared.token.TokenKind.{TokenKind}
use Rattle.cedar_tokens.specs.declared.token.TokenKind.TheVariants as kind
use Rattle.cedar_grammar.specs.Productions.{Production, class}
use Rattle.cedar_grammar.specs.Grammar.{bracketed, ident, is_ident_token, is_keyword, is_mark_token, is_new_key, is_word_token, keyword, literal_value, mark, str, text_where, unclosed_behind, word}
use Rattle.cedar_grammar.proofs.Tokens.{ident_is, keyword_is, literal_is, mark_other, passes, str_no_mark, word_is, word_no_mark}
use Rattle.cedar_tree.specs.Trees.{Annotations, Node, placed}
use Rattle.cedar_syntax_laws.proofs.Opening.{IsStill, Opens, Plain, Tokens, Within, opens_gives, plain_class, plain_then, within_token}

-- none of the four brackets
still : (t : TextToken) → is_mark_token (codes "{") t ≡ false → is_mark_token (codes "<") t ≡ false → is_mark_token (codes "}") t ≡ false → is_mark_token (codes ">") t ≡ false → IsStill t
still t a b c d n = rw (a, b, c, d) refl

word_still : (t : TextToken) → t.kind ≡ kind.Word → IsStill t
word_still t is = still t (word_no_mark (codes "{") t is) (word_no_mark (codes "<") t is) (word_no_mark (codes "}") t is) (word_no_mark (codes ">") t is)

str_still : (t : TextToken) → t.kind ≡ kind.Str → IsStill t
str_still t is = still t (str_no_mark (codes "{") t is) (str_no_mark (codes "<") t is) (str_no_mark (codes "}") t is) (str_no_mark (codes ">") t is)

-- a mark that is no bracket of the four
abbrev pub IsNoBracket : List ℕ → Type 0
IsNoBracket s = (bytes_eq s (codes "{") ≡ false) × (bytes_eq s (codes "<") ≡ false) × (bytes_eq s (codes "}") ≡ false) × (bytes_eq s (codes ">") ≡ false)

mark_still : (s : List ℕ) → IsNoBracket s → (t : TextToken) → is_mark_token s t ≡ true → IsStill t
mark_still s neither t is = still t (mark_other s (codes "{") t is neither.0) (mark_other s (codes "<") t is neither.1) (mark_other s (codes "}") t is neither.2) (mark_other s (codes ">") t is neither.3)

pub plain_mark : (s : List ℕ) → IsNoBracket s → Plain (mark s)
plain_mark s neither = plain_class (text_where (is_mark_token s)) (λ t x is. mark_still s neither t (passes (is_mark_token s) t x is))

pub plain_keyword : (s : List ℕ) → Plain (keyword s)
plain_keyword s = plain_class (text_where (is_keyword s)) (λ t x is. word_still t (keyword_is s t (passes (is_keyword s) t x is)).0)

pub plain_word : Plain word
plain_word = plain_class (text_where is_word_token) (λ t x is. word_still t (word_is t (passes is_word_token t x is)))

pub plain_ident : Plain ident
plain_ident = plain_class (text_where is_ident_token) (λ t x is. word_still t (ident_is t (passes is_ident_token t x is)).0)

pub plain_str : Plain str
plain_str = plain_class literal_value (λ t x is. str_still t (literal_is t x is))

-- a new key is a word
new_key : (before : Annotations) (t : TextToken) → is_new_key before t ≡ true → t.kind ≡ kind.Word
new_key before t is = by t.kind is
  where
    by : (k : TokenKind) → ◌≡◌ (is_new_key before (record { kind = k; text = t.text; loc = t.loc })) true → k ≡ kind.Word
    by kind.Word is = refl
    by kind.Punct is = absurd cc
    by kind.Str is = absurd cc

pub plain_key : (before : Annotations) → Plain (class (text_where (is_new_key before)))
plain_key before = plain_class (text_where (is_new_key before)) (λ t x is. word_still t (new_key before t (passes (is_new_key before) t x is)))

-- ---- between brackets

-- each token that is the mark opens a bracket, or closes one
abbrev pub IsOpening : List ℕ → Type 0
IsOpening s = (t : TextToken) (n : ℕ) → is_mark_token s t ≡ true → unclosed_behind n t ≡ n + 1

abbrev pub IsClosing : List ℕ → Type 0
IsClosing s = (t : TextToken) (n : ℕ) → is_mark_token s t ≡ true → unclosed_behind n t ≡ n - 1

pub brace_opens : IsOpening (codes "{")
brace_opens t n is = rw is refl

pub angle_opens : IsOpening (codes "<")
angle_opens t n is = rw (mark_other (codes "<") (codes "{") t is refl, is) refl

pub brace_closes : IsClosing (codes "}")
brace_closes t n is = rw (mark_other (codes "}") (codes "{") t is refl, mark_other (codes "}") (codes "<") t is refl, is) refl

pub angle_closes : IsClosing (codes ">")
angle_closes t n is = rw (mark_other (codes ">") (codes "{") t is refl, mark_other (codes ">") (codes "<") t is refl, mark_other (codes ">") (codes "}") t is refl, is) refl

-- what stands between brackets that count
pub opens_bracketed : {A : Type 0} (opening closing : List ℕ) (R : Production TextToken A) (d : A → ℕ) → IsOpening opening → IsClosing closing → Opens R d → Opens (bracketed opening closing R) (λ e. d e.node + 1)
opens_bracketed {A} opening closing R d opened closed o = record { keeps = by }
  where
    by : (ts : Tokens) (y : Node A) (rest : Tokens) → (bracketed opening closing R).reads ts y rest → (b n : ℕ) → n + (d y.node + 1) ≤ b → Within b n rest → Within b n ts
    by ts y rest (before, m, first, (x, m', r, (behind, m'', last, (same, left)))) b n room w =
        let inner : n + (d x + 1) ≤ b = subst (λ (e : Node A). n + (d e.node + 1) ≤ b) same room in
        let back : n + 1 - 1 ≡ n = omega arith in
        let end : Within b n m'' = subst (λ (l : Tokens). Within b n l) left w in
        let closing_is = passes (is_mark_token closing) last.token behind last.is in
        let opening_is = passes (is_mark_token opening) first.token before first.is in
        let at_end : Within b (n + 1) m' = within_token b (n + 1) (n + 1 - 1) last.token m'' m' last.front (closed last.token (n + 1) closing_is) (omega (arith, inner)) (subst (λ k. Within b k m'') (sym back) end) in
        within_token b n (n + 1) first.token m ts first.front (opened first.token n opening_is) (omega (arith, inner)) (o.keeps m x m' r b (n + 1) (omega (arith, inner)) at_end)

-- and between others
pub plain_bracketed : {A : Type 0} (opening closing : List ℕ) (R : Production TextToken A) → IsNoBracket opening → IsNoBracket closing → Plain R → Plain (bracketed opening closing R)
plain_bracketed opening closing R neither neither' o =
    plain_then (mark opening) _ (λ _. 0) (plain_mark opening neither) (λ before.
    plain_then R _ (λ _. 0) o (λ x.
    plain_then (mark closing) _ (λ _. 0) (plain_mark closing neither') (λ behind. opens_gives (placed x before.loc behind.loc) (λ _. 0))))
