-- SPDX-License-Identifier: Apache-2.0
-- Going along the tokens and counting open brackets finds the first at which too many are open.
use Rattle.std.proofs.Common.{◌≡◌, ◌⊎◌, inl, inr, ℕ, zero, suc, ◌+◌, ◌<◌, ◌≤◌, Bool, true, false, nat_lt, cond, List, [], ◌∷◌, ◌++◌, length, map, take, drop, get_or, Option, Some, None, refl, ap, sym, ◌∙◌, subst, arith, append_assoc, ltb-true, ltb-false, lt-ltb}
use Rattle.std.proofs.lemmas.List.{append-nil, take_all, at_drop_more, at_drop_all}
use Rattle.std.proofs.lemmas.List.Sums.{fold-append}
use Rattle.cedar_text.specs.declared.location.Span.{Span}
use Rattle.cedar_text.specs.Places.{span_of}
use Rattle.cedar_tokens.specs.Lexemes.{TextToken, lexeme_token}
use Rattle.cedar_tokens.specs.declared.lexeme.Lexeme.{Lexeme}
use Rattle.cedar_grammar.specs.Grammar.{OpensAtMost, unclosed, unclosed_behind}
use Rattle.cedar_syntax.specs.Marks.{bare}
use Rattle.cedar_syntax.specs.Steps.{TellsBrackets}
use Rattle.cedar_syntax.specs.Texts.{open_at_most}

-- the place of the first bracket at which too many are open, where so many were open before these tokens
abbrev pub bracket_place : ℕ → List TextToken → Option Span
bracket_place n [] = None
bracket_place n (t ∷ ts) = cond (nat_lt open_at_most (unclosed_behind n t)) (Some (span_of t.loc)) (bracket_place (unclosed_behind n t) ts)

-- one token more
unclosed_push : (front : List TextToken) (t : TextToken) (n : ℕ) → unclosed front ≡ n → unclosed (front ++ t ∷ []) ≡ unclosed_behind n t
unclosed_push front t n same = fold-append unclosed_behind 0 front (t ∷ []) ∙ ap (λ m. unclosed_behind m t) same

-- so many are open behind the first k tokens, for each k
front_or_all : (k : ℕ) (front : List TextToken) (t : TextToken) → (take k (front ++ t ∷ []) ≡ take k front) ⊎ (take k (front ++ t ∷ []) ≡ front ++ t ∷ [])
front_or_all zero front t = inl refl
front_or_all (suc k) [] t = inr (ap (λ (ts : List TextToken). t ∷ ts) (take_all k [] (omega arith)))
front_or_all (suc k) (f ∷ front) t = elim (front_or_all k front t) [ inl same ↦ inl (ap (λ (ts : List TextToken). f ∷ ts) same) | inr same ↦ inr (ap (λ (ts : List TextToken). f ∷ ts) same) ]

-- not too many are open where none are open too many before the last token, and not behind it
opens_push : (front : List TextToken) (t : TextToken) → OpensAtMost open_at_most front → unclosed (front ++ t ∷ []) ≤ open_at_most → OpensAtMost open_at_most (front ++ t ∷ [])
opens_push front t before here k = elim (front_or_all k front t) [
  | inl same ↦ subst (λ (ts : List TextToken). unclosed ts ≤ open_at_most) (sym same) (before k)
  | inr same ↦ subst (λ (ts : List TextToken). unclosed ts ≤ open_at_most) (sym same) here
]

opens_none : OpensAtMost open_at_most []
opens_none zero = omega arith
opens_none (suc k) = omega arith

-- a token at which too many are open, or not
found_here : (front ts : List TextToken) (t : TextToken) (n : ℕ) (many : Bool) → nat_lt open_at_most (unclosed_behind n t) ≡ many → OpensAtMost open_at_most front → unclosed front ≡ n
    → (OpensAtMost open_at_most (front ++ t ∷ []) → TellsBrackets ((front ++ t ∷ []) ++ ts) (bracket_place (unclosed_behind n t) ts))
    → TellsBrackets (front ++ t ∷ ts) (cond many (Some (span_of t.loc)) (bracket_place (unclosed_behind n t) ts))
found_here front ts t n true more before same later =
    (t, record { front = front; rest = ts; is = refl; before = before; here = subst (λ m. open_at_most < m) (sym (unclosed_push front t n same)) (ltb-true open_at_most (unclosed_behind n t) more) }, refl)
found_here front ts t n false few before same later =
    subst (λ (all : List TextToken). TellsBrackets all (bracket_place (unclosed_behind n t) ts)) (append_assoc front (t ∷ []) ts)
    (later (opens_push front t before (subst (λ m. m ≤ open_at_most) (sym (unclosed_push front t n same)) (ltb-false open_at_most (unclosed_behind n t) few))))

-- what is found of the tokens behind a front is found of all
found_behind : (front ts : List TextToken) (n : ℕ) → OpensAtMost open_at_most front → unclosed front ≡ n → TellsBrackets (front ++ ts) (bracket_place n ts)
found_behind front [] n before same = subst (OpensAtMost open_at_most) (sym (append-nil front)) before
found_behind front (t ∷ ts) n before same =
    found_here front ts t n (nat_lt open_at_most (unclosed_behind n t)) refl before same
    (λ opens. found_behind (front ++ t ∷ []) ts (unclosed_behind n t) opens (unclosed_push front t n same))

pub brackets_found : (ts : List TextToken) (found : Option Span) → bracket_place 0 ts ≡ found → TellsBrackets ts found
brackets_found ts found same = subst (TellsBrackets ts) same (found_behind [] ts 0 opens_none refl)

-- the bracket that was found in a loop
pub found_at : (xs : List Lexeme) (i n m : ℕ) (source : List ℕ) (d : Lexeme) (place : Span) → i < length xs
    → bracket_place n (map (lexeme_token source) (drop i xs)) ≡ bracket_place 0 (map (lexeme_token source) xs)
    → m ≡ unclosed_behind n (bare (get_or xs i d)) → open_at_most < m → place ≡ span_of (bare (get_or xs i d)).loc
    → TellsBrackets (map (lexeme_token source) xs) (Some place)
found_at xs i n m source d place within so_far is many at =
    let stepped = at_drop_more (λ ls. bracket_place n (map (lexeme_token source) ls)) xs i d within in
    let test : nat_lt open_at_most (unclosed_behind n (bare (get_or xs i d))) ≡ true = subst (λ k. nat_lt open_at_most k ≡ true) is (lt-ltb open_at_most m many) in
    brackets_found (map (lexeme_token source) xs) (Some place)
    (sym so_far ∙ stepped ∙ ap (λ b. cond b (Some (span_of (bare (get_or xs i d)).loc)) (bracket_place (unclosed_behind n (bare (get_or xs i d))) (map (lexeme_token source) (drop (i + 1) xs)))) test ∙ ap Some (sym at))

-- where the loop has come to the end
pub none_found : (xs : List Lexeme) (i n : ℕ) (source : List ℕ) → length xs ≤ i → bracket_place n (map (lexeme_token source) (drop i xs)) ≡ bracket_place 0 (map (lexeme_token source) xs)
    → TellsBrackets (map (lexeme_token source) xs) None
none_found xs i n source past so_far = brackets_found (map (lexeme_token source) xs) None (sym so_far ∙ at_drop_all (λ ls. bracket_place n (map (lexeme_token source) ls)) xs i past)
