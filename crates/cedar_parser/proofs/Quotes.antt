-- SPDX-License-Identifier: Apache-2.0
-- What stands between the quotes of a literal.
use Rattle.std.proofs.Common.{◌≡◌, ℕ, suc, ◌-◌, Bool, true, false, List, [], ◌∷◌, ◌++◌, length, take, codes, nat_eq, Bor, Option, Some, None, option_map, MatchOption, ap, ◌∙◌, sym, refl, arith}
use Rattle.std.proofs.Math.Seq.{take-append_seam}
use Rattle.std.proofs.lemmas.Bool.Decides.{Decides-eqb}
use Rattle.std.proofs.lemmas.List.{length-append}
use Rattle.std.proofs.lemmas.Slice.Eq.{starts_is, ends_is}
use Rattle.std.specs.List.{starts_with, ends_with}
use Rattle.cedar_grammar.specs.Grammar.{literal_body}

-- what isn't true is false
is_false : (b : Bool) → (b ≡ true → ⊥) → b ≡ false
is_false false n = refl
is_false true n = absurd (n refl)

-- a text with no quote in front has no body
pub no_front : (s : List ℕ) → ((rest : List ℕ) → s ≡ 34 ∷ rest → ⊥) → literal_body s ≡ None
no_front s h = rw (is_false (starts_with nat_eq s (codes "\"")) (λ e. h _ ((starts_is Decides-eqb s (codes "\"") _ refl).0 e))) refl

-- nor has one with a quote in front alone
no_end : (s x : List ℕ) → s ≡ 34 ∷ x → ((front : List ℕ) → x ≡ front ++ 34 ∷ [] → ⊥) → literal_body s ≡ None
no_end s x front h = rw (front, is_false (ends_with nat_eq x (codes "\"")) (λ e. h _ ((ends_is Decides-eqb x (codes "\"") _ refl).0 e))) refl

-- a text without the quote at its end
taken : (x y : List ℕ) → x ≡ y ++ 34 ∷ [] → take (suc (length x) - 2) x ≡ y
taken x y e =
    let n : suc (length x) - 2 ≡ length y = omega (arith, ap length e, length-append y (34 ∷ [])) in
    rw n (ap (take (length y)) e ∙ take-append_seam y (34 ∷ []))

-- the body of a text between two quotes
between_quotes : (s x y : List ℕ) → s ≡ 34 ∷ x → x ≡ y ++ 34 ∷ [] → literal_body s ≡ Some y
between_quotes s x y front end = rw (front, (ends_is Decides-eqb x (codes "\"") (ends_with nat_eq x (codes "\"")) refl).1 y end) (ap Some (taken x y end))

-- what is left before a quote at the end
pub body_of : (s x : List ℕ) (r : Option (Bor (List ℕ))) → s ≡ 34 ∷ x → MatchOption r ((front : List ℕ) → x ≡ front ++ 34 ∷ [] → ⊥) (λ y. x ≡ y.now ++ 34 ∷ []) → option_map (λ y. y.now) r ≡ literal_body s
body_of s x None front h = sym (no_end s x front h)
body_of s x (Some y) front h = sym (between_quotes s x y.now front h)
