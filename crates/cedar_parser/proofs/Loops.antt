-- SPDX-License-Identifier: Apache-2.0
-- The loops of the parser: what was read so far, and what the tokens that are left read to.
use Rattle.std.proofs.Common.{◌≡◌, ℕ, zero, suc, ◌<◌, arith, List, [], ◌∷◌, ◌++◌, length, Result, Ok, Err, sym, ap, ◌∙◌, refl}
use Rattle.std.proofs.Common.{append_assoc}
use Rattle.cedar_tokens.specs.Lexemes.{TextToken}
use Rattle.cedar_grammar.specs.Reading.{Reader, done, after, rounds, looped}

-- what a reader gives
abbrev pub Given : Type 0 → Type 0
Given B = Result (B × List TextToken) ℕ

module _ {A B : Type 0} (put : List A → B → B) where
  -- what a reader gives, with these members put before it
  abbrev pub prepend : List A → Given B → Given B
  prepend front (Err left) = Err left
  prepend front (Ok p) = Ok (put front p.0, p.1)

  -- the loop reads at the start what is in front, and then what rounds enough read here
  pub record Reached (round : Reader B → Reader B) (start : List TextToken) (front : List A) (here : List TextToken) : Type 0 where
    pub count : ℕ
    pub enough : length here < count
    pub is : looped round start ≡ prepend front (rounds round count here)

  -- putting nothing before changes nothing
  abbrev pub PutsNothing : Type 0
  PutsNothing = (b : B) → put [] b ≡ b

  -- putting one member after others before is putting all of them
  abbrev pub PutsMore : Type 0
  PutsMore = (front : List A) (a : A) (b : B) → put front (put (a ∷ []) b) ≡ put (front ++ a ∷ []) b

  prepend_nothing : PutsNothing → (r : Given B) → prepend [] r ≡ r
  prepend_nothing nothing (Err left) = refl
  prepend_nothing nothing (Ok p) = ap (λ b. Ok (b, p.1)) (nothing p.0)

  prepend_more : PutsMore → (front : List A) (a : A) (r : Given B) → prepend front (after r (λ b. done (put (a ∷ []) b))) ≡ prepend (front ++ a ∷ []) r
  prepend_more more front a (Err left) = refl
  prepend_more more front a (Ok p) = ap (λ b. Ok (b, p.1)) (more front a p.0)

  -- what a round gives whatever comes after it, rounds enough give
  one_round : (round : Reader B → Reader B) (count : ℕ) (here : List TextToken) (given : Given B) → length here < count → ((again : Reader B) → round again here ≡ given) → rounds round count here ≡ given
  one_round round zero here given enough e = absurd (omega (arith, enough))
  one_round round (suc n) here given enough e = e (rounds round n)

  -- a round that goes on
  abbrev pub Goes : (round : Reader B → Reader B) → List TextToken → A → List TextToken → Type 0
  Goes round here a left = (again : Reader B) → round again here ≡ after (again left) (λ b. done (put (a ∷ []) b))

  pub reached_start : PutsNothing → (round : Reader B → Reader B) (start : List TextToken) → Reached round start [] start
  reached_start nothing round start = record { count = suc (length start); enough = omega arith; is = sym (prepend_nothing nothing (looped round start)) }

  -- the last round
  pub reached_end : (round : Reader B → Reader B) (start : List TextToken) (front : List A) (here : List TextToken) (given : Given B)
      → Reached round start front here → ((again : Reader B) → round again here ≡ given) → looped round start ≡ prepend front given
  reached_end round start front here given r e = r.is ∙ ap (prepend front) (one_round round r.count here given r.enough e)

  more_rounds : PutsMore → (round : Reader B → Reader B) (count : ℕ) (front : List A) (here : List TextToken) (a : A) (left : List TextToken) → length here < count → length left < length here
      → Goes round here a left → (k : ℕ) × (length left < k) × (prepend front (rounds round count here) ≡ prepend (front ++ a ∷ []) (rounds round k left))
  more_rounds more round zero front here a left enough fewer goes = absurd (omega (arith, enough))
  more_rounds more round (suc n) front here a left enough fewer goes =
      (n, omega (arith, enough, fewer), ap (prepend front) (goes (rounds round n)) ∙ prepend_more more front a (rounds round n left))

  -- a round that goes on behind another member
  pub reached_more : PutsMore → (round : Reader B → Reader B) (start : List TextToken) (front : List A) (here : List TextToken) (a : A) (left : List TextToken)
      → Reached round start front here → length left < length here → Goes round here a left → Reached round start (front ++ a ∷ []) left
  reached_more more round start front here a left r fewer goes =
      let k = more_rounds more round r.count front here a left r.enough fewer goes in
      record { count = k.0; enough = k.1; is = r.is ∙ k.2 }

-- lists of members, and those with a token behind
abbrev pub put_first : {A : Type 0} → List A → List A → List A
put_first front xs = front ++ xs

abbrev pub put_closed : {A C : Type 0} → List A → List A × C → List A × C
put_closed front p = (front ++ p.0, p.1)

pub puts_nothing_first : {A : Type 0} → PutsNothing {A = A} put_first
puts_nothing_first xs = refl

pub puts_more_first : {A : Type 0} → PutsMore {A = A} put_first
puts_more_first front a xs = sym (append_assoc front (a ∷ []) xs)

pub puts_nothing_closed : {A C : Type 0} → PutsNothing {A = A} {B = List A × C} put_closed
puts_nothing_closed p = refl

pub puts_more_closed : {A C : Type 0} → PutsMore {A = A} {B = List A × C} put_closed
puts_more_closed front a p = ap (λ xs. (xs, p.1)) (sym (append_assoc front (a ∷ []) p.0))
