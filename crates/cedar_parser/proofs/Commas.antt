-- SPDX-License-Identifier: Apache-2.0
-- Lists with commas: the members so far, and what the tokens behind the last of them read to.
use Rattle.std.proofs.Common.{◌≡◌, ℕ, zero, suc, ◌<◌, ◌≤◌, arith, List, [], ◌∷◌, ◌++◌, length, codes, Option, Some, None, Result, Ok, Err, sym, ap, ◌∙◌, refl}
use Rattle.std.proofs.Common.{append_assoc}
use Rattle.std.proofs.lemmas.List.{append-nil}
use Rattle.cedar_tokens.specs.Lexemes.{TextToken}
use Rattle.cedar_grammar.specs.Reading.{Reader, done, either, on_next, accepted, a_mark, after, rounds, comma_round, commas_at}
use Rattle.cedar_tree.specs.Trees.{Node, Text}

-- what a reader of lists gives, with these members before it
abbrev pub prepend : {A : Type 0} → List A → Result (List A × List TextToken) ℕ → Result (List A × List TextToken) ℕ
prepend front (Err left) = Err left
prepend front (Ok p) = Ok (front ++ p.0, p.1)

-- one member before others, and some before that one
prepend_more : {A : Type 0} (front : List A) (x : A) (r : Result (List A × List TextToken) ℕ) → prepend front (prepend (x ∷ []) r) ≡ prepend (front ++ x ∷ []) r
prepend_more front x (Err left) = refl
prepend_more front x (Ok p) = ap (λ xs. Ok (xs, p.1)) (sym (append_assoc front (x ∷ []) p.0))

module _ {A : Type 0} (f : Reader A) where
  -- what follows a member: a comma and so many rounds, or nothing
  abbrev pub behind : ℕ → Reader (List A)
  behind n = on_next (a_mark (codes ",")) (λ _. rounds (comma_round f) n) (done [])

  -- all members are those so far and those behind
  pub record Members (start : List TextToken) (front : List A) (here : List TextToken) : Type 0 where
    pub count : ℕ
    pub enough : length here ≤ count
    pub is : commas_at f start ≡ prepend front (behind count here)

  -- a round that reads a member
  round_of : (n : ℕ) (ts : List TextToken) (x : A) (mid : List TextToken) → f ts ≡ Ok (x, mid) → rounds (comma_round f) (suc n) ts ≡ prepend (x ∷ []) (behind n mid)
  round_of n ts x mid e = rw e (at_comma (accepted (a_mark (codes ",")) mid))
    where
      put_first : (r : Result (List A × List TextToken) ℕ) → (after r (λ xs. done (x ∷ xs))) ≡ prepend (x ∷ []) r
      put_first (Err left) = refl
      put_first (Ok p) = refl

      at_comma : (o : Option (Node Text × List TextToken))
          → either o (λ _ rest. after (rounds (comma_round f) n rest) (λ xs. done (x ∷ xs))) (Ok (x ∷ [], mid)) ≡ prepend (x ∷ []) (either o (λ _ rest. rounds (comma_round f) n rest) (Ok ([], mid)))
      at_comma None = refl
      at_comma (Some p) = put_first (rounds (comma_round f) n p.1)

  -- the first member
  pub members_start : (start : List TextToken) (x : A) (mid : List TextToken) → f start ≡ Ok (x, mid) → length mid < length start → Members start (x ∷ []) mid
  unfolding commas_at
  members_start start x mid e fewer = record { count = length start; enough = omega (arith, fewer); is = round_of (length start) start x mid e }

  -- no first member
  pub members_none : (start : List TextToken) (left : ℕ) → f start ≡ Err left → commas_at f start ≡ Err left
  unfolding commas_at
  members_none start left e = rw e refl

  -- what follows a comma
  at_next : (n : ℕ) (here : List TextToken) (c : Node Text) (rest : List TextToken) → Some (c, rest) ≡ accepted (a_mark (codes ",")) here → behind n here ≡ rounds (comma_round f) n rest
  at_next n here c rest e = rw (← e) refl

  -- a comma and a member, in a round fewer
  more_of : (n : ℕ) (front : List A) (here : List TextToken) (c : Node Text) (rest : List TextToken) (x : A) (mid : List TextToken)
      → length here ≤ n → length rest < length here → length mid < length rest
      → Some (c, rest) ≡ accepted (a_mark (codes ",")) here → f rest ≡ Ok (x, mid) → (k : ℕ) × (length mid ≤ k) × (prepend front (behind n here) ≡ prepend (front ++ x ∷ []) (behind k mid))
  more_of zero front here c rest x mid enough fewer less comma e = absurd (omega (arith, enough, fewer))
  more_of (suc n) front here c rest x mid enough fewer less comma e =
      (n, omega (arith, enough, fewer, less), ap (prepend front) (at_next (suc n) here c rest comma ∙ round_of n rest x mid e) ∙ prepend_more front x (behind n mid))

  -- another member
  pub members_more : (start : List TextToken) (front : List A) (here : List TextToken) (c : Node Text) (rest : List TextToken) (x : A) (mid : List TextToken) → Members start front here
      → length rest < length here → length mid < length rest → Some (c, rest) ≡ accepted (a_mark (codes ",")) here → f rest ≡ Ok (x, mid) → Members start (front ++ x ∷ []) mid
  members_more start front here c rest x mid r fewer less comma e =
      let k = more_of r.count front here c rest x mid r.enough fewer less comma e in
      record { count = k.0; enough = k.1; is = r.is ∙ k.2 }

  -- a comma and no member
  none_of : (n : ℕ) (front : List A) (here : List TextToken) (c : Node Text) (rest : List TextToken) (left : ℕ) → length here ≤ n → length rest < length here
      → Some (c, rest) ≡ accepted (a_mark (codes ",")) here → f rest ≡ Err left → prepend front (behind n here) ≡ Err left
  none_of zero front here c rest left enough fewer comma e = absurd (omega (arith, enough, fewer))
  none_of (suc n) front here c rest left enough fewer comma e =
      let fault : rounds (comma_round f) (suc n) rest ≡ Err left = rw e refl in
      ap (prepend front) (at_next (suc n) here c rest comma ∙ fault)

  -- a comma with no member behind it
  pub members_fault : (start : List TextToken) (front : List A) (here : List TextToken) (c : Node Text) (rest : List TextToken) (left : ℕ) → Members start front here
      → length rest < length here → Some (c, rest) ≡ accepted (a_mark (codes ",")) here → f rest ≡ Err left → commas_at f start ≡ Err left
  members_fault start front here c rest left r fewer comma e = r.is ∙ none_of r.count front here c rest left r.enough fewer comma e

  -- no comma
  pub members_end : (start : List TextToken) (front : List A) (here : List TextToken) → Members start front here → None ≡ accepted (a_mark (codes ",")) here → commas_at f start ≡ Ok (front, here)
  members_end start front here r comma =
      let last : behind r.count here ≡ Ok ([], here) = rw (← comma) refl in
      r.is ∙ ap (prepend front) last ∙ ap (λ xs. Ok (xs, here)) (append-nil front)
