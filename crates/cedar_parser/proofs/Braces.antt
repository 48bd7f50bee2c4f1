-- SPDX-License-Identifier: Apache-2.0
-- Lists in braces: the members so far, and what the tokens that are left read to.
use Rattle.std.proofs.Common.{◌≡◌, ℕ, ◌<◌, List, [], ◌∷◌, ◌++◌, length, codes, Some, None, Ok, Err, refl}
use Rattle.cedar_tokens.specs.Lexemes.{TextToken}
use Rattle.cedar_grammar.specs.Reading.{Reader, accepted, expect, a_mark, brace_round, braced_at}
use Rattle.cedar_tree.specs.Trees.{Node, Text}
use Rattle.cedar_parser.proofs.Loops.{Reached, reached_start, reached_end, reached_more, put_closed, puts_nothing_closed, puts_more_closed}

module _ {A : Type 0} (f : Reader A) (start : List TextToken) where
  -- all members are those in front and those of the tokens here
  abbrev pub BraceReached : List A → List TextToken → Type 0
  BraceReached front here = Reached (put_closed {C = Node Text}) (brace_round f) start front here

  -- nothing is read yet
  pub brace_start : BraceReached [] start
  brace_start = reached_start put_closed puts_nothing_closed (brace_round f) start

  module _ (front : List A) (here : List TextToken) (r : BraceReached front here) where
    -- no member stands here
    pub brace_none : (left : ℕ) → f here ≡ Err left → braced_at f start ≡ Err left
    unfolding braced_at
    brace_none left member = reached_end put_closed (brace_round f) start front here (Err left) r (λ again. rw member refl)

    module _ (x : A) (mid : List TextToken) (member : f here ≡ Ok (x, mid)) where
      -- a member, and no comma and no brace
      pub brace_unclosed : (left : ℕ) → None ≡ accepted (a_mark (codes ",")) mid → expect (a_mark (codes "}")) mid ≡ Err left → braced_at f start ≡ Err left
      unfolding braced_at
      brace_unclosed left comma brace = reached_end put_closed (brace_round f) start front here (Err left) r (λ again. rw (member, ← comma, brace) refl)

      -- a member and the brace
      pub brace_last : (closing : Node Text) (rest : List TextToken) → None ≡ accepted (a_mark (codes ",")) mid → expect (a_mark (codes "}")) mid ≡ Ok (closing, rest) → braced_at f start ≡ Ok ((front ++ x ∷ [], closing), rest)
      unfolding braced_at
      brace_last closing rest comma brace = reached_end put_closed (brace_round f) start front here (Ok ((x ∷ [], closing), rest)) r (λ again. rw (member, ← comma, brace) refl)

      module _ (c : Node Text) (left : List TextToken) (comma : Some (c, left) ≡ accepted (a_mark (codes ",")) mid) where
        -- a member, a comma and the brace
        pub brace_trailing : (closing : Node Text) (rest : List TextToken) → Some (closing, rest) ≡ accepted (a_mark (codes "}")) left → braced_at f start ≡ Ok ((front ++ x ∷ [], closing), rest)
        unfolding braced_at
        brace_trailing closing rest brace = reached_end put_closed (brace_round f) start front here (Ok ((x ∷ [], closing), rest)) r (λ again. rw (member, ← comma, ← brace) refl)

        -- a member, a comma and more
        pub brace_more : length left < length here → None ≡ accepted (a_mark (codes "}")) left → BraceReached (front ++ x ∷ []) left
        brace_more fewer brace = reached_more put_closed puts_more_closed (brace_round f) start front here x left r fewer (λ again. rw (member, ← comma, ← brace) refl)
