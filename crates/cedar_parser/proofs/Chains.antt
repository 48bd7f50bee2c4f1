-- SPDX-License-Identifier: Apache-2.0
-- The loops over paths and references.
use Rattle.std.proofs.Common.{◌≡◌, ℕ, ◌<◌, List, [], ◌∷◌, ◌++◌, length, codes, Some, None, Ok, Err, sym, ap, ◌∙◌, refl}
use Rattle.std.proofs.lemmas.List.{append-nil, map-append}
use Rattle.cedar_tokens.specs.Lexemes.{TextToken}
use Rattle.cedar_grammar.specs.Grammar.{path_of, last_of, literal_value, qualified}
use Rattle.cedar_grammar.specs.Reading.{accepted, expect, a_mark, an_ident, looped, path_round, id_round, path_behind}
use Rattle.cedar_tree.specs.Trees.{Node, Text, Path}
use Rattle.cedar_parser.specs.Longer.{longer, qualified_at}
use Rattle.cedar_parser.proofs.Loops.{Reached, reached_start, reached_end, reached_more, put_first, put_closed, puts_nothing_first, puts_more_first, puts_nothing_closed, puts_more_closed}

-- the last of identifiers with another behind
last_of-more : (n m : Node Text) (front : List (Node Text)) → last_of n (front ++ m ∷ []) ≡ m
last_of-more n m [] = refl
last_of-more n m (k ∷ front) = last_of-more k m front

-- the path of one identifier more
path_of-more : (n m : Node Text) (front : List (Node Text)) → path_of n (front ++ m ∷ []) ≡ longer (path_of n front) m
path_of-more n m front = rw (last_of-more n m front, map-append (λ (k : Node Text). k.node) front (m ∷ [])) refl

-- the path so far, and what the tokens that are left read to
pub record PathReached (n : Node Text) (start : List TextToken) (path : Path) (here : List TextToken) : Type 0 where
  pub front : List (Node Text)
  pub words : path ≡ path_of n front
  pub is : Reached put_first path_round start front here

module _ (n : Node Text) (start : List TextToken) where
  -- an identifier alone
  pub path_start : PathReached n start (path_of n []) start
  path_start = record { front = []; words = refl; is = reached_start put_first puts_nothing_first path_round start }

  -- another identifier behind a `::`
  pub path_more : (path : Path) (here : List TextToken) (c : Node Text) (rest : List TextToken) (m : Node Text) (left : List TextToken) → PathReached n start path here → length left < length here
      → Some (c, rest) ≡ accepted (a_mark (codes "::")) here → expect an_ident rest ≡ Ok (m, left) → PathReached n start (longer path m) left
  path_more path here c rest m left r fewer colons ident = record {
    front = r.front ++ m ∷ [];
    words = ap (λ (p : Path). longer p m) r.words ∙ sym (path_of-more n m r.front);
    is = reached_more put_first puts_more_first path_round start r.front here m left r.is fewer (λ again. rw (← colons, ident) refl);
  }

  -- a `::` with no identifier behind it
  pub path_fault : (path : Path) (here : List TextToken) (c : Node Text) (rest : List TextToken) (left : ℕ) → PathReached n start path here
      → Some (c, rest) ≡ accepted (a_mark (codes "::")) here → expect an_ident rest ≡ Err left → path_behind n start ≡ Err left
  unfolding path_behind
  path_fault path here c rest left r colons ident =
      let e : looped path_round start ≡ Err left = reached_end put_first path_round start r.front here (Err left) r.is (λ again. rw (← colons, ident) refl) in
      rw e refl

  -- no `::`
  pub path_end : (path : Path) (here : List TextToken) → PathReached n start path here → None ≡ accepted (a_mark (codes "::")) here → path_behind n start ≡ Ok (path, here)
  unfolding path_behind
  path_end path here r colons =
      let e : looped path_round start ≡ Ok (r.front ++ [], here) = reached_end put_first path_round start r.front here (Ok ([], here)) r.is (λ again. rw (← colons) refl) in
      rw (e, append-nil r.front, r.words) refl

-- the path so far of a reference, and what the tokens that are left read to
pub record ReferenceReached (n : Node Text) (start : List TextToken) (path : Path) (here : List TextToken) : Type 0 where
  pub front : List (Node Text)
  pub words : path ≡ path_of n front
  pub is : Reached (put_closed {C = Node Text}) id_round start front here

module _ (n : Node Text) (start : List TextToken) where
  -- an identifier alone
  pub reference_start : ReferenceReached n start (path_of n []) start
  reference_start = record { front = []; words = refl; is = reached_start put_closed puts_nothing_closed id_round start }

  -- another identifier, and a `::`
  pub reference_more : (path : Path) (here : List TextToken) (m : Node Text) (mid : List TextToken) (c : Node Text) (left : List TextToken) → ReferenceReached n start path here → length left < length here
      → None ≡ accepted literal_value here → expect an_ident here ≡ Ok (m, mid) → expect (a_mark (codes "::")) mid ≡ Ok (c, left) → ReferenceReached n start (longer path m) left
  reference_more path here m mid c left r fewer literal ident colons = record {
    front = r.front ++ m ∷ [];
    words = ap (λ (p : Path). longer p m) r.words ∙ sym (path_of-more n m r.front);
    is = reached_more put_closed puts_more_closed id_round start r.front here m left r.is fewer (λ again. rw (← literal, ident, colons) refl);
  }

  -- no literal and no identifier
  pub reference_fault : (path : Path) (here : List TextToken) (left : ℕ) → ReferenceReached n start path here → None ≡ accepted literal_value here → expect an_ident here ≡ Err left → qualified_at n start ≡ Err left
  reference_fault path here left r literal ident =
      let e : looped id_round start ≡ Err left = reached_end put_closed id_round start r.front here (Err left) r.is (λ again. rw (← literal, ident) refl) in
      rw e refl

  -- an identifier with no `::` behind it
  pub reference_unclosed : (path : Path) (here : List TextToken) (m : Node Text) (mid : List TextToken) (left : ℕ) → ReferenceReached n start path here
      → None ≡ accepted literal_value here → expect an_ident here ≡ Ok (m, mid) → expect (a_mark (codes "::")) mid ≡ Err left → qualified_at n start ≡ Err left
  reference_unclosed path here m mid left r literal ident colons =
      let e : looped id_round start ≡ Err left = reached_end put_closed id_round start r.front here (Err left) r.is (λ again. rw (← literal, ident, colons) refl) in
      rw e refl

  -- the literal
  pub reference_end : (path : Path) (here : List TextToken) (id : Node Text) (left : List TextToken) → ReferenceReached n start path here → Some (id, left) ≡ accepted literal_value here
      → qualified_at n start ≡ Ok (qualified (Some path) id path.loc, left)
  reference_end path here id left r literal =
      let e : looped id_round start ≡ Ok ((r.front ++ [], id), left) = reached_end put_closed id_round start r.front here (Ok (([], id), left)) r.is (λ again. rw (← literal) refl) in
      rw (e, append-nil r.front, r.words) refl
