-- SPDX-License-Identifier: Apache-2.0
-- Printed text lexes to the tokens of its pieces.
use Rattle.std.proofs.Common.{◌≡◌, ◌+◌, ◌-◌, ℕ, Bool, true, false, List, [], ◌∷◌, ◌++◌, length, get_or, take, drop, codes, Option, Some, None, refl, sym, ap, ap₂, ◌∙◌, arith, append_assoc, subst, inl, inr}
use Rattle.std.proofs.lemmas.Bool.{and_parts, eqb-true}
use Rattle.std.proofs.lemmas.Bool.Decides.{nat_tests}
use Rattle.std.proofs.lemmas.List.{append-nil, drop_at, take_at}
use Rattle.std.proofs.lemmas.Str.{chars-nil}
use Rattle.std.specs.Fmt.{◌++?◌}
use Rattle.std.specs.List.{list_all, starts_with}
use Rattle.std.specs.Prelude.{IsUtf8, slice_get, nat_eq}
use Rattle.cedar_text.specs.Joining.{joined}
use Rattle.cedar_text.specs.Words.{is_word, is_word_byte}
use Rattle.cedar_print.specs.Pieces.{Pieces, word, mark, quoted, name, blank, text_of, quoted_text}
use Rattle.cedar_tokens.proofs.Lexed.{token_at}
use Rattle.cedar_tokens.proofs.Placing.{At, at_next, cut_of, cut_of_token}
use Rattle.cedar_tokens.specs.Forms.{IsPunct}
use Rattle.cedar_tokens.specs.Lexing.{LexesFrom, ended, passed, taken, Lexes}
use Rattle.cedar_tokens.specs.Pieces.{is_mark, piece_at, piece_of_first}
use Rattle.cedar_tokens.specs.Standing.{own_text}
use Rattle.cedar_tokens.specs.declared.piece.Piece.TheVariants as piece
use Rattle.cedar_tokens.specs.declared.token.Token.{Token}
use Rattle.cedar_tokens.specs.declared.token.TokenKind.{TokenKind}
use Rattle.cedar_tokens.specs.declared.token.TokenKind.TheVariants as kind
use Rattle.cedar_print_laws.specs.Apart.{Before, a_word, a_colon, other, behind_mark, Apart, IsBlank, AreWords}
use Rattle.cedar_print_laws.specs.Tokens.{Said, said_word, said_mark, said_text, said_name, tokens_of, says}
use Rattle.cedar_print_laws.proofs.Fronts.{is_blank, blank_front, word_front, colons_front, mark_front, text_front}

-- from a place on the text lexes, and its tokens say this
record LexesTo (text : List ℕ) (at : ℕ) (rest : List ℕ) (said : List Said) : Type 0 where
  tokens : List Token
  lexes : LexesFrom at rest tokens
  say : says text tokens ≡ said

-- the same, wherever the rest stands
abbrev GoesOn : List ℕ → List ℕ → List Said → Type 0
GoesOn text rest said = (at : ℕ) → At text at rest → LexesTo text at rest said

nothing_stands : piece_at [] ≡ piece.End
unfolding piece_at
nothing_stands = ap (λ (cs : List ℕ). piece_of_first (slice_get cs 0) []) chars-nil

module _ (text : List ℕ) where
  at_the_end : GoesOn text [] []
  at_the_end at w = record { tokens = []; lexes = ended nothing_stands; say = refl }

  -- a token and what stands behind it
  behind_token : (k : TokenKind) (front rest : List ℕ) (said : List Said) → (IsUtf8 (front ++ rest) → piece_at (front ++ rest) ≡ piece.Token k (length front)) → GoesOn text rest said
      → GoesOn text (front ++ rest) ((k, front) ∷ said)
  behind_token k front rest said stands more at w =
      let e = stands w.utf8 in
      let behind : drop (length front) (front ++ rest) ≡ rest = drop_at front rest (length front) refl in
      let next = more (at + length front) (subst (λ (r : List ℕ). At text (at + length front) r) behind (at_next text at (front ++ rest) (length front) w (cut_of_token (front ++ rest) k (length front) w.utf8 e))) in
      let len : at + length front - at ≡ length front = omega arith in
      let own : own_text text (token_at k at (length front)) ≡ front = rw len (ap (take (length front)) (sym w.is) ∙ take_at front rest (length front) refl) in
      record {
        tokens = token_at k at (length front) ∷ next.tokens;
        lexes = taken e (subst (λ (r : List ℕ). LexesFrom (at + length front) r next.tokens) (sym behind) next.lexes);
        say = ap₂ (λ (own : List ℕ) (others : List Said). (k, own) ∷ others) own next.say;
      }

  behind_blank : (c : ℕ) (rest : List ℕ) (said : List Said) → is_blank c ≡ true → GoesOn text rest said → GoesOn text (c ∷ rest) said
  behind_blank c rest said t more at w =
      let e = blank_front c rest t w.utf8 in
      let next = more (at + 1) (at_next text at (c ∷ rest) 1 w (cut_of (c ∷ rest) 1 w.utf8 e)) in
      record { tokens = next.tokens; lexes = passed e next.lexes; say = next.say }

  behind_blanks : (bs rest : List ℕ) (said : List Said) → list_all is_blank bs ≡ true → GoesOn text rest said → GoesOn text (bs ++ rest) said
  behind_blanks [] rest said t more = more
  behind_blanks (b ∷ bs) rest said t more =
      let parts = and_parts (is_blank b) (list_all is_blank bs) t in
      behind_blank b (bs ++ rest) said parts.0 (behind_blanks bs rest said parts.1 more)

  behind_word : (w rest : List ℕ) (said : List Said) → is_word w ≡ true → is_word_byte (get_or rest 0 0) ≡ false → GoesOn text rest said → GoesOn text (w ++ rest) (said_word w ∷ said)
  behind_word w rest said t stop more = behind_token kind.Word w rest said (word_front w rest t stop) more

  behind_colons : (rest : List ℕ) (said : List Said) → GoesOn text rest said → GoesOn text (codes "::" ++ rest) (said_mark (codes "::") ∷ said)
  behind_colons rest said more = behind_token kind.Punct (codes "::") rest said (colons_front rest) more

  -- words with `::` between them
  behind_words : (w : List ℕ) (ws : List (List ℕ)) (rest : List ℕ) (said : List Said) → list_all is_word (w ∷ ws) ≡ true → is_word_byte (get_or rest 0 0) ≡ false → GoesOn text rest said
      → GoesOn text (joined (w ∷ ws) ++ rest) (said_name (w ∷ ws) ++ said)
  behind_words w [] rest said t stop more =
      let parts = and_parts (is_word w) true t in
      subst (λ (r : List ℕ). GoesOn text (r ++ rest) (said_word w ∷ said)) (sym (append-nil w)) (behind_word w rest said parts.0 stop more)
  behind_words w (v ∷ vs) rest said t stop more =
      let parts = and_parts (is_word w) (list_all is_word (v ∷ vs)) t in
      let others = behind_words v vs rest said parts.1 stop more in
      let tail = joined (v ∷ vs) ++ rest in
      subst (λ (r : List ℕ). GoesOn text r (said_name (w ∷ v ∷ vs) ++ said)) (sym (append_assoc w (codes "::" ++ joined (v ∷ vs)) rest))
      (behind_word w (codes "::" ++ tail) (said_mark (codes "::") ∷ (said_name (v ∷ vs) ++ said)) parts.0 refl (behind_colons tail (said_name (v ∷ vs) ++ said) others))

-- ---- what the first piece begins with

-- a text before others
then_is : (front : List ℕ) (o : Option (List ℕ)) (whole : List ℕ) → Some front ++? o ≡ Some whole → (more : List ℕ) × (o ≡ Some more) × (whole ≡ front ++ more)
then_is front None whole e = cc
then_is front (Some more) whole e = (more, refl, cc)

mark_is_no_word : (c : ℕ) → is_mark c ≡ true → is_word_byte c ≡ false
mark_is_no_word c t = grind (arith, nat_tests, t)

blank_is_no_word : (c : ℕ) → is_blank c ≡ true → is_word_byte c ≡ false
blank_is_no_word c t = grind (arith, nat_tests, t)

blank_is_no_colon : (c : ℕ) → is_blank c ≡ true → nat_eq 58 c ≡ false
blank_is_no_colon c t = grind (arith, nat_tests, t)

-- the first byte of blanks passes what each blank passes
first_blank : (f : ℕ → Bool) → ((c : ℕ) → is_blank c ≡ true → f c ≡ false) → (bs more : List ℕ) → IsBlank bs → f (get_or (bs ++ more) 0 0) ≡ false
first_blank f fails [] more are = absurd (are.0 refl)
first_blank f fails (b ∷ bs) more are = fails b (and_parts (is_blank b) (list_all is_blank bs) are.1).0

module _ {N : Type 0} (shown : N → Option (List ℕ)) (words : N → List (List ℕ)) where
  no_word_stands : (ps : Pieces N) (rest : List ℕ) → text_of shown ps ≡ Some rest → Apart words a_word ps → is_word_byte (get_or rest 0 0) ≡ false
  no_word_stands [] rest is apart = let none : rest ≡ [] = cc in ap (λ (r : List ℕ). is_word_byte (get_or r 0 0)) none
  no_word_stands (word w ∷ ps) rest is apart = absurd apart.0
  no_word_stands (name n ∷ ps) rest is apart = absurd apart.0
  no_word_stands (mark m ∷ ps) rest is apart =
      let w = then_is m (text_of shown ps) rest is in
      ap (λ (r : List ℕ). is_word_byte (get_or r 0 0)) w.2 ∙ by_form m w.0 apart.1
    where
      by_form : (m more : List ℕ) → IsPunct m → is_word_byte (get_or (m ++ more) 0 0) ≡ false
      by_form m more (inl two) = ap (λ (l : List ℕ). is_word_byte (get_or (l ++ more) 0 0)) two
      by_form m more (inr one) = ap (λ (l : List ℕ). is_word_byte (get_or (l ++ more) 0 0)) one.1 ∙ mark_is_no_word one.0 one.2
  no_word_stands (quoted t ∷ ps) rest is apart =
      let w = then_is (quoted_text t) (text_of shown ps) rest is in
      ap (λ (r : List ℕ). is_word_byte (get_or r 0 0)) w.2
  no_word_stands (blank b ∷ ps) rest is apart =
      let w = then_is b (text_of shown ps) rest is in
      ap (λ (r : List ℕ). is_word_byte (get_or r 0 0)) w.2 ∙ first_blank is_word_byte blank_is_no_word b w.0 apart.0

  no_colon_stands : (ps : Pieces N) (rest : List ℕ) → text_of shown ps ≡ Some rest → Apart words a_colon ps → nat_eq 58 (get_or rest 0 0) ≡ false
  no_colon_stands [] rest is apart = let none : rest ≡ [] = cc in ap (λ (r : List ℕ). nat_eq 58 (get_or r 0 0)) none
  no_colon_stands (word w ∷ ps) rest is apart = absurd apart.0
  no_colon_stands (name n ∷ ps) rest is apart = absurd apart.0
  no_colon_stands (mark m ∷ ps) rest is apart = absurd apart.0
  no_colon_stands (quoted t ∷ ps) rest is apart = absurd apart.0
  no_colon_stands (blank b ∷ ps) rest is apart =
      let w = then_is b (text_of shown ps) rest is in
      ap (λ (r : List ℕ). nat_eq 58 (get_or r 0 0)) w.2 ∙ first_blank (nat_eq 58) blank_is_no_colon b w.0 apart.0

-- a mark is no colon, or no colon follows it
not_two : (c : ℕ) (rest : List ℕ) → ((c ≡ 58) → nat_eq 58 (get_or rest 0 0) ≡ false) → starts_with nat_eq (c ∷ rest) (codes "::") ≡ false
not_two c rest alone = by_byte (nat_eq 58 c) refl
  where
    second : (rest : List ℕ) → nat_eq 58 (get_or rest 0 0) ≡ false → starts_with nat_eq rest (codes ":") ≡ false
    second [] t = refl
    second (r ∷ rest) t = rw t refl

    by_byte : (t : Bool) → nat_eq 58 c ≡ t → starts_with nat_eq (c ∷ rest) (codes "::") ≡ false
    by_byte true e = rw e (second rest (alone (sym (eqb-true 58 c e))))
    by_byte false e = rw e refl

-- ---- the pieces

module _ {N : Type 0} (shown : N → Option (List ℕ)) (words : N → List (List ℕ)) (named : (n : N) → shown n ≡ Some (joined (words n))) (text : List ℕ) where
  behind_mark_piece : (m : List ℕ) (ps : Pieces N) (rest : List ℕ) → text_of shown ps ≡ Some rest → IsPunct m → Apart words (behind_mark m) ps → GoesOn text rest (tokens_of words ps)
      → GoesOn text (m ++ rest) (said_mark m ∷ tokens_of words ps)
  behind_mark_piece m ps rest is (inl two) apart more =
      subst (λ (l : List ℕ). GoesOn text (l ++ rest) (said_mark l ∷ tokens_of words ps)) (sym two) (behind_colons text rest (tokens_of words ps) more)
  behind_mark_piece m ps rest is (inr (c, one, t)) apart more =
      subst (λ (l : List ℕ). GoesOn text (l ++ rest) (said_mark l ∷ tokens_of words ps)) (sym one)
      (behind_token text kind.Punct (c ∷ []) rest (tokens_of words ps) (λ u. mark_front c rest t (not_two c rest alone) u) more)
    where
      alone : c ≡ 58 → nat_eq 58 (get_or rest 0 0) ≡ false
      alone colon = no_colon_stands shown words ps rest is (subst (λ (l : List ℕ). Apart words (behind_mark l) ps) (one ∙ ap (λ (b : ℕ). b ∷ []) colon) apart)

  behind_name : (ws : List (List ℕ)) (rest : List ℕ) (said : List Said) → AreWords ws → is_word_byte (get_or rest 0 0) ≡ false → GoesOn text rest said
      → GoesOn text (joined ws ++ rest) (said_name ws ++ said)
  behind_name [] rest said are stop more = absurd (are.0 refl)
  behind_name (w ∷ ws) rest said are stop more = behind_words text w ws rest said are.1 stop more

  pieces_lex : (ps : Pieces N) (before : Before) (rest : List ℕ) → text_of shown ps ≡ Some rest → Apart words before ps → GoesOn text rest (tokens_of words ps)
  pieces_lex [] before rest is apart =
      let none : rest ≡ [] = cc in
      subst (λ (r : List ℕ). GoesOn text r []) (sym none) (at_the_end text)
  pieces_lex (word t ∷ ps) before rest is apart =
      let w = then_is t (text_of shown ps) rest is in
      subst (λ (r : List ℕ). GoesOn text r (said_word t ∷ tokens_of words ps)) (sym w.2)
      (behind_word text t w.0 (tokens_of words ps) apart.1 (no_word_stands shown words ps w.0 w.1 apart.2) (pieces_lex ps a_word w.0 w.1 apart.2))
  pieces_lex (mark m ∷ ps) before rest is apart =
      let w = then_is m (text_of shown ps) rest is in
      subst (λ (r : List ℕ). GoesOn text r (said_mark m ∷ tokens_of words ps)) (sym w.2)
      (behind_mark_piece m ps w.0 w.1 apart.1 apart.2 (pieces_lex ps (behind_mark m) w.0 w.1 apart.2))
  pieces_lex (quoted t ∷ ps) before rest is apart =
      let w = then_is (quoted_text t) (text_of shown ps) rest is in
      subst (λ (r : List ℕ). GoesOn text r (said_text t ∷ tokens_of words ps)) (sym w.2)
      (behind_token text kind.Str (quoted_text t) w.0 (tokens_of words ps) (λ u. text_front t w.0 u) (pieces_lex ps other w.0 w.1 apart.1))
  pieces_lex (name n ∷ ps) before rest is apart =
      let w = then_is (joined (words n)) (text_of shown ps) rest (ap (λ (o : Option (List ℕ)). o ++? text_of shown ps) (sym (named n)) ∙ is) in
      subst (λ (r : List ℕ). GoesOn text r (said_name (words n) ++ tokens_of words ps)) (sym w.2)
      (behind_name (words n) w.0 (tokens_of words ps) apart.1 (no_word_stands shown words ps w.0 w.1 apart.2) (pieces_lex ps a_word w.0 w.1 apart.2))
  pieces_lex (blank b ∷ ps) before rest is apart =
      let w = then_is b (text_of shown ps) rest is in
      subst (λ (r : List ℕ). GoesOn text r (tokens_of words ps)) (sym w.2)
      (behind_blanks text b w.0 (tokens_of words ps) apart.0.1 (pieces_lex ps other w.0 w.1 apart.1))

-- the whole text lexes to the tokens of its pieces
pub printed_lexes : {N : Type 0} (shown : N → Option (List ℕ)) (words : N → List (List ℕ)) → ((n : N) → shown n ≡ Some (joined (words n)))
    → (ps : Pieces N) (text : List ℕ) → text_of shown ps ≡ Some text → IsUtf8 text → Apart words other ps
    → (ts : List Token) × Lexes text ts × (says text ts ≡ tokens_of words ps)
printed_lexes shown words named ps text is u apart =
    let w = pieces_lex shown words named text ps other text is apart 0 (record { within = omega arith; is = refl; utf8 = u }) in
    (w.tokens, w.lexes, w.say)
