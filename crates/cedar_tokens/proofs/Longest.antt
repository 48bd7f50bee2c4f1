-- SPDX-License-Identifier: Apache-2.0
-- No front of a text that has the form of a token is longer than the token that stands there.
use Rattle.std.proofs.Common.{◌≡◌, ℕ, zero, suc, ◌+◌, ◌<◌, ◌≤◌, ◌==◌, Bool, true, false, List, [], ◌∷◌, ◌++◌, length, get_or, take, drop, Some, refl, sym, ap, ◌∙◌, arith, lit<, add-one, length-append, append_assoc, inl, inr, subst}
use Rattle.std.proofs.Math.Seq.{get_or-append_seam}
use Rattle.std.specs.Prelude.{IsUtf8, IsCharBoundary, encode_utf8, if◌then◌else◌, nat_eq, codes, chars, encode_utf8_all, slice_get}
use Rattle.std.specs.List.{prefix_len, starts_with, list_all}
use Rattle.std.specs.Char.{is_whitespace}
use Rattle.std.proofs.lemmas.Str.{IsUtf8-drop, IsCharBoundary-after_ascii, char_from_byte, encode_ascii, encodes-chars, encodes-append, encodes_same}
use Rattle.std.proofs.lemmas.List.{length-take-le, take-append-drop}
use Rattle.std.proofs.lemmas.List.Folds.{length-prefix_len}
use Rattle.std.proofs.lemmas.Bool.{false≢true, and_parts}
use Rattle.std.proofs.lemmas.Bool.Decides.{nat_tests}
use Rattle.cedar_text.specs.Words.{is_word, is_word_start, is_word_byte}
use Rattle.cedar_tokens.specs.Literals.{closed_len, IsLiteral}
use Rattle.cedar_tokens.specs.Pieces.{is_mark, piece_from, piece_of_first, piece_at, CutsAt}
use Rattle.cedar_tokens.specs.Forms.{HasForm, IsFront, TellsFronts}
use Rattle.cedar_tokens.specs.declared.piece.Piece.{Piece}
use Rattle.cedar_tokens.specs.declared.piece.Piece.TheVariants as piece
use Rattle.cedar_tokens.specs.declared.token.TokenKind.{TokenKind}
use Rattle.cedar_tokens.specs.declared.token.TokenKind.TheVariants as kind
use Rattle.cedar_tokens.proofs.Closing.{items_closed}
use Rattle.cedar_tokens.proofs.Cuts.{word_start_is_byte, word_byte_is_ascii, mark_is_ascii, some_bytes, piece_cuts}
use Rattle.cedar_tokens.proofs.Forms.{Formed, piece_formed}

-- the piece is a token of that many bytes or more
abbrev Covers : Piece → ℕ → Type 0
Covers (piece.Token k n) m = m ≤ n
Covers _ m = ⊥

-- what the first characters of the kinds aren't
start_is_no_blank : (c : ℕ) → is_word_start c ≡ true → is_whitespace c ≡ false
start_is_no_blank c t = grind (arith, nat_tests, t)

mark_is_no_blank : (c : ℕ) → is_mark c ≡ true → is_whitespace c ≡ false
mark_is_no_blank c t = grind (arith, nat_tests, t)

mark_is_no_start : (c : ℕ) → is_mark c ≡ true → is_word_start c ≡ false
mark_is_no_start c t = grind (arith, nat_tests, t)

mark_is_no_quote : (c : ℕ) → is_mark c ≡ true → (c == 34) ≡ false
mark_is_no_quote c t = grind (arith, nat_tests, t)

mark_is_no_slash : (c : ℕ) → is_mark c ≡ true → nat_eq 47 c ≡ false
mark_is_no_slash c t = grind (arith, nat_tests, t)

mark_begins_no_comment : (c : ℕ) (cs : List ℕ) → is_mark c ≡ true → starts_with nat_eq (c ∷ cs) (codes "//") ≡ false
mark_begins_no_comment c cs t = rw (mark_is_no_slash c t) refl

passing_front : (p : ℕ → Bool) (xs : List ℕ) (m : ℕ) → m ≤ length xs → list_all p (take m xs) ≡ true → m ≤ prefix_len p xs
passing_front p xs zero le t = omega arith
passing_front p [] (suc m) le t = absurd (omega (arith, le))
passing_front p (x ∷ xs) (suc m) le t =
    let parts = and_parts (p x) (list_all p (take m xs)) t in
    let more = passing_front p xs m (omega (arith, le)) parts.1 in
    let one : prefix_len p (x ∷ xs) ≡ 1 + prefix_len p xs = rw parts.0 refl in
    omega (arith, more, one)

-- a front that is a word
record WordFront (bs : List ℕ) (m : ℕ) : Type 0 where
  start : is_word_start (get_or bs 0 0) ≡ true
  len : m ≤ prefix_len is_word_byte bs

word_front : (bs : List ℕ) (m : ℕ) → m ≤ length bs → is_word (take m bs) ≡ true → WordFront bs m
word_front bs zero le t = absurd (false≢true t)
word_front [] (suc m) le t = absurd (false≢true t)
word_front (x ∷ xs) (suc m) le t =
    let parts = and_parts (is_word_start x) (list_all is_word_byte (take m xs)) t in
    let more = passing_front is_word_byte xs m (omega (arith, le)) parts.1 in
    let one : prefix_len is_word_byte (x ∷ xs) ≡ 1 + prefix_len is_word_byte xs = rw (word_start_is_byte x parts.0) refl in
    record { start = parts.0; len = omega (arith, more, one) }

module _ (bs rest : List ℕ) (c : ℕ) (u : IsUtf8 bs) (e : bs ≡ encode_utf8 c ++ rest) where
  first_is : (x : ℕ) → x < 128 → get_or bs 0 0 ≡ x → c ≡ x
  first_is x small is = char_from_byte bs rest c e (omega (arith, is, small)) (some_bytes bs rest c u e) ∙ is

  covers_word : (m : ℕ) → m ≤ length bs → is_word (take m bs) ≡ true → Covers (piece_from c bs) m
  covers_word m le t =
      let w = word_front bs m le t in
      let is : c ≡ get_or bs 0 0 = first_is (get_or bs 0 0) (word_byte_is_ascii (get_or bs 0 0) (word_start_is_byte (get_or bs 0 0) w.start)) refl in
      let start : is_word_start c ≡ true = ap is_word_start is ∙ w.start in
      let blank : is_whitespace c ≡ false = start_is_no_blank c start in
      rw (blank, start) (omega (arith, w.len, length-prefix_len is_word_byte bs))

  covers_literal : (m : ℕ) → m ≤ length bs → IsLiteral (take m bs) → Covers (piece_from c bs) m
  covers_literal m le w =
      let front = encode_utf8_all w.body in
      let after = drop m bs in
      let whole : bs ≡ 34 ∷ (front ++ 34 ∷ after) = sym (take-append-drop m bs) ∙ ap (λ s. s ++ after) w.is ∙ ap (λ s. 34 ∷ s) (append_assoc front (34 ∷ []) after) in
      let size : m ≡ length front + 2 = omega (arith, length-take-le m bs le, ap length w.is, length-append front (34 ∷ [])) in
      let is : c ≡ 34 = first_is 34 (lit< tt) (ap (λ s. get_or s 0 0) whole) in
      let behind : drop 1 bs ≡ front ++ 34 ∷ after = ap (drop 1) whole in
      let quote : get_or bs (length front + 1) 0 ≡ 34 =
      ap (λ s. get_or s (length front + 1) 0) whole ∙ ap (λ k. get_or (34 ∷ (front ++ 34 ∷ after)) k 0) (add-one (length front)) ∙ get_or-append_seam front 34 after 0 in
      let cut : IsCharBoundary bs (length front + 1 + 1) = IsCharBoundary-after_ascii bs (length front + 1) u (omega (arith, size, le)) (omega (arith, quote)) in
      let u_after : IsUtf8 after = IsUtf8-drop bs m u (subst (λ k. IsCharBoundary bs k) (let s : length front + 1 + 1 ≡ m = omega (arith, size) in s) cut) in
      let first : get_or bs 0 0 ≡ 34 = ap (λ s. get_or s 0 0) whole in
      let u_behind : IsUtf8 (drop 1 bs) = IsUtf8-drop bs 1 u (IsCharBoundary-after_ascii bs 0 u (some_bytes bs rest c u e) (omega (arith, first))) in
      let spelled : encode_utf8_all (w.body ++ 34 ∷ chars after) ≡ front ++ 34 ∷ after =
      encodes-append w.body (34 ∷ chars after) ∙ ap (λ q. front ++ (q ++ encode_utf8_all (chars after))) (encode_ascii 34 (lit< tt)) ∙ ap (λ s. front ++ 34 ∷ s) (encodes-chars after u_after) in
      let same : chars (drop 1 bs) ≡ w.body ++ 34 ∷ chars after = encodes_same (chars (drop 1 bs)) (w.body ++ 34 ∷ chars after) (encodes-chars (drop 1 bs) u_behind ∙ behind ∙ sym spelled) in
      let found : closed_len 0 false (chars (drop 1 bs)) ≡ Some (0 + length front + 1) = ap (closed_len 0 false) same ∙ items_closed w.body (chars after) 0 w.items in
      subst (λ x. Covers (piece_from x bs) m) (sym is) (rw found (omega (arith, size)))

  covers_colons : (m : ℕ) → m ≤ length bs → take m bs ≡ codes "::" → Covers (piece_from c bs) m
  covers_colons m le is =
      let whole : bs ≡ 58 ∷ 58 ∷ drop m bs = sym (take-append-drop m bs) ∙ ap (λ s. s ++ drop m bs) is in
      let size : m ≡ 2 = omega (arith, length-take-le m bs le, ap length is) in
      let first : c ≡ 58 = first_is 58 (lit< tt) (ap (λ s. get_or s 0 0) whole) in
      let two : Covers (piece_from 58 (58 ∷ 58 ∷ drop m bs)) m = omega (arith, size) in
      subst (λ x. Covers (piece_from x bs) m) (sym first) (subst (λ s. Covers (piece_from 58 s) m) (sym whole) two)

  covers_mark : (m x : ℕ) → m ≤ length bs → take m bs ≡ x ∷ [] → is_mark x ≡ true → Covers (piece_from c bs) m
  covers_mark m x le is t =
      let whole : bs ≡ x ∷ drop m bs = sym (take-append-drop m bs) ∙ ap (λ s. s ++ drop m bs) is in
      let size : m ≡ 1 = omega (arith, length-take-le m bs le, ap length is) in
      let first : c ≡ x = first_is x (mark_is_ascii x t) (ap (λ s. get_or s 0 0) whole) in
      let mark : is_mark c ≡ true = ap is_mark first ∙ t in
      let blank : is_whitespace c ≡ false = mark_is_no_blank c mark in
      let word : is_word_start c ≡ false = mark_is_no_start c mark in
      let quote : (c == 34) ≡ false = mark_is_no_quote c mark in
      let slashes : starts_with nat_eq bs (codes "//") ≡ false = ap (λ s. starts_with nat_eq s (codes "//")) whole ∙ mark_begins_no_comment x (drop m bs) t in
      rw (blank, word, quote, slashes) (by_colons m size mark (starts_with nat_eq bs (codes "::")))
    where
      by_colons : (m : ℕ) → m ≡ 1 → is_mark c ≡ true → (t : Bool)
          → Covers (if t then piece.Token kind.Punct 2 else (if is_mark c then piece.Token kind.Punct 1 else piece.Stray)) m
      by_colons m size mark true = omega (arith, size)
      by_colons m size mark false = rw mark (omega (arith, size))

  covers : (j : TokenKind) (m : ℕ) → IsFront bs j m → Covers (piece_from c bs) m
  covers kind.Word m f = covers_word m f.within f.form
  covers kind.Str m f = covers_literal m f.within f.form
  covers kind.Punct m f = by_form f.form
    where
      by_form : HasForm kind.Punct (take m bs) → Covers (piece_from c bs) m
      by_form (inl is) = covers_colons m f.within is
      by_form (inr w) = covers_mark m w.0 f.within w.1 w.2

empty_has_no_form : (j : TokenKind) (m : ℕ) → IsFront [] j m → ⊥
empty_has_no_form j zero f = no_form j f.form
  where
    no_form : (j : TokenKind) → HasForm j [] → ⊥
    no_form kind.Word t = false≢true t
    no_form kind.Str w = omega (arith, ap length w.is)
    no_form kind.Punct (inl is) = omega (arith, ap length is)
    no_form kind.Punct (inr w) = omega (arith, ap length w.1)
empty_has_no_form j (suc m) f = omega (arith, f.within)

tells : (bs : List ℕ) (p : Piece) → Formed p bs → CutsAt p bs → ((j : TokenKind) (m : ℕ) → IsFront bs j m → Covers p m) → TellsFronts p bs
tells bs (piece.Token k n) form cut covered = (record { within = cut.1.0; form = form }, covered)
tells bs piece.End form cut covered = covered
tells bs piece.Stray form cut covered = covered
tells bs (piece.Gap n) form cut covered = covered

first_covers : (bs cs : List ℕ) → IsUtf8 bs → encode_utf8_all cs ≡ bs → (j : TokenKind) (m : ℕ) → IsFront bs j m → Covers (piece_of_first (slice_get cs 0) bs) m
first_covers bs [] u e j m f = empty_has_no_form j m (subst (λ s. IsFront s j m) (sym e) f)
first_covers bs (c ∷ cs) u e j m f = covers bs (encode_utf8_all cs) c u (sym e) j m f

piece_covers : (bs : List ℕ) → IsUtf8 bs → (j : TokenKind) (m : ℕ) → IsFront bs j m → Covers (piece_at bs) m
unfolding piece_at
piece_covers bs u j m f = first_covers bs (chars bs) u (encodes-chars bs u) j m f

-- what stands at the front of a text is the longest token that begins there, and else none begins there
pub tells_fronts : (bs : List ℕ) → IsUtf8 bs → TellsFronts (piece_at bs) bs
tells_fronts bs u = tells bs (piece_at bs) (piece_formed bs u) (piece_cuts bs u) (piece_covers bs u)
