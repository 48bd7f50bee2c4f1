-- SPDX-License-Identifier: Apache-2.0
-- Where a string literal is closed.
use Rattle.std.proofs.Common.{◌≡◌, ℕ, ◌+◌, ◌<◌, ◌==◌, Bool, true, false, cond, List, [], ◌∷◌, ◌++◌, length, get_or, take, Some, None, refl, sym, ap, ◌∙◌, arith, lit<, length-append, subst}
use Rattle.std.proofs.Math.Seq.{get_or-append_seam, take-append-add}
use Rattle.std.specs.Prelude.{◌↔◌}
use Rattle.std.specs.Str.{IsUtf8, IsCharBoundary, chars, encode_utf8_all}
use Rattle.std.specs.Char.{encode_utf8}
use Rattle.std.proofs.lemmas.Bool.{eqb-true, eqb-false, ne_eqb}
use Rattle.std.proofs.lemmas.List.{nil_from_length}
use Rattle.std.proofs.lemmas.Str.{chars-nil, chars_past_char, encodes-chars, encodes-append, encode_ascii, IsCharBoundary-after_ascii}
use Rattle.cedar_tokens.specs.Literals.{AreItems, no_item, plain_item, escaped_item, Closes, IsLiteral, closed_len}

-- one character of a literal, which takes n bytes, and the rest behind it
module _ (bs rest : List ℕ) (c len n : ℕ) (u : IsUtf8 bs) (e : bs ≡ encode_utf8 c ++ rest) (takes : n ≡ length (encode_utf8 c)) where
  by_first : (escaped : Bool) → closed_len len escaped (chars bs) ≡ closed_len len escaped (c ∷ chars rest)
  by_first escaped = ap (closed_len len escaped) (chars_past_char bs rest c u e)

  pub at_line_feed : (escaped : Bool) → escaped ≡ true → (c == 10) ≡ true → closed_len len escaped (chars bs) ≡ None
  at_line_feed escaped is t = ap (λ b. closed_len len b (chars bs)) is ∙ by_first true ∙ rw t refl

  pub at_quote : (escaped : Bool) → escaped ≡ false → (c == 34) ≡ true → closed_len len escaped (chars bs) ≡ Some (len + 1)
  at_quote escaped is t = ap (λ b. closed_len len b (chars bs)) is ∙ by_first false ∙ rw t refl

  pub past_escaped : (escaped : Bool) → escaped ≡ true → (c == 10) ≡ false → closed_len len escaped (chars bs) ≡ closed_len (len + n) false (chars rest)
  past_escaped escaped is t = ap (λ b. closed_len len b (chars bs)) is ∙ by_first true ∙ rw (t, takes) refl

  pub past_plain : (escaped : Bool) → escaped ≡ false → (c == 34) ≡ false → closed_len len escaped (chars bs) ≡ closed_len (len + n) (c == 92) (chars rest)
  past_plain escaped is t = ap (λ b. closed_len len b (chars bs)) is ∙ by_first false ∙ rw (t, takes) refl

  pub length_past : length bs ≡ n + length rest
  length_past = ap length e ∙ length-append (encode_utf8 c) rest ∙ ap (λ m. m + length rest) (sym takes)

pub at_end : (bs : List ℕ) (len : ℕ) (escaped : Bool) → length bs ≡ 0 → closed_len len escaped (chars bs) ≡ None
at_end bs len escaped none = ap (λ xs. closed_len len escaped (chars xs)) (nil_from_length bs none) ∙ ap (closed_len len escaped) chars-nil

-- items, or items whose first character is behind a backslash that stands before them
abbrev OpenItems : Bool → List ℕ → Type 0
OpenItems true body = AreItems (92 ∷ body)
OpenItems false body = AreItems body

-- items and a quote, which end behind n bytes, so many of which came before
record Found (cs : List ℕ) (len : ℕ) (open_escape : Bool) (n : ℕ) : Type 0 where
  body : List ℕ
  rest : List ℕ
  items : OpenItems open_escape body
  is : cs ≡ body ++ 34 ∷ rest
  end : n ≡ len + length (encode_utf8_all body) + 1

front_items : (c : ℕ) (body : List ℕ) (t : Bool) → (c == 92) ≡ t → (c == 34) ≡ false → OpenItems t body → AreItems (c ∷ body)
front_items c body true back quote items = subst (λ b. AreItems (b ∷ body)) (sym (eqb-true c 92 back)) items
front_items c body false back quote items = plain_item (eqb-false c 34 quote) (eqb-false c 92 back) items

found_from : (cs : List ℕ) (len : ℕ) (open_escape : Bool) (n : ℕ) → closed_len len open_escape cs ≡ Some n → Found cs len open_escape n
found_from [] len open_escape n e = absurd (cc)
found_from (c ∷ cs) len true n e = by_line_feed (found_from cs (len + length (encode_utf8 c)) false n) (c == 10) refl e
  where
    by_line_feed : (closed_len (len + length (encode_utf8 c)) false cs ≡ Some n → Found cs (len + length (encode_utf8 c)) false n)
        → (t : Bool) → (c == 10) ≡ t → cond t None (closed_len (len + length (encode_utf8 c)) false cs) ≡ Some n → Found (c ∷ cs) len true n
    by_line_feed more true here is = absurd (cc)
    by_line_feed more false here is =
        let w = more is in
        record {
          body = c ∷ w.body;
          rest = w.rest;
          items = escaped_item (eqb-false c 10 here) w.items;
          is = ap (λ xs. c ∷ xs) w.is;
          end = omega (arith, w.end, length-append (encode_utf8 c) (encode_utf8_all w.body));
        }
found_from (c ∷ cs) len false n e = by_quote (found_from cs (len + length (encode_utf8 c)) (c == 92) n) (c == 34) refl e
  where
    by_quote : (closed_len (len + length (encode_utf8 c)) (c == 92) cs ≡ Some n → Found cs (len + length (encode_utf8 c)) (c == 92) n)
        → (t : Bool) → (c == 34) ≡ t → cond t (Some (len + 1)) (closed_len (len + length (encode_utf8 c)) (c == 92) cs) ≡ Some n → Found (c ∷ cs) len false n
    by_quote more true here is =
        let same : len + 1 ≡ n = cc in
        record { body = []; rest = cs; items = no_item; is = ap (λ b. b ∷ cs) (eqb-true c 34 here); end = omega (arith, same) }
    by_quote more false here is =
        let w = more is in
        record {
          body = c ∷ w.body;
          rest = w.rest;
          items = front_items c w.body (c == 92) refl here w.items;
          is = ap (λ xs. c ∷ xs) w.is;
          end = omega (arith, w.end, length-append (encode_utf8 c) (encode_utf8_all w.body));
        }

pub items_closed : (body rest : List ℕ) (len : ℕ) → AreItems body → closed_len len false (body ++ 34 ∷ rest) ≡ Some (len + length (encode_utf8_all body) + 1)
items_closed _ rest len no_item = ap Some (omega arith)
items_closed _ rest len (plain_item {c = c} {cs = cs} q b items) =
    let quote : (c == 34) ≡ false = ne_eqb c 34 q in
    let back : (c == 92) ≡ false = ne_eqb c 92 b in
    let more = items_closed cs rest (len + length (encode_utf8 c)) items in
    let end : len + length (encode_utf8 c) + length (encode_utf8_all cs) + 1 ≡ len + length (encode_utf8_all (c ∷ cs)) + 1 = omega (arith, length-append (encode_utf8 c) (encode_utf8_all cs)) in
    rw (quote, back) (more ∙ ap Some end)
items_closed _ rest len (escaped_item {c = c} {cs = cs} l items) =
    let line_feed : (c == 10) ≡ false = ne_eqb c 10 l in
    let more = items_closed cs rest (len + length (encode_utf8 92) + length (encode_utf8 c)) items in
    let end : len + length (encode_utf8 92) + length (encode_utf8 c) + length (encode_utf8_all cs) + 1 ≡ len + length (encode_utf8_all (92 ∷ c ∷ cs)) + 1 =
    omega (arith, length-append (encode_utf8 92) (encode_utf8_all (c ∷ cs)), length-append (encode_utf8 c) (encode_utf8_all cs)) in
    rw line_feed (more ∙ ap Some end)

closes_from : (cs : List ℕ) (n : ℕ) → closed_len 0 false cs ≡ Some n → Closes cs n
closes_from cs n e =
    let w = found_from cs 0 false n e in
    record { body = w.body; rest = w.rest; items = w.items; is = w.is; len = omega (arith, w.end) }

closed_from : (cs : List ℕ) (n : ℕ) → Closes cs n → closed_len 0 false cs ≡ Some n
closed_from cs n w = ap (closed_len 0 false) w.is ∙ items_closed w.body w.rest 0 w.items ∙ ap Some (omega (arith, w.len))

-- what is found from the left is the length of items and a quote
pub closes_exactly : (cs : List ℕ) (n : ℕ) → (closed_len 0 false cs ≡ Some n) ↔ Closes cs n
closes_exactly cs n = (closes_from cs n, closed_from cs n)

-- the bytes behind the quote that opens a literal
pub record Behind (bs : List ℕ) (n : ℕ) : Type 0 where
  pub body : List ℕ
  pub after : List ℕ
  pub items : AreItems body
  pub is : bs ≡ encode_utf8_all body ++ 34 ∷ after
  pub len : n ≡ length (encode_utf8_all body) + 1

pub behind_quote : (bs : List ℕ) (n : ℕ) → IsUtf8 bs → closed_len 0 false (chars bs) ≡ Some n → Behind bs n
behind_quote bs n u e =
    let w = closes_from (chars bs) n e in
    record {
      body = w.body;
      after = encode_utf8_all w.rest;
      items = w.items;
      is = sym (encodes-chars bs u) ∙ ap encode_utf8_all w.is ∙ encodes-append w.body (34 ∷ w.rest) ∙ ap (λ q. encode_utf8_all w.body ++ (q ++ encode_utf8_all w.rest)) (encode_ascii 34 (lit< tt));
      len = w.len;
    }

-- a text may be cut behind a literal of it that is closed
pub cut_behind_literal : (bs : List ℕ) (n : ℕ) → IsUtf8 bs → closed_len 0 false (chars bs) ≡ Some n → IsCharBoundary bs n
cut_behind_literal bs n u e =
    let w = behind_quote bs n u e in
    let front = encode_utf8_all w.body in
    let within : length front < length bs = omega (arith, ap length w.is, length-append front (34 ∷ w.after)) in
    let quote : get_or bs (length front) 0 ≡ 34 = ap (λ xs. get_or xs (length front) 0) w.is ∙ get_or-append_seam front 34 w.after 0 in
    subst (λ m. IsCharBoundary bs m) (sym w.len) (IsCharBoundary-after_ascii bs (length front) u within (omega (arith, quote)))

-- a quote and what it closes with are a literal
pub literal_of : (bs : List ℕ) (n : ℕ) → IsUtf8 bs → closed_len 0 false (chars bs) ≡ Some n → IsLiteral (34 ∷ take n bs)
literal_of bs n u e =
    let w = behind_quote bs n u e in
    let front = encode_utf8_all w.body in
    record {
      body = w.body;
      items = w.items;
      is = ap (λ xs. 34 ∷ xs) (ap (λ m. take m bs) w.len ∙ ap (take (length front + 1)) w.is ∙ take-append-add front (34 ∷ w.after) 1);
    }
