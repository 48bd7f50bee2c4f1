-- SPDX-License-Identifier: Apache-2.0
-- What stands between the quotes of a printed text is items.
use Rattle.std.proofs.Common.{◌≡◌, ◌<◌, ◌≤◌, ◌==◌, ◌/◌, ◌%◌, ℕ, zero, suc, Bool, true, false, List, [], ◌∷◌, ◌++◌, length, get_or, length-append, codes, refl, sym, ap, ap₂, ◌∙◌, arith, append_assoc, subst, lit<, inl, inr}
use borrow.Author.Tests.{eqb-true}
use Rattle.std.proofs.lemmas.Bool.{cases_lt}
use Rattle.std.proofs.lemmas.Bool.Decides.{nat_tests}
use Rattle.std.proofs.lemmas.Fmt.{hex_one_digit, hex_two_digits}
use Rattle.std.proofs.lemmas.List.{append-nil, append_cancel_right}
use Rattle.std.proofs.lemmas.List.Concat.{flat_map-append}
use Rattle.std.proofs.lemmas.Str.{encode_ascii, encodes-append, encodes-chars, inside_one, length-encode, len_utf8_bounds, IsUtf8-past_char}
use Rattle.std.specs.Char.{encode_utf8, is_ascii_control}
use Rattle.std.specs.Fmt.{digits, digit_glyph}
use Rattle.std.specs.Prelude.{IsUtf8, chars, encode_utf8_all}
use Rattle.cedar_text.specs.Escapes.{escaped, escaped_byte, escaped_char}
use Rattle.cedar_text.specs.Joining.{joined}
use Rattle.cedar_text.specs.Literals as bytes
use Rattle.cedar_text.specs.Literals.{AreItemBytes, uid_with}
use Rattle.cedar_text.proofs.EscapeLemmas.{StandsAlone, escaped_char-alone}
use Rattle.cedar_text.proofs.WritingLemmas.{uid_fault-printed}
use Rattle.cedar_tokens.specs.Literals.{AreItems, no_item, plain_item, escaped_item}

-- ---- an escaped text is items, as bytes

front_cancel : (front a b : List ℕ) → front ++ a ≡ front ++ b → a ≡ b
front_cancel [] a b e = e
front_cancel (x ∷ xs) a b e = front_cancel xs a b (cc)

abbrev opened : List ℕ
opened = joined (codes "A" ∷ []) ++ codes "::\""

uid_split : (body : List ℕ) → uid_with (codes "A" ∷ []) body ≡ opened ++ (body ++ codes "\"")
uid_split body = append_assoc opened body (codes "\"")

escaped_bytes : (s : List ℕ) → AreItemBytes (escaped s)
escaped_bytes s =
    let w = (uid_fault-printed (codes "A") [] s refl).1 in
    let behind : w.body ++ codes "\"" ≡ escaped s ++ codes "\"" =
    front_cancel opened (w.body ++ codes "\"") (escaped s ++ codes "\"") (sym (uid_split w.body) ∙ sym w.is ∙ uid_split (escaped s)) in
    subst AreItemBytes (append_cancel_right w.body (escaped s) (codes "\"") behind) w.items

-- ---- bytes of ASCII are their own characters

abbrev IsLow : List ℕ → Type 0
IsLow bs = encode_utf8_all bs ≡ bs

low_cons : (b : ℕ) (bs : List ℕ) → b < 128 → IsLow bs → IsLow (b ∷ bs)
low_cons b bs low e = ap₂ (λ (x y : List ℕ). x ++ y) (encode_ascii b low) e

glyph_low : (n : ℕ) → n < 16 → digit_glyph false n < 128
glyph_low n small = grind (arith, nat_tests, small)

module _ (b : ℕ) (low : b < 128) where
  -- the byte is this sign, or another
  choose : (sign : ℕ) → IsLow (escaped_byte sign) → ((b == sign) ≡ false → IsLow (escaped_byte b)) → IsLow (escaped_byte b)
  choose sign here other = by_sign (b == sign) refl
    where
      by_sign : (t : Bool) → (b == sign) ≡ t → IsLow (escaped_byte b)
      by_sign true e = subst (λ x. IsLow (escaped_byte x)) (sym (eqb-true b sign e)) here
      by_sign false e = other e

  signed : (sign : ℕ) → sign < 128 → IsLow (92 ∷ sign ∷ [])
  signed sign small = low_cons 92 (sign ∷ []) (lit< tt) (low_cons sign [] small refl)

  opening : (tail : List ℕ) → IsLow tail → IsLow (92 ∷ 117 ∷ 123 ∷ tail)
  opening tail more = low_cons 92 (117 ∷ 123 ∷ tail) (lit< tt) (low_cons 117 (123 ∷ tail) (lit< tt) (low_cons 123 tail (lit< tt) more))

  numbered : escaped_byte b ≡ codes "\\u{" ++ digits 16 false b ++ codes "}" → IsLow (escaped_byte b)
  numbered by_number = elim (cases_lt b 16) [
    | inl one ↦
        subst IsLow (sym (by_number ∙ ap (λ (l : List ℕ). codes "\\u{" ++ l ++ codes "}") (hex_one_digit false b one)))
        (opening (digit_glyph false b ∷ 125 ∷ []) (low_cons (digit_glyph false b) (125 ∷ []) (glyph_low b one) (low_cons 125 [] (lit< tt) refl)))
    | inr two ↦
        let high : b / 16 < 16 = omega (arith, low) in
        let last : b % 16 < 16 = omega arith in
        subst IsLow (sym (by_number ∙ ap (λ (l : List ℕ). codes "\\u{" ++ l ++ codes "}") (hex_two_digits false b two (omega (arith, low)))))
        (opening (digit_glyph false (b / 16) ∷ digit_glyph false (b % 16) ∷ 125 ∷ [])
        (low_cons (digit_glyph false (b / 16)) (digit_glyph false (b % 16) ∷ 125 ∷ []) (glyph_low (b / 16) high)
        (low_cons (digit_glyph false (b % 16)) (125 ∷ []) (glyph_low (b % 16) last) (low_cons 125 [] (lit< tt) refl))))
  ]

  escaped_low : IsLow (escaped_byte b)
  escaped_low =
      choose 0 (signed 48 (lit< tt)) (λ nul.
      choose 9 (signed 116 (lit< tt)) (λ tab.
      choose 10 (signed 110 (lit< tt)) (λ feed.
      choose 13 (signed 114 (lit< tt)) (λ return.
      choose 34 (signed 34 (lit< tt)) (λ quote.
      choose 39 (signed 39 (lit< tt)) (λ apostrophe.
      choose 92 (signed 92 (lit< tt)) (λ backslash.
      by_control nul tab feed return quote apostrophe backslash (is_ascii_control b) refl)))))))
    where
      by_control : (b == 0) ≡ false → (b == 9) ≡ false → (b == 10) ≡ false → (b == 13) ≡ false → (b == 34) ≡ false → (b == 39) ≡ false → (b == 92) ≡ false
          → (t : Bool) → is_ascii_control b ≡ t → IsLow (escaped_byte b)
      by_control nul tab feed return quote apostrophe backslash true e = numbered (rw (nul, tab, feed, return, quote, apostrophe, backslash, e) refl)
      by_control nul tab feed return quote apostrophe backslash false e =
          let alone : escaped_byte b ≡ b ∷ [] = rw (nul, tab, feed, return, quote, apostrophe, backslash, e) refl in
          subst IsLow (sym alone) (low_cons b [] low refl)

-- ---- as characters

items_of : (bs : List ℕ) → AreItemBytes bs → AreItems bs
items_of _ bytes.no_item = no_item
items_of _ (bytes.plain_item {bs = bs} q b items) = plain_item q b (items_of bs items)
items_of _ (bytes.escaped_item {bs = bs} l items) = escaped_item l (items_of bs items)

items_append : (xs ys : List ℕ) → AreItems xs → AreItems ys → AreItems (xs ++ ys)
items_append _ ys no_item more = more
items_append _ ys (plain_item {cs = cs} q b items) more = plain_item q b (items_append cs ys items more)
items_append _ ys (escaped_item {cs = cs} l items) more = escaped_item l (items_append cs ys items more)

-- items whose bytes are these
pub record Items (bs : List ℕ) : Type 0 where
  pub body : List ℕ
  pub items : AreItems body
  pub are : encode_utf8_all body ≡ bs

high_alone : (c : ℕ) → 128 ≤ c → StandsAlone c
high_alone c high = record {
  nul = omega arith;
  tab = omega arith;
  line_feed = omega arith;
  carriage_return = omega arith;
  quote = omega arith;
  apostrophe = omega arith;
  backslash = omega arith;
  control = grind (arith, nat_tests);
}

-- ---- a whole text

-- the bytes of a character past ASCII
encode_high : (c : ℕ) → 128 ≤ c → (k : ℕ) → k < length (encode_utf8 c) → 128 ≤ get_or (encode_utf8 c) k 0
encode_high c high k within = elim (cases_lt (get_or (encode_utf8 c) k 0) 128) [
  | inl low ↦ absurd (omega (arith, inside_one c [] (encode_utf8 c) k (sym (append-nil (encode_utf8 c))) within low))
  | inr done ↦ done
]

byte_alone : (b : ℕ) → 128 ≤ b → escaped_byte b ≡ b ∷ []
byte_alone b high = grind (arith, nat_tests, high)

-- an escaped byte of ASCII begins with one
first_low : (b : ℕ) (more : List ℕ) → b < 128 → get_or (escaped_byte b ++ more) 0 0 < 128
first_low b more low = grind (arith, nat_tests, low)

-- high bytes before an escaped text and a quote are bytes of the text
record Front (high after bs rest : List ℕ) : Type 0 where
  others : List ℕ
  text : bs ≡ high ++ others
  behind : after ≡ escaped others ++ 34 ∷ rest

front_of : (high after bs rest : List ℕ) → ((k : ℕ) → k < length high → 128 ≤ get_or high k 0) → high ++ after ≡ escaped bs ++ 34 ∷ rest → Front high after bs rest
front_of [] after bs rest are e = record { others = bs; text = refl; behind = e }
front_of (h ∷ hs) after [] rest are e = absurd (omega (arith, are 0 (omega arith), ap (λ (l : List ℕ). get_or l 0 0) e))
front_of (h ∷ hs) after (b ∷ bs) rest are e = elim (cases_lt b 128) [
  | inl low ↦
      let first : h ≡ get_or (escaped_byte b ++ (escaped bs ++ 34 ∷ rest)) 0 0 = ap (λ (l : List ℕ). get_or l 0 0) (e ∙ append_assoc (escaped_byte b) (escaped bs) (34 ∷ rest)) in
      absurd (omega (arith, are 0 (omega arith), first, first_low b (escaped bs ++ 34 ∷ rest) low))
  | inr high ↦
      let whole : h ∷ (hs ++ after) ≡ b ∷ (escaped bs ++ 34 ∷ rest) = e ∙ append_assoc (escaped_byte b) (escaped bs) (34 ∷ rest) ∙ ap (λ (l : List ℕ). l ++ (escaped bs ++ 34 ∷ rest)) (byte_alone b high) in
      let same : h ≡ b = cc in
      let w = front_of hs after bs rest (λ k within. are (suc k) (omega (arith, within))) (cc) in
      record { others = w.others; text = ap₂ (λ (x : ℕ) (l : List ℕ). x ∷ l) (sym same) w.text; behind = w.behind }
]

-- behind whole characters
past_chars : (cs rest : List ℕ) → IsUtf8 (encode_utf8_all cs ++ rest) → IsUtf8 rest
past_chars [] rest u = u
past_chars (c ∷ cs) rest u =
    let whole = encode_utf8_all (c ∷ cs) ++ rest in
    past_chars cs rest (IsUtf8-past_char whole (encode_utf8_all cs ++ rest) c u (append_assoc (encode_utf8 c) (encode_utf8_all cs) rest))

-- a text behind items, which are written as these
behind_items : (front back whole text : List ℕ) → whole ≡ front ++ back → Items front → Items back → Items whole
behind_items front back whole text is f b = record {
  body = f.body ++ b.body;
  items = items_append f.body b.body f.items b.items;
  are = encodes-append f.body b.body ∙ ap₂ (λ (x y : List ℕ). x ++ y) f.are b.are ∙ sym is;
}

low_items : (b : ℕ) → b < 128 → Items (escaped_byte b)
low_items b low = record {
  body = escaped_byte b;
  items = items_of (escaped_byte b) (subst AreItemBytes (append-nil (escaped_byte b)) (escaped_bytes (b ∷ [])));
  are = escaped_low b low;
}

high_items : (c : ℕ) → 128 ≤ c → Items (escaped_char c)
high_items c high = record {
  body = c ∷ [];
  items = plain_item (omega (arith, high)) (omega (arith, high)) no_item;
  are = append-nil (encode_utf8 c) ∙ escaped_char-alone c (high_alone c high);
}

-- what is done for shorter texts
abbrev Shorter : ℕ → List ℕ → Type 0
Shorter n rest = (s : List ℕ) → length s ≤ n → IsUtf8 (escaped s ++ 34 ∷ rest) → Items (escaped s)

module _ (n b : ℕ) (bs rest : List ℕ) (le : length bs ≤ n) (u : IsUtf8 (escaped (b ∷ bs) ++ 34 ∷ rest)) (shorter : Shorter n rest) where
  abbrev whole : List ℕ
  whole = escaped (b ∷ bs) ++ 34 ∷ rest

  behind_first : whole ≡ escaped_byte b ++ (escaped bs ++ 34 ∷ rest)
  behind_first = append_assoc (escaped_byte b) (escaped bs) (34 ∷ rest)

  from_low : b < 128 → Items (escaped (b ∷ bs))
  from_low low =
      let after : IsUtf8 (escaped bs ++ 34 ∷ rest) = past_chars (escaped_byte b) (escaped bs ++ 34 ∷ rest)
      (subst (λ (l : List ℕ). IsUtf8 (l ++ (escaped bs ++ 34 ∷ rest))) (sym (escaped_low b low)) (subst IsUtf8 behind_first u)) in
      behind_items (escaped_byte b) (escaped bs) (escaped (b ∷ bs)) bs refl (low_items b low) (shorter bs le after)

  module _ (high : 128 ≤ b) where
    begins : get_or whole 0 0 ≡ b
    begins = ap (λ (l : List ℕ). get_or l 0 0) behind_first ∙ ap (λ (l : List ℕ). get_or (l ++ (escaped bs ++ 34 ∷ rest)) 0 0) (byte_alone b high)

    char_high : (c : ℕ) (after : List ℕ) → whole ≡ encode_utf8 c ++ after → 128 ≤ c
    char_high c after e = elim (cases_lt c 128) [
      | inl low ↦
          let first : get_or whole 0 0 ≡ c = ap (λ (l : List ℕ). get_or l 0 0) e ∙ ap (λ (l : List ℕ). get_or (l ++ after) 0 0) (encode_ascii c low) in
          absurd (omega (arith, first, begins, high, low))
      | inr done ↦ done
    ]

    from_char : (c : ℕ) (after : List ℕ) → whole ≡ encode_utf8 c ++ after → Items (escaped (b ∷ bs))
    from_char c after e =
        let c_high = char_high c after e in
        let w = front_of (encode_utf8 c) after (b ∷ bs) rest (encode_high c c_high) (sym e) in
        let less : length w.others ≤ n = omega (arith, le, ap length w.text, length-append (encode_utf8 c) w.others, length-encode c, (len_utf8_bounds c).0) in
        let more = shorter w.others less (subst IsUtf8 w.behind (IsUtf8-past_char whole after c u e)) in
        behind_items (escaped_char c) (escaped w.others) (escaped (b ∷ bs)) w.others (ap escaped w.text ∙ flat_map-append escaped_byte (encode_utf8 c) w.others) (high_items c c_high) more

    from_chars : (cs : List ℕ) → encode_utf8_all cs ≡ whole → Items (escaped (b ∷ bs))
    from_chars [] e =
        let none : 0 ≡ length (escaped_byte b ++ (escaped bs ++ 34 ∷ rest)) = ap length (e ∙ behind_first) in
        absurd (omega (arith, none, length-append (escaped_byte b) (escaped bs ++ 34 ∷ rest), length-append (escaped bs) (34 ∷ rest)))
    from_chars (c ∷ cs) e = from_char c (encode_utf8_all cs) (sym e)

  from_first : Items (escaped (b ∷ bs))
  from_first = elim (cases_lt b 128) [
    | inl low ↦ from_low low
    | inr high ↦ from_chars high (chars whole) (encodes-chars whole u)
  ]

text_items : (n : ℕ) (rest : List ℕ) → Shorter n rest
text_items n rest [] le u = record { body = []; items = no_item; are = refl }
text_items zero rest (b ∷ bs) le u = absurd (omega (arith, le))
text_items (suc n) rest (b ∷ bs) le u = from_first n b bs rest (omega (arith, le)) u (text_items n rest)

-- an escaped text is items where it and a quote behind it stand in a text
pub escaped_items : (s rest : List ℕ) → IsUtf8 (escaped s ++ 34 ∷ rest) → Items (escaped s)
escaped_items s rest u = text_items (length s) rest s (omega arith) u
