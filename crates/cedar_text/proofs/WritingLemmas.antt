-- SPDX-License-Identifier: Apache-2.0
use Rattle.std.proofs.Common.{◌≡◌, ◌≢◌, ◌+◌, ◌<◌, ◌&&◌, ◌||◌, ◌==◌, not, ℕ, Bool, true, false, cond, List, [], ◌∷◌, ◌++◌, length, drop, codes, Some, None, Result, Ok, refl, sym, subst, ap, ap₂, ◌∙◌, arith, inl, inr, ◌/◌, ◌%◌, append_assoc}
use Rattle.std.proofs.lemmas.Bool.Decides.{nat_tests}
use Rattle.std.proofs.lemmas.List.{append-nil, append_cancel_right, take_at, drop_at, drop-drop}
use Rattle.std.proofs.lemmas.List.Folds.{list_all-append}
use Rattle.std.proofs.lemmas.Bool.{cases_lt}
use Rattle.std.proofs.lemmas.Fmt.{hex_one_digit, hex_two_digits}
use borrow.Author.Tests.{eqb-true}
use Rattle.std.specs.Char.{is_ascii_control, is_ascii_hexdigit}
use Rattle.std.specs.Fmt.{digits, digit_glyph}
use Rattle.std.specs.Cmp.{first_so, second_so}
use Rattle.std.specs.List.{list_all, prefix_len, flat_map}
use Rattle.cedar_text.specs.Escapes.{escaped_byte, escaped}
use Rattle.cedar_text.specs.Faults.{first_fault, no_unreserved_id}
use Rattle.cedar_text.specs.Joining.{joined}
use Rattle.cedar_text.specs.Literals.{AreItemBytes, no_item, plain_item, escaped_item, scan_items, escape_fault, trailing_fault, scanned_fault, literal_fault, opened_fault, opening_fault, before_quote, from_quote, split_fault, uid_fault, uid_with, WritesUid}
use Rattle.cedar_text.specs.NormalNames.{parts, parts_fault, words_fault, name_fault, may_stand}
use Rattle.cedar_text.specs.Unescaping.{unescaped}
use Rattle.cedar_text.specs.Words.{is_word, is_word_start, is_word_byte, is_reserved_word, is_cedar, is_unreserved_id}
use Rattle.cedar_text.specs.declared.fault.NameFault.TheVariants.{Empty, Reserved}
use Rattle.cedar_text.specs.declared.literal.Scan.TheVariants.{Closed}
use Rattle.cedar_text.proofs.UndoLemmas.{glyph-hex, control-low, unescaped-escaped}
use Rattle.cedar_text.proofs.UnescapeLemmas.{is_other}
use Rattle.cedar_text.proofs.PartsLemmas.{grow_all, grow_all-first, parts-word, start-byte}

-- ---- words with `::` between them

-- each byte of a word may go on a word
word-bytes : (w : List ℕ) → is_word w ≡ true → list_all is_word_byte w ≡ true
word-bytes [] e = cc
word-bytes (b ∷ bs) e =
    let start : is_word_start b ≡ true = first_so (is_word_start b) (list_all is_word_byte bs) e in
    let others : list_all is_word_byte bs ≡ true = second_so (is_word_start b) (list_all is_word_byte bs) e in
    rw (start-byte b start, others) refl

-- the parts of a text that begins with a word
parts-first_word : (w rest p : List ℕ) (ps : List (List ℕ)) → is_word w ≡ true → parts rest ≡ p ∷ ps → parts (w ++ rest) ≡ (w ++ p) ∷ ps
parts-first_word w rest p ps word same = parts-word w rest (word-bytes w word) ∙ ap (grow_all w) same ∙ grow_all-first w p ps

-- and of one that goes on with two colons
parts-next_word : (w rest : List ℕ) → is_word w ≡ true → parts (w ++ (codes "::" ++ rest)) ≡ w ∷ parts rest
parts-next_word w rest word = parts-first_word w (codes "::" ++ rest) [] (parts rest) word refl ∙ ap (λ (v : List ℕ). v ∷ parts rest) (append-nil w)

-- the parts of words with `::` between them are the words
pub parts-joined : (w : List ℕ) (ws : List (List ℕ)) → list_all is_word (w ∷ ws) ≡ true → parts (joined (w ∷ ws)) ≡ w ∷ ws
parts-joined w [] e =
    parts-first_word w [] [] [] (first_so (is_word w) true e) refl ∙ ap (λ (v : List ℕ). v ∷ []) (append-nil w)
parts-joined w (v ∷ vs) e =
    parts-next_word w (joined (v ∷ vs)) (first_so (is_word w) (list_all is_word (v ∷ vs)) e)
    ∙ ap (λ (ps : List (List ℕ)). w ∷ ps) (parts-joined v vs (second_so (is_word w) (list_all is_word (v ∷ vs)) e))

-- nothing is wrong with the form of words
parts_fault-words : (s : List ℕ) (at : ℕ) (ws : List (List ℕ)) → list_all is_word ws ≡ true → parts_fault s at ws ≡ None
parts_fault-words s at [] e = refl
parts_fault-words s at (w ∷ ws) e =
    let word : is_word w ≡ true = first_so (is_word w) (list_all is_word ws) e in
    rw word (parts_fault-words s (at + length w + 2) ws (second_so (is_word w) (list_all is_word ws) e))

-- words that are not excluded
module _ (excluded : List ℕ → Bool) where
  pub all_words : (ws : List (List ℕ)) → list_all (may_stand excluded) ws ≡ true → list_all is_word ws ≡ true
  all_words [] e = refl
  all_words (w ∷ ws) e =
      let this : is_word w && not (excluded w) ≡ true = first_so (may_stand excluded w) (list_all (may_stand excluded) ws) e in
      let word : is_word w ≡ true = first_so (is_word w) (not (excluded w)) this in
      rw (word, all_words ws (second_so (may_stand excluded w) (list_all (may_stand excluded) ws) e)) refl

  pub none_excluded : (ws : List (List ℕ)) → list_all (may_stand excluded) ws ≡ true → words_fault excluded ws ≡ None
  none_excluded [] e = refl
  none_excluded (w ∷ ws) e =
      let this : is_word w && not (excluded w) ≡ true = first_so (may_stand excluded w) (list_all (may_stand excluded) ws) e in
      let other : excluded w ≡ false = not_true (excluded w) (second_so (is_word w) (not (excluded w)) this) in
      rw other (none_excluded ws (second_so (may_stand excluded w) (list_all (may_stand excluded) ws) e))
    where
      not_true : (t : Bool) → not t ≡ true → t ≡ false
      not_true true e = cc
      not_true false e = refl

  -- with `::` between them they are a name
  pub name_fault-joined : (w : List ℕ) (ws : List (List ℕ)) → list_all (may_stand excluded) (w ∷ ws) ≡ true → name_fault excluded (joined (w ∷ ws)) ≡ None
  name_fault-joined w ws e =
      let words : list_all is_word (w ∷ ws) ≡ true = all_words (w ∷ ws) e in
      ap (λ (ps : List (List ℕ)). first_fault (parts_fault (joined (w ∷ ws)) 0 ps) (words_fault excluded ps)) (parts-joined w ws words)
      ∙ ap₂ first_fault (parts_fault-words (joined (w ∷ ws)) 0 (w ∷ ws) words) (none_excluded (w ∷ ws) e)

-- ---- the words before a quote

-- the parts of words with `::` between them, and `::`
parts-opened : (w : List ℕ) (ws : List (List ℕ)) → list_all is_word (w ∷ ws) ≡ true → parts (joined (w ∷ ws) ++ codes "::") ≡ (w ∷ ws) ++ [] ∷ []
parts-opened w [] e =
    ap (λ (l : List ℕ). parts (l ++ codes "::")) (append-nil w) ∙ parts-next_word w [] (first_so (is_word w) true e)
parts-opened w (v ∷ vs) e =
    ap parts (append_assoc w (codes "::" ++ joined (v ∷ vs)) (codes "::"))
    ∙ parts-next_word w (joined (v ∷ vs) ++ codes "::") (first_so (is_word w) (list_all is_word (v ∷ vs)) e)
    ∙ ap (λ (ps : List (List ℕ)). w ∷ ps) (parts-opened v vs (second_so (is_word w) (list_all is_word (v ∷ vs)) e))

-- the text ends where one more word has to begin
parts_fault-opened : (s : List ℕ) (at : ℕ) (ws : List (List ℕ)) → list_all is_word ws ≡ true → parts_fault s at (ws ++ [] ∷ []) ≡ Some Empty
parts_fault-opened s at [] e = refl
parts_fault-opened s at (w ∷ ws) e =
    let word : is_word w ≡ true = first_so (is_word w) (list_all is_word ws) e in
    rw word (parts_fault-opened s (at + length w + 2) ws (second_so (is_word w) (list_all is_word ws) e))

words_fault-opened : (excluded : List ℕ → Bool) (ws : List (List ℕ)) → words_fault excluded ws ≡ None → words_fault excluded (ws ++ [] ∷ []) ≡ cond (excluded []) (Some (Reserved [])) None
words_fault-opened excluded [] e = refl
words_fault-opened excluded (w ∷ ws) e = by_word (words_fault-opened excluded ws) (excluded w) e
  where
    by_word : (words_fault excluded ws ≡ None → words_fault excluded (ws ++ [] ∷ []) ≡ cond (excluded []) (Some (Reserved [])) None) → (t : Bool) → cond t (Some (Reserved w)) (words_fault excluded ws) ≡ None
        → cond t (Some (Reserved w)) (words_fault excluded (ws ++ [] ∷ [])) ≡ cond (excluded []) (Some (Reserved [])) None
    by_word rest true is = cc
    by_word rest false is = rest is

-- a text that begins with a word isn't empty
opened_fault-word : (w rest : List ℕ) → is_word w ≡ true → opened_fault (w ++ rest) (Some Empty) ≡ None
opened_fault-word [] rest e = cc
opened_fault-word (b ∷ bs) rest e = refl

opening_fault-joined : (w : List ℕ) (ws : List (List ℕ)) → list_all is_word (w ∷ ws) ≡ true → opening_fault (joined (w ∷ ws) ++ codes "::") ≡ None
opening_fault-joined w ws e =
    ap (λ (ps : List (List ℕ)). opened_fault (joined (w ∷ ws) ++ codes "::") (parts_fault (joined (w ∷ ws) ++ codes "::") 0 ps)) (parts-opened w ws e)
    ∙ ap (opened_fault (joined (w ∷ ws) ++ codes "::")) (parts_fault-opened (joined (w ∷ ws) ++ codes "::") 0 (w ∷ ws) e)
    ∙ ap (λ (l : List ℕ). opened_fault l (Some Empty)) (append_assoc w (flat_map (λ (v : List ℕ). codes "::" ++ v) ws) (codes "::"))
    ∙ opened_fault-word w (flat_map (λ (v : List ℕ). codes "::" ++ v) ws ++ codes "::") (first_so (is_word w) (list_all is_word ws) e)

-- ---- the first quote

word_byte-other : (b : ℕ) → is_word_byte b ≡ true → is_other 34 b ≡ true
word_byte-other b e = grind (arith, nat_tests, e)

bytes-other : (w : List ℕ) → list_all is_word_byte w ≡ true → list_all (is_other 34) w ≡ true
bytes-other [] e = refl
bytes-other (b ∷ bs) e =
    rw (word_byte-other b (first_so (is_word_byte b) (list_all is_word_byte bs) e), bytes-other bs (second_so (is_word_byte b) (list_all is_word_byte bs) e)) refl

word-other : (w : List ℕ) → is_word w ≡ true → list_all (is_other 34) w ≡ true
word-other w e = bytes-other w (word-bytes w e)

-- no quote stands in words, nor behind them
rest-other : (ws : List (List ℕ)) → list_all is_word ws ≡ true → list_all (is_other 34) (flat_map (λ (v : List ℕ). codes "::" ++ v) ws ++ codes "::") ≡ true
rest-other [] e = refl
rest-other (w ∷ ws) e =
    ap (λ (l : List ℕ). list_all (is_other 34) (codes "::" ++ l)) (append_assoc w (flat_map (λ (v : List ℕ). codes "::" ++ v) ws) (codes "::"))
    ∙ list_all-append (is_other 34) w (flat_map (λ (v : List ℕ). codes "::" ++ v) ws ++ codes "::")
    ∙ rw (word-other w (first_so (is_word w) (list_all is_word ws) e), rest-other ws (second_so (is_word w) (list_all is_word ws) e)) refl

opened-other : (w : List ℕ) (ws : List (List ℕ)) → list_all is_word (w ∷ ws) ≡ true → list_all (is_other 34) (joined (w ∷ ws) ++ codes "::") ≡ true
opened-other w ws e =
    ap (list_all (is_other 34)) (append_assoc w (flat_map (λ (v : List ℕ). codes "::" ++ v) ws) (codes "::"))
    ∙ list_all-append (is_other 34) w (flat_map (λ (v : List ℕ). codes "::" ++ v) ws ++ codes "::")
    ∙ rw (word-other w (first_so (is_word w) (list_all is_word ws) e), rest-other ws (second_so (is_word w) (list_all is_word ws) e)) refl

-- the text before the first quote, and from it
prefix_len-quote : (front rest : List ℕ) → list_all (is_other 34) front ≡ true → prefix_len (is_other 34) (front ++ 34 ∷ rest) ≡ length front
prefix_len-quote [] rest e = refl
prefix_len-quote (b ∷ bs) rest e =
    let this : is_other 34 b ≡ true = first_so (is_other 34 b) (list_all (is_other 34) bs) e in
    rw (this, prefix_len-quote bs rest (second_so (is_other 34 b) (list_all (is_other 34) bs) e)) (omega arith)

module _ (front rest : List ℕ) (other : list_all (is_other 34) front ≡ true) where
  before_quote-front : before_quote (front ++ 34 ∷ rest) ≡ front
  before_quote-front = take_at front (34 ∷ rest) (prefix_len (is_other 34) (front ++ 34 ∷ rest)) (sym (prefix_len-quote front rest other))

  from_quote-front : drop (length (before_quote (front ++ 34 ∷ rest))) (front ++ 34 ∷ rest) ≡ 34 ∷ rest
  from_quote-front = drop_at front (34 ∷ rest) (length (before_quote (front ++ 34 ∷ rest))) (sym (ap length before_quote-front))

-- ---- the literal

differs : (b c : ℕ) → b ≢ c → (b == c) ≡ false
differs b c e = grind (arith, nat_tests, e)

-- items and a quote: the quote closes the literal
scan-items : (at n : ℕ) (body rest : List ℕ) → at + length body ≡ n → AreItemBytes body → scan_items at None (body ++ 34 ∷ rest) ≡ Closed n
scan-items at n [] rest e items = let here : at ≡ n = omega (arith, e) in ap Closed here
scan-items at n (b ∷ bs) rest e (plain_item quote backslash items) =
    rw (differs b 34 quote, differs b 92 backslash) (scan-items (at + 1) n bs rest (omega (arith, e)) items)
scan-items at n (b ∷ c ∷ cs) rest e (escaped_item feed items) =
    rw (differs c 10 feed) (scan-items (at + 1 + 1) n cs rest (omega (arith, e)) items)

-- so nothing is wrong with a literal that stands for a text
module _ (at : ℕ) (body id : List ℕ) (items : AreItemBytes body) (value : unescaped body ≡ Ok id) where
  after_quote : drop (length body + 1) (body ++ 34 ∷ []) ≡ []
  after_quote = sym (drop-drop 1 (length body) (body ++ 34 ∷ [])) ∙ ap (drop 1) (drop_at body (34 ∷ []) (length body) refl)

  literal_fault-items : literal_fault at (body ++ 34 ∷ []) ≡ None
  literal_fault-items =
      ap (scanned_fault at (body ++ 34 ∷ [])) (scan-items 0 (length body) body [] (omega arith) items)
      ∙ ap₂ (λ (text behind : List ℕ). first_fault (escape_fault at (unescaped text)) (trailing_fault (at + length body + 1) behind)) (take_at body (34 ∷ []) (length body) refl) after_quote
      ∙ rw value refl

-- ---- an escaped text is items

apart : (b c : ℕ) → (b == c) ≡ false → b ≢ c
apart b c e = grind (arith, nat_tests, e)

hex-item : (b : ℕ) (rest : List ℕ) → is_ascii_hexdigit b ≡ true → AreItemBytes rest → AreItemBytes (b ∷ rest)
hex-item b rest hex items = plain_item (quote b hex) (backslash b hex) items
  where
    quote : (b : ℕ) → is_ascii_hexdigit b ≡ true → b ≢ 34
    quote b hex = grind (arith, nat_tests, hex)

    backslash : (b : ℕ) → is_ascii_hexdigit b ≡ true → b ≢ 92
    backslash b hex = grind (arith, nat_tests, hex)

module _ (b : ℕ) (rest : List ℕ) (items : AreItemBytes rest) where
  -- the byte is this sign, or another
  choose_item : (sign : ℕ) → AreItemBytes (escaped_byte sign ++ rest) → ((b == sign) ≡ false → AreItemBytes (escaped_byte b ++ rest)) → AreItemBytes (escaped_byte b ++ rest)
  choose_item sign here other = by_sign (b == sign) refl
    where
      by_sign : (t : Bool) → (b == sign) ≡ t → AreItemBytes (escaped_byte b ++ rest)
      by_sign true e = subst (λ x. AreItemBytes (escaped_byte x ++ rest)) (sym (eqb-true b sign e)) here
      by_sign false e = other e

  signed : (sign : ℕ) → (sign == 10) ≡ false → AreItemBytes (92 ∷ sign ∷ rest)
  signed sign e = escaped_item (apart sign 10 e) items

  closing : AreItemBytes (125 ∷ rest)
  closing = plain_item (apart 125 34 refl) (apart 125 92 refl) items

  -- a backslash, `u` and an open brace before items
  opening : (tail : List ℕ) → AreItemBytes tail → AreItemBytes (92 ∷ 117 ∷ 123 ∷ tail)
  opening tail more = escaped_item (apart 117 10 refl) (plain_item (apart 123 34 refl) (apart 123 92 refl) more)

  numbered_items : escaped_byte b ≡ codes "\\u{" ++ digits 16 false b ++ codes "}" → b < 128 → AreItemBytes (escaped_byte b ++ rest)
  numbered_items by_number low = elim (cases_lt b 16) [
    | inl one ↦
        subst (λ (l : List ℕ). AreItemBytes (l ++ rest)) (sym (by_number ∙ ap (λ (l : List ℕ). codes "\\u{" ++ l ++ codes "}") (hex_one_digit false b one)))
        (opening (digit_glyph false b ∷ 125 ∷ rest) (hex-item (digit_glyph false b) (125 ∷ rest) (glyph-hex b one) closing))
    | inr two ↦
        let high : b / 16 < 16 = omega (arith, low) in
        let last : b % 16 < 16 = omega arith in
        subst (λ (l : List ℕ). AreItemBytes (l ++ rest)) (sym (by_number ∙ ap (λ (l : List ℕ). codes "\\u{" ++ l ++ codes "}") (hex_two_digits false b two (omega (arith, low)))))
        (opening (digit_glyph false (b / 16) ∷ digit_glyph false (b % 16) ∷ 125 ∷ rest)
        (hex-item (digit_glyph false (b / 16)) (digit_glyph false (b % 16) ∷ 125 ∷ rest) (glyph-hex (b / 16) high)
        (hex-item (digit_glyph false (b % 16)) (125 ∷ rest) (glyph-hex (b % 16) last) closing)))
  ]

  escaped_byte-items : AreItemBytes (escaped_byte b ++ rest)
  escaped_byte-items =
      choose_item 0 (signed 48 refl) (λ nul.
      choose_item 9 (signed 116 refl) (λ tab.
      choose_item 10 (signed 110 refl) (λ feed.
      choose_item 13 (signed 114 refl) (λ return.
      choose_item 34 (signed 34 refl) (λ quote.
      choose_item 39 (signed 39 refl) (λ apostrophe.
      choose_item 92 (signed 92 refl) (λ backslash.
      by_control nul tab feed return quote apostrophe backslash (is_ascii_control b) refl)))))))
    where
      by_control : (b == 0) ≡ false → (b == 9) ≡ false → (b == 10) ≡ false → (b == 13) ≡ false → (b == 34) ≡ false → (b == 39) ≡ false → (b == 92) ≡ false
          → (t : Bool) → is_ascii_control b ≡ t → AreItemBytes (escaped_byte b ++ rest)
      by_control nul tab feed return quote apostrophe backslash true e = numbered_items (rw (nul, tab, feed, return, quote, apostrophe, backslash, e) refl) (control-low b e)
      by_control nul tab feed return quote apostrophe backslash false e =
          let alone : escaped_byte b ≡ b ∷ [] = rw (nul, tab, feed, return, quote, apostrophe, backslash, e) refl in
          subst (λ (l : List ℕ). AreItemBytes (l ++ rest)) (sym alone) (plain_item (apart b 34 quote) (apart b 92 backslash) items)

escaped-items : (s : List ℕ) → AreItemBytes (escaped s)
escaped-items [] = no_item
escaped-items (b ∷ bs) = escaped_byte-items b (escaped bs) (escaped-items bs)

-- ---- the whole text

regroup : (a b c d : List ℕ) → ((a ++ b) ++ c) ++ d ≡ a ++ (b ++ (c ++ d))
regroup a b c d = simp append_assoc

module _ (w : List ℕ) (ws : List (List ℕ)) (words : list_all is_word (w ∷ ws) ≡ true) (body : List ℕ) where
  abbrev front : List ℕ
  front = joined (w ∷ ws) ++ codes "::"

  abbrev inner : List ℕ
  inner = body ++ 34 ∷ []

  uid_split : uid_with (w ∷ ws) body ≡ front ++ 34 ∷ inner
  uid_split = regroup (joined (w ∷ ws)) (codes "::\"") body (codes "\"") ∙ sym (append_assoc (joined (w ∷ ws)) (codes "::") (34 ∷ inner))

  before_quote-uid : before_quote (uid_with (w ∷ ws) body) ≡ front
  before_quote-uid = ap before_quote uid_split ∙ before_quote-front front inner (opened-other w ws words)

  from_quote-uid : from_quote (uid_with (w ∷ ws) body) ≡ 34 ∷ inner
  from_quote-uid = ap from_quote uid_split ∙ from_quote-front front inner (opened-other w ws words)

  uid_fault-items : (id : List ℕ) → words_fault no_unreserved_id (w ∷ ws) ≡ None → AreItemBytes body → unescaped body ≡ Ok id → uid_fault (uid_with (w ∷ ws) body) ≡ None
  uid_fault-items id none items value =
      let unreserved : words_fault no_unreserved_id (parts front) ≡ None = ap (words_fault no_unreserved_id) (parts-opened w ws words) ∙ words_fault-opened no_unreserved_id (w ∷ ws) none in
      ap₂ split_fault before_quote-uid from_quote-uid
      ∙ ap₂ first_fault (opening_fault-joined w ws words) (ap₂ first_fault (literal_fault-items (length front + 1) body id items value) unreserved)

-- unreserved identifiers are words that a `Name` doesn't exclude
unreserved-words : (ws : List (List ℕ)) → list_all is_unreserved_id ws ≡ true → list_all (may_stand no_unreserved_id) ws ≡ true
unreserved-words [] e = refl
unreserved-words (w ∷ ws) e =
    let this : is_unreserved_id w ≡ true = first_so (is_unreserved_id w) (list_all is_unreserved_id ws) e in
    rw (by_tests (is_word w) (is_reserved_word w) (is_cedar w) this, unreserved-words ws (second_so (is_unreserved_id w) (list_all is_unreserved_id ws) e)) refl
  where
    by_tests : (word reserved cedar : Bool) → (word && not reserved) && not cedar ≡ true → word && not (reserved || cedar) ≡ true
    by_tests true true cedar e = cc
    by_tests true false true e = cc
    by_tests true false false e = refl
    by_tests false reserved cedar e = cc

-- words, `::` and a literal have no fault
pub uid_fault-with : (w : List ℕ) (ws : List (List ℕ)) (body id : List ℕ) → list_all is_unreserved_id (w ∷ ws) ≡ true → AreItemBytes body → unescaped body ≡ Ok id → uid_fault (uid_with (w ∷ ws) body) ≡ None
uid_fault-with w ws body id e items value =
    let stand = unreserved-words (w ∷ ws) e in
    uid_fault-items w ws (all_words no_unreserved_id (w ∷ ws) stand) body id (none_excluded no_unreserved_id (w ∷ ws) stand) items value

-- nor has a printed id, which writes itself
pub uid_fault-printed : (w : List ℕ) (ws : List (List ℕ)) (id : List ℕ) → list_all is_unreserved_id (w ∷ ws) ≡ true
    → (uid_fault (uid_with (w ∷ ws) (escaped id)) ≡ None) × WritesUid (uid_with (w ∷ ws) (escaped id)) (w ∷ ws) id
uid_fault-printed w ws id e = (
  uid_fault-with w ws (escaped id) id e (escaped-items id) (unescaped-escaped id),
  record { body = escaped id; is = refl; items = escaped-items id; value = unescaped-escaped id },
)

-- what a literal stands for is one text
ok_is : (r : Result (List ℕ) ℕ) (a b : List ℕ) → r ≡ Ok a → r ≡ Ok b → a ≡ b
ok_is r a b e f = cc

-- a text writes one entity at most
module _ (s w v : List ℕ) (ws vs : List (List ℕ)) (id text : List ℕ) (words : list_all is_word (w ∷ ws) ≡ true) (others : list_all is_word (v ∷ vs) ≡ true)
    (p : WritesUid s (w ∷ ws) id) (q : WritesUid s (v ∷ vs) text) where
  same_text : uid_with (w ∷ ws) p.body ≡ uid_with (v ∷ vs) q.body
  same_text = sym p.is ∙ q.is

  same_front : joined (w ∷ ws) ++ codes "::" ≡ joined (v ∷ vs) ++ codes "::"
  same_front = sym (before_quote-uid w ws words p.body) ∙ ap before_quote same_text ∙ before_quote-uid v vs others q.body

  same_words : w ∷ ws ≡ v ∷ vs
  same_words = append_cancel_right (w ∷ ws) (v ∷ vs) ([] ∷ []) (sym (parts-opened w ws words) ∙ ap parts same_front ∙ parts-opened v vs others)

  same_body : p.body ≡ q.body
  same_body = append_cancel_right p.body q.body (34 ∷ []) (ap (drop 1) (sym (from_quote-uid w ws words p.body) ∙ ap from_quote same_text ∙ from_quote-uid v vs others q.body))

  pub uid_written_once : (w ∷ ws ≡ v ∷ vs) × (id ≡ text)
  uid_written_once = (same_words, ok_is (unescaped p.body) id text p.value (ap unescaped same_body ∙ q.value))
