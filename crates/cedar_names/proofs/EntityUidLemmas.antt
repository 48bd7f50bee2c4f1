-- SPDX-License-Identifier: Apache-2.0
use Rattle.std.proofs.Common.{◌≡◌, ◌+◌, ◌<◌, ◌==◌, ℕ, Bool, true, false, cond, List, [], ◌∷◌, ◌++◌, length, get_or, take, drop, codes, Option, Some, None, refl, sym, subst, ap, ap₂, ◌∙◌, arith, append_assoc, length-append}
use borrow.Author.Tests.{eqb-true}
use Rattle.std.proofs.lemmas.List.{drop_at, nil_from_length, take-append-drop}
use Rattle.std.proofs.lemmas.List.Concat.{flat_map-append}
use Rattle.std.proofs.lemmas.List.Folds.{length-prefix_len}
use Rattle.std.proofs.lemmas.Str.{IsCharBoundary-after_ascii, IsUtf8-drop}
use Rattle.std.specs.List.{list_all, flat_map}
use Rattle.std.specs.Str.{IsUtf8, IsCharBoundary}
use Rattle.cedar_text.specs.Joining.{joined}
use Rattle.cedar_text.specs.Faults.{word_len, bad_token, first_fault, no_unreserved_id}
use Rattle.cedar_text.specs.Literals.{literal_fault, ClosesLiteral, opened_fault, opening_fault, before_quote, split_fault, uid_fault, WritesUid}
use Rattle.cedar_text.specs.NormalNames.{parts, part_fault, parts_fault, words_fault}
use Rattle.cedar_text.specs.Words.{is_word}
use Rattle.cedar_text.specs.declared.fault.NameFault.{NameFault}
use Rattle.cedar_text.specs.declared.fault.NameFault.TheVariants.{Empty, BadToken, Reserved}
use Rattle.cedar_names.proofs.NormalNameLemmas.{joined-parts}
use Rattle.cedar_text.proofs.UnescapeLemmas.{is_other, PlainFront, plain_front}

-- ---- the words before a quote

-- a part before another that is no word is no early end of the text
part-open : (s : List ℕ) (at : ℕ) (p q : List ℕ) (ps : List (List ℕ)) → part_fault s at p (q ∷ ps) ≡ bad_token s (at + word_len p)
part-open s at [] q ps = let here : at ≡ at + 0 = omega arith in ap (bad_token s) here
part-open s at (b ∷ bs) q ps = refl

-- the words of a text that ends where one more has to begin
words-open : (s : List ℕ) (at : ℕ) (ws : List (List ℕ)) → parts_fault s at (ws ++ [] ∷ []) ≡ Some Empty → list_all is_word ws ≡ true
words-open s at [] e = refl
words-open s at (w ∷ []) e = by_word (is_word w) refl e
  where
    by_word : (t : Bool) → is_word w ≡ t → cond t (parts_fault s (at + length w + 2) ([] ∷ [])) (Some (part_fault s at w ([] ∷ []))) ≡ Some Empty → list_all is_word (w ∷ []) ≡ true
    by_word true word is = rw word refl
    by_word false word is = absurd (never (sym (ap (λ (f : NameFault). Some f) (part-open s at w [] [])) ∙ is))
      where
        never : Some (bad_token s (at + word_len w)) ≡ Some Empty → ⊥
        never same = cc
words-open s at (w ∷ v ∷ ws) e = by_word (words-open s (at + length w + 2) (v ∷ ws)) (is_word w) refl e
  where
    by_word : (parts_fault s (at + length w + 2) ((v ∷ ws) ++ [] ∷ []) ≡ Some Empty → list_all is_word (v ∷ ws) ≡ true) → (t : Bool) → is_word w ≡ t
        → cond t (parts_fault s (at + length w + 2) ((v ∷ ws) ++ [] ∷ [])) (Some (part_fault s at w ((v ∷ ws) ++ [] ∷ []))) ≡ Some Empty → list_all is_word (w ∷ v ∷ ws) ≡ true
    by_word rest true word is = rw word (rest is)
    by_word rest false word is = absurd (never (sym (ap (λ (f : NameFault). Some f) (part-open s at w v (ws ++ [] ∷ []))) ∙ is))
      where
        never : Some (bad_token s (at + word_len w)) ≡ Some Empty → ⊥
        never same = cc

-- the fault of its form
opened : (front : List ℕ) (fault : Option NameFault) → opened_fault front fault ≡ None → (fault ≡ Some Empty) × (0 < length front)
opened [] fault e = cc
opened (b ∷ bs) None e = cc
opened (b ∷ bs) (Some Empty) e = (refl, omega arith)
opened (b ∷ bs) (Some (BadToken at token)) e = cc
opened (b ∷ bs) (Some (Reserved word)) e = cc

-- a text with no fault before the quote ends too early for a name
pub opening_empty : (front : List ℕ) → opening_fault front ≡ None → parts_fault front 0 (parts front) ≡ Some Empty
opening_empty front good = (opened front (parts_fault front 0 (parts front)) good).0

module _ (front : List ℕ) (words : List (List ℕ)) (good : opening_fault front ≡ None) (same : words ++ [] ∷ [] ≡ parts front) where
  pub all_are_words : list_all is_word words ≡ true
  all_are_words = words-open front 0 words (ap (parts_fault front 0) same ∙ (opened front (parts_fault front 0 (parts front)) good).0)

  pub some_words : 0 < length words
  some_words = by_words words same
    where
      by_words : (ws : List (List ℕ)) → ws ++ [] ∷ [] ≡ parts front → 0 < length ws
      by_words [] is =
          let none : [] ≡ front = ap joined is ∙ joined-parts front in
          absurd (omega (arith, (opened front (parts_fault front 0 (parts front)) good).1, ap length none))
      by_words (w ∷ ws) is = omega arith

  -- the text is the words with `::` between them, and `::`
  pub joined-front : front ≡ joined words ++ codes "::"
  joined-front = sym (joined-parts front) ∙ ap joined (sym same) ∙ by_words words some_words
    where
      by_words : (ws : List (List ℕ)) → 0 < length ws → joined (ws ++ [] ∷ []) ≡ joined ws ++ codes "::"
      by_words [] some = absurd (omega arith)
      by_words (w ∷ ws) some =
          ap (λ (l : List ℕ). w ++ l) (flat_map-append (λ (v : List ℕ). codes "::" ++ v) ws ([] ∷ [])) ∙ sym (append_assoc w (flat_map (λ (v : List ℕ). codes "::" ++ v) ws) (codes "::"))

  -- its excluded words are those of the words
  pub words_fault-front : words_fault no_unreserved_id (parts front) ≡ words_fault no_unreserved_id words
  words_fault-front = ap (words_fault no_unreserved_id) (sym same) ∙ by_words words
    where
      by_words : (ws : List (List ℕ)) → words_fault no_unreserved_id (ws ++ [] ∷ []) ≡ words_fault no_unreserved_id ws
      by_words [] = refl
      by_words (w ∷ ws) = ap (λ (o : Option NameFault). cond (no_unreserved_id w) (Some (Reserved w)) o) (by_words ws)

-- ---- a text before its first quote, and from it

-- a text that isn't empty
pub some_bytes : (bs : List ℕ) → (length bs == 0) ≡ false → 0 < length bs
some_bytes [] e = cc
some_bytes (b ∷ bs) e = omega arith

regroup : (a b c d : List ℕ) → ((a ++ b) ++ c) ++ d ≡ a ++ (b ++ (c ++ d))
regroup a b c d = simp append_assoc

module _ (s : List ℕ) (n : ℕ) (counted : n ≡ length (before_quote s)) (front quoted : List ℕ) (front_is : front ≡ take n s) (quoted_is : quoted ≡ drop n s) where
  front_before : before_quote s ≡ front
  front_before = sym (front_is ∙ ap (λ k. take k s) (counted ∙ length-prefix_len (is_other 34) s))

  uid_split : uid_fault s ≡ split_fault front quoted
  uid_split = ap₂ split_fault front_before (ap (λ k. drop k s) (sym counted) ∙ sym quoted_is)

  whole : s ≡ front ++ quoted
  whole = sym (take-append-drop n s) ∙ ap₂ (λ (x y : List ℕ). x ++ y) (sym front_is) (sym quoted_is)

  -- no quote stands in the text
  pub fault-unquoted : length quoted ≡ 0 → uid_fault s ≡ first_fault (parts_fault front 0 (parts front)) (Some Empty)
  fault-unquoted none = uid_split ∙ ap (split_fault front) (nil_from_length quoted none)

  module _ (some : 0 < length quoted) where
    pieces : PlainFront 34 s n
    pieces = plain_front 34 s n counted

    -- from the quote on
    pub quote_first : quoted ≡ 34 ∷ drop 1 quoted
    quote_first = by_quoted quoted refl
      where
        same : pieces.escape ≡ quoted
        same = sym (drop_at pieces.front pieces.escape n pieces.len) ∙ ap (drop n) (sym pieces.is) ∙ sym quoted_is

        by_quoted : (l : List ℕ) → quoted ≡ l → quoted ≡ 34 ∷ drop 1 quoted
        by_quoted [] is = absurd (omega (arith, ap length is))
        by_quoted (b ∷ bs) is =
            let first : b ≡ 34 = eqb-true b 34 (pieces.begins b bs (same ∙ is)) in
            is ∙ ap (λ k. k ∷ bs) first ∙ ap (λ (l : List ℕ). 34 ∷ l) (sym (ap (drop 1) is))

    -- it may be cut behind the quote
    pub IsCharBoundary-opening : IsUtf8 s → IsCharBoundary s n → IsCharBoundary quoted 1
    IsCharBoundary-opening text cut =
        let low : get_or quoted 0 0 ≡ 34 = ap (λ (l : List ℕ). get_or l 0 0) quote_first in
        IsCharBoundary-after_ascii quoted 0 (subst IsUtf8 (sym quoted_is) (IsUtf8-drop s n text cut)) some (omega arith)

    -- the text has room for the quote and what follows it
    pub fits : length front + 1 + length (drop 1 quoted) ≡ length s
    fits = omega (arith, ap length whole, length-append front quoted, ap length quote_first)

    fault : uid_fault s ≡ first_fault (opening_fault front) (first_fault (literal_fault (length front + 1) (drop 1 quoted)) (words_fault no_unreserved_id (parts front)))
    fault = uid_split ∙ ap (split_fault front) quote_first

    -- something is wrong before the quote
    pub fault-opening : (f : NameFault) → opening_fault front ≡ Some f → uid_fault s ≡ Some f
    fault-opening f e = fault ∙ ap (λ (o : Option NameFault). first_fault o (first_fault (literal_fault (length front + 1) (drop 1 quoted)) (words_fault no_unreserved_id (parts front)))) e

    module _ (good : opening_fault front ≡ None) where
      past_opening : uid_fault s ≡ first_fault (literal_fault (length front + 1) (drop 1 quoted)) (words_fault no_unreserved_id (parts front))
      past_opening = fault ∙ ap (λ (o : Option NameFault). first_fault o (first_fault (literal_fault (length front + 1) (drop 1 quoted)) (words_fault no_unreserved_id (parts front)))) good

      -- or behind it
      pub fault-literal : (f : NameFault) → literal_fault (length front + 1) (drop 1 quoted) ≡ Some f → uid_fault s ≡ Some f
      fault-literal f e = past_opening ∙ ap (λ (o : Option NameFault). first_fault o (words_fault no_unreserved_id (parts front))) e

      module _ (words : List (List ℕ)) (same : words ++ [] ∷ [] ≡ parts front) (closed : literal_fault (length front + 1) (drop 1 quoted) ≡ None) where
        -- or with a word
        pub fault-words : uid_fault s ≡ words_fault no_unreserved_id words
        fault-words = past_opening ∙ ap (λ (o : Option NameFault). first_fault o (words_fault no_unreserved_id (parts front))) closed ∙ words_fault-front front words good same

        pub writes : (id : List ℕ) → ClosesLiteral (drop 1 quoted) id → WritesUid s words id
        writes id literal = record {
          body = literal.body;
          is =
              whole ∙ ap₂ (λ (x y : List ℕ). x ++ y) (joined-front front words good same) (quote_first ∙ ap (λ (l : List ℕ). 34 ∷ l) literal.is)
              ∙ append_assoc (joined words) (codes "::") (34 ∷ (literal.body ++ codes "\"")) ∙ sym (regroup (joined words) (codes "::\"") literal.body (codes "\""));
          items = literal.items;
          value = literal.value;
        }
