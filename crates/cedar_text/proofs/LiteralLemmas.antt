-- SPDX-License-Identifier: Apache-2.0
use Rattle.std.proofs.Common.{◌≡◌, ◌+◌, ◌<◌, ◌==◌, ◌≢◌, ℕ, suc, Bool, true, false, cond, List, [], ◌∷◌, ◌++◌, length, get_or, take, drop, Option, Some, None, Result, Ok, Err, refl, sym, ap, ◌∙◌, subst, arith}
use Rattle.std.proofs.lemmas.Bool.Decides.{nat_tests}
use borrow.Author.Tests.{eqb-true}
use Rattle.std.specs.Prelude.{⊤}
use Rattle.std.proofs.Math.Seq.{drop-cons}
use Rattle.std.proofs.lemmas.List.{take-append-drop, nil_from_length}
use Rattle.std.proofs.lemmas.Str.{IsCharBoundary-before_ascii, IsCharBoundary-after_ascii, IsUtf8-drop}
use Rattle.std.specs.Str.{IsUtf8, IsCharBoundary}
use Rattle.cedar_text.specs.Faults.{token_at, first_fault}
use Rattle.cedar_text.specs.Literals.{scan_items, escape_fault, trailing_fault, scanned_fault, literal_fault, ClosesLiteral, AreItemBytes, no_item, plain_item, escaped_item}
use Rattle.cedar_text.specs.Unescaping.{unescaped}
use Rattle.cedar_text.specs.declared.fault.NameFault.TheVariants.{BadToken}
use Rattle.cedar_text.specs.declared.literal.Scan.TheVariants.{Closed, Unclosed, Broken}
use Rattle.cedar_text.specs.declared.literal.Scan.{Scan}

-- a quote stands behind so many bytes
pub record QuoteAt (bs : List ℕ) (at n : ℕ) : Type 0 where
  pub k : ℕ
  pub is : at + k ≡ n
  pub within : k < length bs
  pub quote : get_or bs k 0 ≡ 34

next_quote : (b : ℕ) (bs : List ℕ) (at n : ℕ) → QuoteAt bs (at + 1) n → QuoteAt (b ∷ bs) at n
next_quote b bs at n found = record { k = suc found.k; is = omega (arith, found.is); within = omega (arith, found.within); quote = found.quote }

scan-closed : (at : ℕ) (backslash : Option ℕ) (bs : List ℕ) (n : ℕ) → scan_items at backslash bs ≡ Closed n → QuoteAt bs at n
scan-closed at backslash [] n e = cc
scan-closed at (Some place) (b ∷ bs) n e = by_feed (scan-closed (at + 1) None bs n) (b == 10) e
  where
    by_feed : (scan_items (at + 1) None bs ≡ Closed n → QuoteAt bs (at + 1) n) → (t : Bool) → cond t (Broken place) (scan_items (at + 1) None bs) ≡ Closed n → QuoteAt (b ∷ bs) at n
    by_feed rest true is = cc
    by_feed rest false is = next_quote b bs at n (rest is)
scan-closed at None (b ∷ bs) n e = by_quote (scan-closed (at + 1) (cond (b == 92) (Some at) None) bs n) (b == 34) refl e
  where
    by_quote : (scan_items (at + 1) (cond (b == 92) (Some at) None) bs ≡ Closed n → QuoteAt bs (at + 1) n) → (t : Bool) → (b == 34) ≡ t
        → cond t (Closed at) (scan_items (at + 1) (cond (b == 92) (Some at) None) bs) ≡ Closed n → QuoteAt (b ∷ bs) at n
    by_quote rest true here is =
        let same : at ≡ n = cc in
        record { k = 0; is = omega arith; within = omega arith; quote = eqb-true b 34 here }
    by_quote rest false here is = next_quote b bs at n (rest is)

-- the bytes up to this place are items, where a backslash stands just before them or none does
abbrev ItemsBehind : Option ℕ → List ℕ → Type 0
ItemsBehind None bs = AreItemBytes bs
ItemsBehind (Some place) bs = AreItemBytes (92 ∷ bs)

record ItemsTo (backslash : Option ℕ) (bs : List ℕ) (at n : ℕ) : Type 0 where
  k : ℕ
  is : at + k ≡ n
  items : ItemsBehind backslash (take k bs)

differs : (b c : ℕ) → (b == c) ≡ false → b ≢ c
differs b c e = grind (arith, nat_tests, e)

scan-items : (at : ℕ) (backslash : Option ℕ) (bs : List ℕ) (n : ℕ) → scan_items at backslash bs ≡ Closed n → ItemsTo backslash bs at n
scan-items at backslash [] n e = cc
scan-items at (Some place) (b ∷ bs) n e = by_feed (scan-items (at + 1) None bs n) (b == 10) refl e
  where
    by_feed : (scan_items (at + 1) None bs ≡ Closed n → ItemsTo None bs (at + 1) n) → (t : Bool) → (b == 10) ≡ t
        → cond t (Broken place) (scan_items (at + 1) None bs) ≡ Closed n → ItemsTo (Some place) (b ∷ bs) at n
    by_feed rest true feed is = cc
    by_feed rest false feed is =
        let found = rest is in
        record { k = suc found.k; is = omega (arith, found.is); items = escaped_item (differs b 10 feed) found.items }
scan-items at None (b ∷ bs) n e = by_quote (scan-items (at + 1) (cond (b == 92) (Some at) None) bs n) (b == 34) refl e
  where
    by_sign : (t : Bool) → (b == 34) ≡ false → (b == 92) ≡ t → ItemsTo (cond t (Some at) None) bs (at + 1) n → ItemsTo None (b ∷ bs) at n
    by_sign true quote sign found = record {
      k = suc found.k;
      is = omega (arith, found.is);
      items = subst (λ (c : ℕ). AreItemBytes (c ∷ take found.k bs)) (sym (eqb-true b 92 sign)) found.items;
    }
    by_sign false quote sign found = record {
      k = suc found.k;
      is = omega (arith, found.is);
      items = plain_item (differs b 34 quote) (differs b 92 sign) found.items;
    }

    by_quote : (scan_items (at + 1) (cond (b == 92) (Some at) None) bs ≡ Closed n → ItemsTo (cond (b == 92) (Some at) None) bs (at + 1) n) → (t : Bool) → (b == 34) ≡ t
        → cond t (Closed at) (scan_items (at + 1) (cond (b == 92) (Some at) None) bs) ≡ Closed n → ItemsTo None (b ∷ bs) at n
    by_quote rest true here is =
        let same : at ≡ n = cc in
        record { k = 0; is = omega (arith, same); items = no_item }
    by_quote rest false here is = by_sign (b == 92) here refl (rest is)

-- a backslash stands before its place
abbrev Before : Option ℕ → ℕ → Type 0
Before None at = ⊤
Before (Some place) at = place < at

before_next : (t : Bool) (at : ℕ) → Before (cond t (Some at) None) (at + 1)
before_next true at = omega arith
before_next false at = tt

scan-broken : (at : ℕ) (backslash : Option ℕ) (bs : List ℕ) (n : ℕ) → Before backslash at → scan_items at backslash bs ≡ Broken n → n < at + length bs
scan-broken at backslash [] n before e = cc
scan-broken at (Some place) (b ∷ bs) n before e = by_feed (scan-broken (at + 1) None bs n tt) (b == 10) e
  where
    by_feed : (scan_items (at + 1) None bs ≡ Broken n → n < at + 1 + length bs) → (t : Bool) → cond t (Broken place) (scan_items (at + 1) None bs) ≡ Broken n → n < at + length (b ∷ bs)
    by_feed rest true is = let same : place ≡ n = cc in omega arith
    by_feed rest false is = omega (arith, rest is)
scan-broken at None (b ∷ bs) n before e = by_quote (scan-broken (at + 1) (cond (b == 92) (Some at) None) bs n (before_next (b == 92) at)) (b == 34) e
  where
    by_quote : (scan_items (at + 1) (cond (b == 92) (Some at) None) bs ≡ Broken n → n < at + 1 + length bs) → (t : Bool)
        → cond t (Closed at) (scan_items (at + 1) (cond (b == 92) (Some at) None) bs) ≡ Broken n → n < at + length (b ∷ bs)
    by_quote rest true is = cc
    by_quote rest false is = omega (arith, rest is)

-- the place of a broken item is within the text
pub broken_within : (bs : List ℕ) (n : ℕ) → scan_items 0 None bs ≡ Broken n → n < length bs
broken_within bs n e = omega (arith, scan-broken 0 None bs n tt e)

module _ (inner : List ℕ) (n : ℕ) (closed : scan_items 0 None inner ≡ Closed n) where
  found : QuoteAt inner 0 n
  found = scan-closed 0 None inner n closed

  pub closed_within : n < length inner
  closed_within = omega (arith, found.is, found.within)

  quote_at : get_or inner n 0 ≡ 34
  quote_at = let same : n ≡ found.k = omega (arith, found.is) in ap (λ k. get_or inner k 0) same ∙ found.quote

  -- before it stand items
  pub body_items : AreItemBytes (take n inner)
  body_items =
      let to = scan-items 0 None inner n closed in
      let same : to.k ≡ n = omega (arith, to.is) in
      subst (λ k. AreItemBytes (take k inner)) same to.items

  -- it may be cut before the quote that closes it
  pub IsCharBoundary-closed : IsCharBoundary inner n
  IsCharBoundary-closed = IsCharBoundary-before_ascii inner n closed_within (omega (arith, quote_at))

  -- from the quote on
  pub quoted : drop n inner ≡ 34 ∷ drop (n + 1) inner
  quoted =
      let more : suc n ≡ n + 1 = omega arith in
      drop-cons inner n 0 closed_within ∙ ap (λ b. b ∷ drop (suc n) inner) quote_at ∙ ap (λ k. 34 ∷ drop k inner) more

  -- and behind it
  pub IsCharBoundary-quote : IsUtf8 inner → IsCharBoundary (drop n inner) 1
  IsCharBoundary-quote text =
      let low : get_or (drop n inner) 0 0 ≡ 34 = ap (λ (l : List ℕ). get_or l 0 0) quoted in
      let some : 0 < length (drop n inner) = omega (arith, ap length quoted) in
      IsCharBoundary-after_ascii (drop n inner) 0 (IsUtf8-drop inner n text IsCharBoundary-closed) some (omega arith)

  module _ (at : ℕ) (text rest : List ℕ) (good : unescaped (take n inner) ≡ Ok text) (rest_is : rest ≡ drop 1 (drop n inner)) where
    rest_same : drop (n + 1) inner ≡ rest
    rest_same = sym (ap (drop 1) quoted) ∙ sym rest_is

    fault : literal_fault at inner ≡ trailing_fault (at + n + 1) rest
    fault = ap (scanned_fault at inner) closed ∙ rw good refl ∙ ap (trailing_fault (at + n + 1)) rest_same

    -- something follows the literal
    pub fault-trailing : 0 < length rest → literal_fault at inner ≡ Some (BadToken (at + n + 1) (token_at rest))
    fault-trailing some = fault ∙ by_rest rest some
      where
        by_rest : (l : List ℕ) → 0 < length l → trailing_fault (at + n + 1) l ≡ Some (BadToken (at + n + 1) (token_at l))
        by_rest [] some = absurd (omega arith)
        by_rest (b ∷ bs) some = refl

    -- nothing does
    pub fault-none : length rest ≡ 0 → literal_fault at inner ≡ None
    fault-none none = fault ∙ ap (trailing_fault (at + n + 1)) (nil_from_length rest none)

    -- so it is the rest of a literal
    pub closes : length rest ≡ 0 → ClosesLiteral inner text
    closes none = record {
      body = take n inner;
      is = sym (take-append-drop n inner) ∙ ap (λ (l : List ℕ). take n inner ++ l) (quoted ∙ ap (λ (l : List ℕ). 34 ∷ l) (rest_same ∙ nil_from_length rest none));
      items = body_items;
      value = good;
    }

-- where a literal and what follows it have no fault, they are the rest of a literal
pub closes_where_faultless : (at : ℕ) (inner : List ℕ) → literal_fault at inner ≡ None → (text : List ℕ) × ClosesLiteral inner text
closes_where_faultless at inner none = by_scan (scan_items 0 None inner) refl none
  where
    by_rest : (n : ℕ) → scan_items 0 None inner ≡ Closed n → (text : List ℕ) → unescaped (take n inner) ≡ Ok text
        → (rest : List ℕ) → rest ≡ drop (n + 1) inner → trailing_fault (at + n + 1) rest ≡ None → (text : List ℕ) × ClosesLiteral inner text
    by_rest n closed text good [] is none = (
      text,
      record {
        body = take n inner;
        is = sym (take-append-drop n inner) ∙ ap (λ (l : List ℕ). take n inner ++ l) (quoted inner n closed ∙ ap (λ (l : List ℕ). 34 ∷ l) (sym is));
        items = body_items inner n closed;
        value = good;
      },
    )
    by_rest n closed text good (b ∷ bs) is none = cc

    by_value : (n : ℕ) → scan_items 0 None inner ≡ Closed n → (value : Result (List ℕ) ℕ) → unescaped (take n inner) ≡ value
        → first_fault (escape_fault at value) (trailing_fault (at + n + 1) (drop (n + 1) inner)) ≡ None → (text : List ℕ) × ClosesLiteral inner text
    by_value n closed (Ok text) good none = by_rest n closed text good (drop (n + 1) inner) refl none
    by_value n closed (Err bad) good none = cc

    by_scan : (scan : Scan) → scan_items 0 None inner ≡ scan → scanned_fault at inner scan ≡ None → (text : List ℕ) × ClosesLiteral inner text
    by_scan Unclosed is none = cc
    by_scan (Broken n) is none = cc
    by_scan (Closed n) is none = by_value n is (unescaped (take n inner)) refl none
