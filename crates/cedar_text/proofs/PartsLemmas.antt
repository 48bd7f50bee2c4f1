-- SPDX-License-Identifier: Apache-2.0
use Rattle.std.proofs.Common.{◌≡◌, ◌+◌, ◌<◌, ◌&&◌, ℕ, zero, suc, Bool, true, false, cond, List, [], ◌∷◌, ◌++◌, length, take, drop, nat_eq, codes, refl, sym, subst, ap, ap₂, ◌∙◌, arith, append_assoc, length-append, lit<, Some, None}
use Rattle.std.proofs.lemmas.Bool.{false≢true}
use Rattle.std.proofs.lemmas.Bool.Decides.{nat_tests}
use Rattle.std.proofs.lemmas.List.{append-nil, take_at, drop_at, drop-drop, nil_from_length}
use Rattle.std.proofs.lemmas.List.Folds.{length-prefix_len}
use Rattle.std.proofs.lemmas.Str.{IsCharBoundary-after_ascii}
use Rattle.std.specs.Cmp.{first_so, second_so}
use Rattle.std.specs.List.{starts_with, list_all, prefix_len, take_while}
use Rattle.std.specs.Str.{IsUtf8, IsCharBoundary}
use Rattle.cedar_text.specs.Faults.{word_len, bad_token, token_at}
use Rattle.cedar_text.specs.NormalNames.{grow, parts_behind, parts, part_fault, parts_fault}
use Rattle.cedar_text.specs.Words.{is_word_start, is_word_byte, is_word}
use Rattle.cedar_text.specs.declared.fault.NameFault.TheVariants.{Empty, BadToken}

-- every text has a first part
pub record HasFirst (ps : List (List ℕ)) : Type 0 where
  pub first : List ℕ
  pub others : List (List ℕ)
  pub is : ps ≡ first ∷ others

grow-first : (b : ℕ) (ps : List (List ℕ)) → HasFirst ps → HasFirst (grow b ps)
grow-first b ps has = record { first = b ∷ has.first; others = has.others; is = ap (grow b) has.is }

cond-first : (c : Bool) (ps qs : List (List ℕ)) → HasFirst ps → HasFirst qs → HasFirst (cond c ps qs)
cond-first true ps qs left right = left
cond-first false ps qs left right = right

pub parts-first : (skipped : ℕ) (bs : List ℕ) → HasFirst (parts_behind skipped bs)
parts-first skipped [] = record { first = []; others = []; is = refl }
parts-first (suc skipped) (b ∷ bs) = parts-first skipped bs
parts-first zero (b ∷ bs) =
    cond-first (starts_with nat_eq (b ∷ bs) (codes "::")) ([] ∷ parts_behind 1 bs) (grow b (parts_behind 0 bs))
    (record { first = []; others = parts_behind 1 bs; is = refl }) (grow-first b (parts_behind 0 bs) (parts-first 0 bs))

-- bytes at the front of the first part
abbrev pub grow_all : List ℕ → List (List ℕ) → List (List ℕ)
grow_all [] ps = ps
grow_all (b ∷ w) ps = grow b (grow_all w ps)

pub grow_all-first : (w p : List ℕ) (ps : List (List ℕ)) → grow_all w (p ∷ ps) ≡ (w ++ p) ∷ ps
grow_all-first [] p ps = refl
grow_all-first (b ∷ w) p ps = ap (grow b) (grow_all-first w p ps)

-- no byte of a word is a colon
no_colon : (b : ℕ) → is_word_byte b ≡ true → nat_eq 58 b ≡ false
no_colon b word = grind (arith, nat_tests, word)

pub start-byte : (b : ℕ) → is_word_start b ≡ true → is_word_byte b ≡ true
start-byte b start = grind (arith, nat_tests, start)

no_separator : (b : ℕ) (bs : List ℕ) → is_word_byte b ≡ true → starts_with nat_eq (b ∷ bs) (codes "::") ≡ false
no_separator b bs word = rw (no_colon b word) refl

-- a text that begins with bytes of a word
pub parts-word : (w rest : List ℕ) → list_all is_word_byte w ≡ true → parts (w ++ rest) ≡ grow_all w (parts rest)
parts-word [] rest all = refl
parts-word (b ∷ w) rest all =
    let word : is_word_byte b ≡ true = first_so (is_word_byte b) (list_all is_word_byte w) all in
    let others : list_all is_word_byte w ≡ true = second_so (is_word_byte b) (list_all is_word_byte w) all in
    rw (no_colon b word) (ap (grow b) (parts-word w rest others))

-- the longest word at the front of a text, and what follows it
pub record WordFront (rest : List ℕ) (n : ℕ) : Type 0 where
  pub word : List ℕ
  pub after : List ℕ
  pub is : rest ≡ word ++ after
  pub len : length word ≡ n
  pub is_one : is_word word ≡ true
  pub bytes : list_all is_word_byte word ≡ true
  pub stops : (c : ℕ) (cs : List ℕ) → after ≡ c ∷ cs → is_word_byte c ≡ false

-- the front of a list that goes on a word
record Goes (bs : List ℕ) : Type 0 where
  front : List ℕ
  after : List ℕ
  is : bs ≡ front ++ after
  len : length front ≡ prefix_len is_word_byte bs
  bytes : list_all is_word_byte front ≡ true
  stops : (c : ℕ) (cs : List ℕ) → after ≡ c ∷ cs → is_word_byte c ≡ false

goes : (bs : List ℕ) → Goes bs
goes [] = record { front = []; after = []; is = refl; len = refl; bytes = refl; stops = λ c cs e. cc }
goes (b ∷ bs) = by_byte (goes bs) (is_word_byte b) refl
  where
    by_byte : Goes bs → (t : Bool) → is_word_byte b ≡ t → Goes (b ∷ bs)
    by_byte more true e = record {
      front = b ∷ more.front;
      after = more.after;
      is = ap (λ (l : List ℕ). b ∷ l) more.is;
      len = rw e (ap (λ k. suc k) more.len ∙ omega arith);
      bytes = rw (e, more.bytes) refl;
      stops = more.stops;
    }
    by_byte more false e = record {
      front = [];
      after = b ∷ bs;
      is = refl;
      len = rw e refl;
      bytes = refl;
      stops = λ c cs same. let head : b ≡ c = cc in subst (λ x. is_word_byte x ≡ false) head e;
    }

-- a text with a word at its front
pub word-front : (rest : List ℕ) (n : ℕ) → n ≡ word_len rest → 0 < n → WordFront rest n
word-front [] n e some = absurd (omega arith)
word-front (b ∷ bs) n e some = by_start (is_word_start b) refl e
  where
    by_start : (t : Bool) → is_word_start b ≡ t → n ≡ cond t (1 + length (take_while is_word_byte bs)) 0 → WordFront (b ∷ bs) n
    by_start true start is =
        let more = goes bs in
        let counted = length-prefix_len is_word_byte bs in
        record {
          word = b ∷ more.front;
          after = more.after;
          is = ap (λ (l : List ℕ). b ∷ l) more.is;
          len = omega (arith, more.len);
          is_one = rw (start, more.bytes) refl;
          bytes = rw (start-byte b start, more.bytes) refl;
          stops = more.stops;
        }
    by_start false start is = absurd (omega arith)

-- bytes that go on a word, and then one that doesn't
list_all-stop : (bs p : List ℕ) (c : ℕ) → is_word_byte c ≡ false → list_all is_word_byte (bs ++ c ∷ p) ≡ false
list_all-stop [] p c e = rw e refl
list_all-stop (b ∷ bs) p c e = ap (λ t. is_word_byte b && t) (list_all-stop bs p c e) ∙ never (is_word_byte b)
  where
    never : (t : Bool) → t && false ≡ false
    never true = refl
    never false = refl

prefix_len-stop : (bs p : List ℕ) (c : ℕ) → list_all is_word_byte bs ≡ true → is_word_byte c ≡ false → prefix_len is_word_byte (bs ++ c ∷ p) ≡ length bs
prefix_len-stop [] p c all e = rw e refl
prefix_len-stop (b ∷ bs) p c all e =
    let word : is_word_byte b ≡ true = first_so (is_word_byte b) (list_all is_word_byte bs) all in
    let others : list_all is_word_byte bs ≡ true = second_so (is_word_byte b) (list_all is_word_byte bs) all in
    let rest : prefix_len is_word_byte (bs ++ c ∷ p) ≡ length bs = prefix_len-stop bs p c others e in
    rw (word, rest) (omega arith)

-- a word with something behind it that doesn't go on the word
pub overlong : (w p : List ℕ) (c : ℕ) → is_word w ≡ true → is_word_byte c ≡ false → (is_word (w ++ c ∷ p) ≡ false) × (word_len (w ++ c ∷ p) ≡ length w)
overlong [] p c word e = cc
overlong (b ∷ bs) p c word e =
    let start : is_word_start b ≡ true = first_so (is_word_start b) (list_all is_word_byte bs) word in
    let all : list_all is_word_byte bs ≡ true = second_so (is_word_start b) (list_all is_word_byte bs) word in
    let counted = length-prefix_len is_word_byte (bs ++ c ∷ p) in
    let stopped = prefix_len-stop bs p c all e in
    (rw (start, list_all-stop bs p c e) refl, rw start (omega arith))

-- two colons at the front
pub colons : (after : List ℕ) → starts_with nat_eq after (codes "::") ≡ true → after ≡ codes "::" ++ drop 2 after
colons [] e = cc
colons (c ∷ []) e = absurd (false≢true (sym (second_false (nat_eq 58 c)) ∙ e))
  where
    second_false : (t : Bool) → t && false ≡ false
    second_false true = refl
    second_false false = refl
colons (c ∷ d ∷ tail) e =
    let first : nat_eq 58 c ≡ true = first_so (nat_eq 58 c) (nat_eq 58 d && true) e in
    let rest : nat_eq 58 d && true ≡ true = second_so (nat_eq 58 c) (nat_eq 58 d && true) e in
    let second : nat_eq 58 d ≡ true = first_so (nat_eq 58 d) true rest in
    let c_is : 58 ≡ c = grind (arith, nat_tests, first) in
    let d_is : 58 ≡ d = grind (arith, nat_tests, second) in
    ap₂ (λ (x y : ℕ). x ∷ y ∷ tail) (sym c_is) (sym d_is)

-- the parts of a text that begins with two colons, and of one that doesn't
parts-colons : (tail : List ℕ) → parts (codes "::" ++ tail) ≡ [] ∷ parts tail
parts-colons tail = refl

parts-other : (c : ℕ) (cs : List ℕ) → starts_with nat_eq (c ∷ cs) (codes "::") ≡ false → parts (c ∷ cs) ≡ grow c (parts cs)
parts-other c cs e = rw e refl

module _ (s : List ℕ) (at : ℕ) (rest : List ℕ) (n : ℕ) (front : WordFront rest n) where
  -- the parts after a word at the front
  split_parts : parts rest ≡ grow_all front.word (parts front.after)
  split_parts = ap parts front.is ∙ parts-word front.word front.after front.bytes

  -- the text ends with the word
  pub parts-end : front.after ≡ [] → parts rest ≡ front.word ∷ []
  parts-end none =
      split_parts ∙ ap (λ (l : List ℕ). grow_all front.word (parts l)) none ∙ grow_all-first front.word [] [] ∙ ap (λ (w : List ℕ). w ∷ []) (append-nil front.word)

  -- two colons follow the word
  pub parts-more : starts_with nat_eq front.after (codes "::") ≡ true → parts rest ≡ front.word ∷ parts (drop 2 front.after)
  parts-more e =
      split_parts ∙ ap (λ (l : List ℕ). grow_all front.word (parts l)) (colons front.after e) ∙ grow_all-first front.word [] (parts (drop 2 front.after))
      ∙ ap (λ (w : List ℕ). w ∷ parts (drop 2 front.after)) (append-nil front.word)

  -- so the fault is that of the rest
  pub fault-more : starts_with nat_eq front.after (codes "::") ≡ true → parts_fault s at (parts rest) ≡ parts_fault s (at + n + 2) (parts (drop 2 front.after))
  fault-more e =
      ap (parts_fault s at) (parts-more e)
      ∙ rw (front.is_one, front.len) refl

  pub fault-end : front.after ≡ [] → parts_fault s at (parts rest) ≡ None
  fault-end none = ap (parts_fault s at) (parts-end none) ∙ rw front.is_one refl

  -- something else follows the word
  pub fault-other : (c : ℕ) (cs : List ℕ) → front.after ≡ c ∷ cs → starts_with nat_eq front.after (codes "::") ≡ false → parts_fault s at (parts rest) ≡ Some (bad_token s (at + n))
  fault-other c cs is e =
      let first = parts-first 0 cs in
      let other : parts front.after ≡ (c ∷ first.first) ∷ first.others =
      ap parts is ∙ parts-other c cs (subst (λ (l : List ℕ). starts_with nat_eq l (codes "::") ≡ false) is e) ∙ ap (grow c) first.is in
      let whole : parts rest ≡ (front.word ++ c ∷ first.first) ∷ first.others = split_parts ∙ ap (grow_all front.word) other ∙ grow_all-first front.word (c ∷ first.first) first.others in
      let long = overlong front.word first.first c front.is_one (front.stops c cs is) in
      ap (parts_fault s at) whole ∙ rw long.0 (ap Some (longer front.word first.first c first.others front.is_one ∙ ap (λ k. bad_token s (at + k)) (long.1 ∙ front.len)))
    where
      longer : (w p : List ℕ) (c : ℕ) (qs : List (List ℕ)) → is_word w ≡ true → part_fault s at (w ++ c ∷ p) qs ≡ bad_token s (at + word_len (w ++ c ∷ p))
      longer [] p c qs word = cc
      longer (b ∷ bs) p c qs word = refl

-- no word begins where one has to
pub fault-missing : (s : List ℕ) (at : ℕ) (rest : List ℕ) → rest ≡ drop at s → 0 < length rest → word_len rest ≡ 0 → parts_fault s at (parts rest) ≡ Some (BadToken at (token_at rest))
fault-missing s at [] is some none = absurd (omega arith)
fault-missing s at (c ∷ cs) is some none = by_start (is_word_start c) refl none
  where
    at_colons : (ps : List (List ℕ)) → HasFirst ps → parts_fault s at ([] ∷ ps) ≡ Some (bad_token s at)
    at_colons ps has = rw has.is refl

    by_separator : is_word_start c ≡ false → (t : Bool) → starts_with nat_eq (c ∷ cs) (codes "::") ≡ t → parts_fault s at (cond t ([] ∷ parts_behind 1 cs) (grow c (parts cs))) ≡ Some (bad_token s at)
    by_separator start true e = at_colons (parts_behind 1 cs) (parts-first 1 cs)
    by_separator start false e =
        let first = parts-first 0 cs in
        let here : at + 0 ≡ at = omega arith in
        ap (λ (ps : List (List ℕ)). parts_fault s at (grow c ps)) first.is ∙ rw (start, here) refl

    by_start : (t : Bool) → is_word_start c ≡ t → cond t (1 + length (take_while is_word_byte cs)) 0 ≡ 0 → parts_fault s at (parts (c ∷ cs)) ≡ Some (BadToken at (token_at (c ∷ cs)))
    by_start true start is_none = absurd (omega arith)
    by_start false start is_none = by_separator start (starts_with nat_eq (c ∷ cs) (codes "::")) refl ∙ ap (λ (l : List ℕ). Some (BadToken at (token_at l))) (sym is)

-- the words so far, and the rest of a text that begins at this place
pub record Parsed (s : List ℕ) (at : ℕ) (rest : List ℕ) (words : List (List ℕ)) : Type 0 where
  pub split : rest ≡ drop at s
  pub within : at + length rest ≡ length s
  pub so_far : parts s ≡ words ++ parts rest
  pub fault : parts_fault s 0 (parts s) ≡ parts_fault s at (parts rest)

-- a text may be cut behind two colons at its front
pub IsCharBoundary-colons : (after : List ℕ) → IsUtf8 after → starts_with nat_eq after (codes "::") ≡ true → IsCharBoundary after 2
IsCharBoundary-colons after text e =
    let same = colons after e in
    let cut : IsUtf8 (codes "::" ++ drop 2 after) → IsCharBoundary (codes "::" ++ drop 2 after) 2 = λ t. IsCharBoundary-after_ascii (codes "::" ++ drop 2 after) 1 t (omega arith) (lit< tt) in
    subst (λ (l : List ℕ). IsCharBoundary l 2) (sym same) (cut (subst IsUtf8 same text))

module _ (s : List ℕ) (at : ℕ) (rest : List ℕ) (words : List (List ℕ)) (so_far : Parsed s at rest words) (n : ℕ) (counted : n ≡ word_len rest) where
  -- no word begins
  pub Parsed-missing : 0 < length rest → n ≡ 0 → parts_fault s 0 (parts s) ≡ Some (BadToken at (token_at rest))
  Parsed-missing some none = so_far.fault ∙ fault-missing s at rest so_far.split some (sym counted ∙ none)

  module _ (some : 0 < n) (word after : List ℕ) (word_is : word ≡ take n rest) (after_is : after ≡ drop n rest) where
    front : WordFront rest n
    front = word-front rest n counted some

    same_word : front.word ≡ word
    same_word = sym (take_at front.word front.after n front.len) ∙ ap (take n) (sym front.is) ∙ sym word_is

    same_after : front.after ≡ after
    same_after = sym (drop_at front.word front.after n front.len) ∙ ap (drop n) (sym front.is) ∙ sym after_is

    -- the text ends with the word
    pub Parsed-end : length after ≡ 0 → (parts_fault s 0 (parts s) ≡ None) × (words ++ word ∷ [] ≡ parts s)
    Parsed-end none =
        let last : front.after ≡ [] = same_after ∙ nil_from_length after none in (
          so_far.fault ∙ fault-end s at rest n front last,
          sym (so_far.so_far ∙ ap (λ (ps : List (List ℕ)). words ++ ps) (parts-end s at rest n front last ∙ ap (λ (w : List ℕ). w ∷ []) same_word)),
        )

    at_after : drop (at + n) s ≡ after
    at_after = sym (drop-drop n at s) ∙ ap (drop n) (sym so_far.split) ∙ sym after_is

    -- something else than two colons follows the word
    pub Parsed-other : 0 < length after → starts_with nat_eq after (codes "::") ≡ false → parts_fault s 0 (parts s) ≡ Some (BadToken (at + n) (token_at after))
    Parsed-other more e = by_after after refl
      where
        by_after : (l : List ℕ) → after ≡ l → parts_fault s 0 (parts s) ≡ Some (BadToken (at + n) (token_at after))
        by_after [] is = absurd (omega (arith, ap length is))
        by_after (c ∷ cs) is =
            so_far.fault ∙ fault-other s at rest n front c cs (same_after ∙ is) (subst (λ (l : List ℕ). starts_with nat_eq l (codes "::") ≡ false) (sym same_after) e)
            ∙ ap (λ (l : List ℕ). Some (BadToken (at + n) (token_at l))) at_after

    -- two colons follow the word
    pub Parsed-next : starts_with nat_eq after (codes "::") ≡ true → Parsed s (at + (n + 2)) (drop 2 after) (words ++ word ∷ [])
    Parsed-next e =
        let found : starts_with nat_eq front.after (codes "::") ≡ true = subst (λ (l : List ℕ). starts_with nat_eq l (codes "::") ≡ true) (sym same_after) e in
        let long : 2 + length (drop 2 after) ≡ length after = omega (arith, ap length (colons after e)) in
        let whole : n + length after ≡ length rest = omega (arith, ap length front.is, length-append front.word front.after, front.len, ap length same_after) in
        let sum : at + n + 2 ≡ at + (n + 2) = omega arith in
        record {
          split = ap (drop 2) (sym at_after) ∙ drop-drop 2 (at + n) s ∙ ap (λ k. drop k s) sum;
          within = omega (arith, so_far.within);
          so_far =
              so_far.so_far ∙ ap (λ (ps : List (List ℕ)). words ++ ps) (parts-more s at rest n front found ∙ ap₂ (λ (w l : List ℕ). w ∷ parts (drop 2 l)) same_word same_after)
              ∙ sym (append_assoc words (word ∷ []) (parts (drop 2 after)));
          fault = so_far.fault ∙ fault-more s at rest n front found ∙ ap₂ (λ (k : ℕ) (l : List ℕ). parts_fault s k (parts (drop 2 l))) sum same_after;
        }

-- the text ends where a word has to begin
pub Parsed-open : (s : List ℕ) (at : ℕ) (rest : List ℕ) (words : List (List ℕ)) → Parsed s at rest words → length rest ≡ 0 → (parts_fault s 0 (parts s) ≡ Some Empty) × (words ++ [] ∷ [] ≡ parts s)
Parsed-open s at rest words so_far none =
    let last : rest ≡ [] = nil_from_length rest none in
    (so_far.fault ∙ ap (λ (l : List ℕ). parts_fault s at (parts l)) last, sym (so_far.so_far ∙ ap (λ (l : List ℕ). words ++ parts l) last))
