-- SPDX-License-Identifier: Apache-2.0
-- Going back along annotations finds the key that a word repeats, and misses none.
use Rattle.std.proofs.Common.{◌≡◌, ◌≤◌, ℕ, Bool, true, false, ◌&&◌, IsTrue, cond, List, [], ◌∷◌, ◌++◌, length, map, codes, Option, option_map, refl, ap, sym, ◌∙◌, subst, arith}
use Rattle.std.specs.Str.{bytes_eq}
use Rattle.std.proofs.lemmas.Slice.Eq.{bytes_eq-Decides}
use Rattle.std.proofs.lemmas.List.{map-append, same_from_push, length-append}
use Rattle.cedar_tokens.specs.Lexemes.{TextToken, lexeme_token}
use Rattle.cedar_tokens.specs.declared.lexeme.Lexeme.{Lexeme}
use Rattle.cedar_tokens.specs.declared.token.TokenKind.{TokenKind}
use Rattle.cedar_tokens.specs.declared.token.TokenKind.TheVariants as kind
use Rattle.cedar_text.specs.Words.{is_word}
use Rattle.cedar_grammar.specs.Grammar.{is_mark_token, is_punct_kind, is_str_kind, is_word_token, is_word_kind}
use Rattle.cedar_syntax.specs.Causes.{AreAnnotations, no_more, key_alone, with_value, IsRepeatedKey}
use Rattle.cedar_syntax.specs.Marks.{bare}
use Rattle.cedar_syntax.specs.Repeats.{seen_with, seen_from, found_key, key_in}
use Rattle.cedar_syntax.specs.Steps.{TellsRepeat}
use Rattle.cedar_syntax.specs.declared.repeats.Seen.{Seen}
use Rattle.cedar_syntax.specs.declared.repeats.Seen.TheVariants.{Annotations, Closing, Literal, Opening, Key, Repeated, Other}

-- a fact of either choice is one of the choice
tested : {A : Type 0} (P : A → Type 0) (b : Bool) (x y : A) → (IsTrue b → P x) → P y → P (cond b x y)
tested P true x y holds fails = holds refl
tested P false x y holds fails = fails

-- one step back from a push
pub seen_from-push : (word : List ℕ) (seen : Seen) (ls : List Lexeme) (l : Lexeme) → seen_from word seen (ls ++ l ∷ []) ≡ seen_from word (seen_with word l seen) ls
seen_from-push word seen [] l = refl
seen_from-push word seen (m ∷ ls) l = ap (seen_with word m) (seen_from-push word seen ls l)

-- whole annotations are seen, or the key
abbrev IsWhole : Seen → Type 0
IsWhole Annotations = Unit {0}
IsWhole (Repeated k) = Unit {0}
IsWhole _ = ⊥

-- the key is seen
abbrev IsFound : Seen → Type 0
IsFound (Repeated k) = Unit {0}
IsFound _ = ⊥

found_whole : (seen : Seen) → IsFound seen → IsWhole seen
found_whole (Repeated k) h = tt
found_whole Annotations h = tt
found_whole Closing h = h
found_whole Literal h = h
found_whole Opening h = h
found_whole (Key k) h = h
found_whole Other h = h

-- what is found stays found
found_step : (word : List ℕ) (l : Lexeme) (seen : Seen) → IsFound seen → IsFound (seen_with word l seen)
found_step word l (Repeated k) h = tt
found_step word l Annotations h = absurd h
found_step word l Closing h = absurd h
found_step word l Literal h = absurd h
found_step word l Opening h = absurd h
found_step word l (Key k) h = absurd h
found_step word l Other h = absurd h

-- an annotation without a value, before whole annotations
alone_whole : (word : List ℕ) (l m : Lexeme) (seen : Seen) → IsWhole seen → IsTrue (is_mark_token (codes "@") (bare l)) → IsTrue (is_word_kind m.kind) → IsWhole (seen_with word l (seen_with word m seen))
alone_whole word l m (Repeated k) h at key = tt
alone_whole word l m Annotations h at key = rw (key, at) (tested IsWhole (bytes_eq m.text.now word) (Repeated m) Annotations (λ same. tt) tt)
alone_whole word l m Closing h at key = absurd h
alone_whole word l m Literal h at key = absurd h
alone_whole word l m Opening h at key = absurd h
alone_whole word l m (Key k) h at key = absurd h
alone_whole word l m Other h at key = absurd h

-- an annotation with a value, before whole annotations
valued_whole : (word : List ℕ) (l m o v c : Lexeme) (seen : Seen) → IsWhole seen → IsTrue (is_mark_token (codes "@") (bare l)) → IsTrue (is_word_kind m.kind)
    → IsTrue (is_mark_token (codes "(") (bare o)) → IsTrue (is_str_kind v.kind) → IsTrue (is_mark_token (codes ")") (bare c)) → is_word_kind c.kind ≡ false
    → IsWhole (seen_with word l (seen_with word m (seen_with word o (seen_with word v (seen_with word c seen)))))
valued_whole word l m o v c (Repeated k) h at key opening value closing other = tt
valued_whole word l m o v c Annotations h at key opening value closing other =
    rw (other, closing, value, opening, key, at) (tested IsWhole (bytes_eq m.text.now word) (Repeated m) Annotations (λ same. tt) tt)
valued_whole word l m o v c Closing h at key opening value closing other = absurd h
valued_whole word l m o v c Literal h at key opening value closing other = absurd h
valued_whole word l m o v c Opening h at key opening value closing other = absurd h
valued_whole word l m o v c (Key k) h at key opening value closing other = absurd h
valued_whole word l m o v c Other h at key opening value closing other = absurd h

-- a mark is no word
mark_no_word : (k : TokenKind) (b : Bool) → IsTrue (is_punct_kind k && b) → is_word_kind k ≡ false
mark_no_word kind.Word b h = sym h
mark_no_word kind.Str b h = refl
mark_no_word kind.Punct b h = refl

-- a test of a token is one of the lexeme that it is
moved : (P : TextToken → Bool) (source : List ℕ) (l : Lexeme) (t : TextToken) → lexeme_token source l ≡ t → IsTrue (P t) → IsTrue (P (lexeme_token source l))
moved P source l t same h = subst (λ u. IsTrue (P u)) (sym same) h

module _ (source word : List ℕ) where
  -- annotations are seen whole
  whole : (ts : List TextToken) → AreAnnotations ts → (ls : List Lexeme) → map (lexeme_token source) ls ≡ ts → IsWhole (seen_from word Annotations ls)
  whole _ no_more [] same = tt
  whole _ no_more (l ∷ ls) same = absurd cc
  whole _ (key_alone a k h) [] same = absurd cc
  whole _ (key_alone a k h) (l ∷ []) same = absurd cc
  whole _ (key_alone {at} {key} {rest} a k h) (l ∷ m ∷ ls) same =
      let first : lexeme_token source l ≡ at = cc in
      let second : lexeme_token source m ≡ key = cc in
      alone_whole word l m (seen_from word Annotations ls) (whole rest h ls cc) (moved (is_mark_token (codes "@")) source l at first a) (moved is_word_token source m key second k)
  whole _ (with_value a k o v c h) [] same = absurd cc
  whole _ (with_value a k o v c h) (l ∷ []) same = absurd cc
  whole _ (with_value a k o v c h) (l ∷ m ∷ []) same = absurd cc
  whole _ (with_value a k o v c h) (l ∷ m ∷ p ∷ []) same = absurd cc
  whole _ (with_value a k o v c h) (l ∷ m ∷ p ∷ q ∷ []) same = absurd cc
  whole _ (with_value {at} {key} {opening} {value} {closing} {rest} a k o v c h) (l ∷ m ∷ p ∷ q ∷ r ∷ ls) same =
      let first : lexeme_token source l ≡ at = cc in
      let second : lexeme_token source m ≡ key = cc in
      let third : lexeme_token source p ≡ opening = cc in
      let fourth : lexeme_token source q ≡ value = cc in
      let fifth : lexeme_token source r ≡ closing = cc in
      let mark : IsTrue (is_mark_token (codes ")") (bare r)) = moved (is_mark_token (codes ")")) source r closing fifth c in
      valued_whole word l m p q r (seen_from word Annotations ls) (whole rest h ls cc) (moved (is_mark_token (codes "@")) source l at first a) (moved is_word_token source m key second k)
      (moved (is_mark_token (codes "(")) source p opening third o) (moved (λ t. is_str_kind t.kind) source q value fourth v) mark (mark_no_word r.kind (bytes_eq r.text.now (codes ")")) mark)

-- the key with the word is found, before whole annotations
alone_found : (word : List ℕ) (l m : Lexeme) (seen : Seen) → IsWhole seen → IsTrue (is_mark_token (codes "@") (bare l)) → IsTrue (is_word_kind m.kind) → bytes_eq m.text.now word ≡ true
    → IsFound (seen_with word l (seen_with word m seen))
alone_found word l m (Repeated k) h at key same = tt
alone_found word l m Annotations h at key same = rw (key, at, same) tt
alone_found word l m Closing h at key same = absurd h
alone_found word l m Literal h at key same = absurd h
alone_found word l m Opening h at key same = absurd h
alone_found word l m (Key k) h at key same = absurd h
alone_found word l m Other h at key same = absurd h

valued_found : (word : List ℕ) (l m o v c : Lexeme) (seen : Seen) → IsWhole seen → IsTrue (is_mark_token (codes "@") (bare l)) → IsTrue (is_word_kind m.kind)
    → IsTrue (is_mark_token (codes "(") (bare o)) → IsTrue (is_str_kind v.kind) → IsTrue (is_mark_token (codes ")") (bare c)) → is_word_kind c.kind ≡ false → bytes_eq m.text.now word ≡ true
    → IsFound (seen_with word l (seen_with word m (seen_with word o (seen_with word v (seen_with word c seen)))))
valued_found word l m o v c (Repeated k) h at key opening value closing other same = tt
valued_found word l m o v c Annotations h at key opening value closing other same = rw (other, closing, value, opening, key, at, same) tt
valued_found word l m o v c Closing h at key opening value closing other same = absurd h
valued_found word l m o v c Literal h at key opening value closing other same = absurd h
valued_found word l m o v c Opening h at key opening value closing other same = absurd h
valued_found word l m o v c (Key k) h at key opening value closing other same = absurd h
valued_found word l m o v c Other h at key opening value closing other same = absurd h

module _ (source word : List ℕ) where
  -- the first key of annotations, where it is the word
  found_head : (ts : List TextToken) → AreAnnotations ts → (l m : Lexeme) (ls : List Lexeme) → lexeme_token source l ∷ lexeme_token source m ∷ map (lexeme_token source) ls ≡ ts
      → bytes_eq m.text.now word ≡ true → IsFound (seen_from word Annotations (l ∷ m ∷ ls))
  found_head _ no_more l m ls same equal = absurd cc
  found_head _ (key_alone {at} {key} {rest} a k h) l m ls same equal =
      let first : lexeme_token source l ≡ at = cc in
      let second : lexeme_token source m ≡ key = cc in
      alone_found word l m (seen_from word Annotations ls) (whole source word rest h ls cc) (moved (is_mark_token (codes "@")) source l at first a) (moved is_word_token source m key second k) equal
  found_head _ (with_value a k o v c h) l m [] same equal = absurd cc
  found_head _ (with_value a k o v c h) l m (p ∷ []) same equal = absurd cc
  found_head _ (with_value a k o v c h) l m (p ∷ q ∷ []) same equal = absurd cc
  found_head _ (with_value {at} {key} {opening} {value} {closing} {rest} a k o v c h) l m (p ∷ q ∷ r ∷ ls) same equal =
      let first : lexeme_token source l ≡ at = cc in
      let second : lexeme_token source m ≡ key = cc in
      let third : lexeme_token source p ≡ opening = cc in
      let fourth : lexeme_token source q ≡ value = cc in
      let fifth : lexeme_token source r ≡ closing = cc in
      let mark : IsTrue (is_mark_token (codes ")") (bare r)) = moved (is_mark_token (codes ")")) source r closing fifth c in
      valued_found word l m p q r (seen_from word Annotations ls) (whole source word rest h ls cc) (moved (is_mark_token (codes "@")) source l at first a) (moved is_word_token source m key second k)
      (moved (is_mark_token (codes "(")) source p opening third o) (moved (λ t. is_str_kind t.kind) source q value fourth v) mark (mark_no_word r.kind (bytes_eq r.text.now (codes ")")) mark) equal

  -- behind other tokens
  found_behind : (outside : List TextToken) (at first : TextToken) (after : List TextToken) → AreAnnotations (at ∷ first ∷ after) → bytes_eq first.text word ≡ true
      → (ls : List Lexeme) → map (lexeme_token source) ls ≡ outside ++ (at ∷ first ∷ after) → IsFound (seen_from word Annotations ls)
  found_behind [] at first after list equal [] same = absurd cc
  found_behind [] at first after list equal (l ∷ []) same = absurd cc
  found_behind [] at first after list equal (l ∷ m ∷ ls) same =
      let second : lexeme_token source m ≡ first = cc in
      found_head (at ∷ first ∷ after) list l m ls same (ap (λ (t : TextToken). bytes_eq t.text word) second ∙ equal)
  found_behind (o ∷ outside) at first after list equal [] same = absurd cc
  found_behind (o ∷ outside) at first after list equal (l ∷ ls) same =
      found_step word l (seen_from word Annotations ls) (found_behind outside at first after list equal ls cc)

-- a word with a mark `@` before it begins annotations with what follows
abbrev Behind : List TextToken → Type 0
Behind ts = (at key : TextToken) → IsTrue (is_mark_token (codes "@") at) → IsTrue (is_word_token key) → AreAnnotations (at ∷ key ∷ ts)

module _ (source word : List ℕ) where
  -- in these tokens no key with the word has fewer tokens behind it than these
  abbrev Nearest : List TextToken → List TextToken → Type 0
  Nearest ts after =
      (outside : List TextToken) (at first : TextToken) (behind : List TextToken) → ts ≡ outside ++ (at ∷ first ∷ behind) → AreAnnotations (at ∷ first ∷ behind)
      → IsTrue (bytes_eq first.text word) → length after ≤ length behind

  -- in these tokens a key with the word is found
  abbrev Finds : List TextToken → Seen → Type 0
  Finds ts seen =
      (outside : List TextToken) (at first : TextToken) (behind : List TextToken) → ts ≡ outside ++ (at ∷ first ∷ behind) → AreAnnotations (at ∷ first ∷ behind)
      → IsTrue (bytes_eq first.text word) → IsFound seen

  -- the first key with the word from the end
  nearest_here : (l : TextToken) (k : Lexeme) (ts after : List TextToken) → ts ≡ lexeme_token source k ∷ after → Finds ts (Key k) → Nearest (l ∷ ts) after
  nearest_here l k ts after is none [] at first behind same list equal = omega (arith, ap length same, ap length is)
  nearest_here l k ts after is none (o ∷ outside) at first behind same list equal =
      let others : ts ≡ outside ++ (at ∷ first ∷ behind) = cc in
      absurd (none outside at first behind others list equal)

  -- it stays the nearest with tokens before it
  nearest_on : (l at k : TextToken) (ts outside after : List TextToken) → ts ≡ outside ++ (at ∷ k ∷ after) → Nearest ts after → Nearest (l ∷ ts) after
  nearest_on l at k ts outside after is near [] at' first behind same list equal = omega (arith, ap length same, ap length is, length-append outside (at ∷ k ∷ after))
  nearest_on l at k ts outside after is near (o ∷ outside') at' first behind same list equal =
      let others : ts ≡ outside' ++ (at' ∷ first ∷ behind) = cc in
      near outside' at' first behind others list equal

  -- what the tokens have at their front, of which so much was seen
  abbrev Shows : List TextToken → Seen → Type 0
  Shows ts Annotations = AreAnnotations ts
  Shows ts Closing = (opening value : TextToken) → IsTrue (is_mark_token (codes "(") opening) → IsTrue (is_str_kind value.kind) → Behind (opening ∷ value ∷ ts)
  Shows ts Literal = (opening : TextToken) → IsTrue (is_mark_token (codes "(") opening) → Behind (opening ∷ ts)
  Shows ts Opening = Behind ts
  Shows ts (Key k) = (after : List TextToken) × (ts ≡ lexeme_token source k ∷ after) × ((at : TextToken) → IsTrue (is_mark_token (codes "@") at) → AreAnnotations (at ∷ lexeme_token source k ∷ after))
  Shows ts (Repeated k) =
      (outside : List TextToken) × (at : TextToken) × (after : List TextToken) × (ts ≡ outside ++ (at ∷ lexeme_token source k ∷ after))
      × AreAnnotations (at ∷ lexeme_token source k ∷ after) × IsTrue (bytes_eq k.text.now word) × Nearest ts after
  Shows ts Other = Unit {0}

  -- one token more
  shows_step : (l : Lexeme) (ts : List TextToken) (seen : Seen) → Finds ts seen → Shows ts seen → Shows (lexeme_token source l ∷ ts) (seen_with word l seen)
  shows_step l ts Annotations found h =
      tested (Shows (lexeme_token source l ∷ ts)) (is_word_kind l.kind) (Key l) (cond (is_mark_token (codes ")") (bare l)) Closing Other)
      (λ key. (ts, refl, λ at a. key_alone a key h))
      (tested (Shows (lexeme_token source l ∷ ts)) (is_mark_token (codes ")") (bare l)) Closing Other (λ closing opening value o v at key a k. with_value a k o v closing h) tt)
  shows_step l ts Closing found h = tested (Shows (lexeme_token source l ∷ ts)) (is_str_kind l.kind) Literal Other (λ value opening o. h opening (lexeme_token source l) o value) tt
  shows_step l ts Literal found h = tested (Shows (lexeme_token source l ∷ ts)) (is_mark_token (codes "(") (bare l)) Opening Other (λ opening. h (lexeme_token source l) opening) tt
  shows_step l ts Opening found h = tested (Shows (lexeme_token source l ∷ ts)) (is_word_kind l.kind) (Key l) Other (λ key. (ts, refl, λ at a. h at (lexeme_token source l) a key)) tt
  shows_step l ts (Key k) found h =
      tested (Shows (lexeme_token source l ∷ ts)) (is_mark_token (codes "@") (bare l)) (cond (bytes_eq k.text.now word) (Repeated k) Annotations) Other
      (λ at. tested (Shows (lexeme_token source l ∷ ts)) (bytes_eq k.text.now word) (Repeated k) Annotations
      (λ same. ([], lexeme_token source l, h.0, ap (λ (rest : List TextToken). lexeme_token source l ∷ rest) h.1, h.2 (lexeme_token source l) at, same, nearest_here (lexeme_token source l) k ts h.0 h.1 found))
      (subst AreAnnotations (ap (λ (rest : List TextToken). lexeme_token source l ∷ rest) (sym h.1)) (h.2 (lexeme_token source l) at)))
      tt
  shows_step l ts (Repeated k) found h = (lexeme_token source l ∷ h.0, h.1, h.2, ap (λ (rest : List TextToken). lexeme_token source l ∷ rest) h.3, h.4, h.5, nearest_on (lexeme_token source l) h.1 (lexeme_token source k) ts h.0 h.2 h.3 h.6)
  shows_step l ts Other found h = tt

  -- what is seen of tokens from their end
  shows : (ls : List Lexeme) → Shows (map (lexeme_token source) ls) (seen_from word Annotations ls)
  shows [] = no_more
  shows (l ∷ ls) =
      shows_step l (map (lexeme_token source) ls) (seen_from word Annotations ls)
      (λ outside at first behind same list equal. found_behind source word outside at first behind list equal ls same)
      (shows ls)

-- a found key
repeated : (source : List ℕ) (before : List Lexeme) (last token : Lexeme) (seen : Seen) → Shows source token.text.now (map (lexeme_token source) before) seen
    → ((first : TextToken) → IsRepeatedKey (map (lexeme_token source) (before ++ last ∷ [])) first (lexeme_token source token) → IsFound seen)
    → ((first : TextToken) (r : IsRepeatedKey (map (lexeme_token source) (before ++ last ∷ [])) first (lexeme_token source token)) → map (lexeme_token source) before ≡ r.outside ++ (r.at ∷ first ∷ r.after))
    → IsTrue (is_mark_token (codes "@") (bare last)) → IsTrue (is_word_kind token.kind) → IsTrue (is_word token.text.now)
    → TellsRepeat (map (lexeme_token source) (before ++ last ∷ [])) (lexeme_token source token) (option_map (lexeme_token source) (found_key seen))
repeated source before last token (Repeated k) shown found parts at key word = record {
  key = record {
    outside = shown.0;
    at = shown.1;
    after = shown.2;
    again = lexeme_token source last;
    is = map-append (lexeme_token source) before (last ∷ []) ∙ ap (λ (ts : List TextToken). ts ++ lexeme_token source last ∷ []) shown.3;
    list = shown.4;
    begins_again = at;
    key = key;
    word = word;
    same = (bytes_eq-Decides k.text.now token.text.now).0 shown.5;
  };
  last = λ other r. shown.6 r.outside r.at other r.after (parts other r) r.list ((bytes_eq-Decides other.text token.text.now).1 r.same);
}
repeated source before last token Annotations shown found parts at key word = found
repeated source before last token Closing shown found parts at key word = found
repeated source before last token Literal shown found parts at key word = found
repeated source before last token Opening shown found parts at key word = found
repeated source before last token (Key k) shown found parts at key word = found
repeated source before last token Other shown found parts at key word = found

-- what is found in the tokens before an `@` is the key that a word behind it repeats
pub tells_repeat : (source : List ℕ) (front before : List Lexeme) (last token : Lexeme) (found : Option Lexeme) → front ≡ before ++ last ∷ []
    → IsTrue (is_mark_token (codes "@") (bare last)) → IsTrue (is_word_kind token.kind) → IsTrue (is_word token.text.now) → found ≡ key_in token.text.now before
    → TellsRepeat (map (lexeme_token source) front) (lexeme_token source token) (option_map (lexeme_token source) found)
tells_repeat source front before last token found is at key word result =
    subst (λ (ls : List Lexeme). TellsRepeat (map (lexeme_token source) ls) (lexeme_token source token) (option_map (lexeme_token source) found)) (sym is)
    (subst (λ k. TellsRepeat (map (lexeme_token source) (before ++ last ∷ [])) (lexeme_token source token) (option_map (lexeme_token source) k)) (sym result)
    (repeated source before last token (seen_from token.text.now Annotations before) (shows source token.text.now before)
    (λ first r. found_behind source token.text.now r.outside r.at first r.after r.list ((bytes_eq-Decides first.text token.text.now).1 r.same) before (parts first r))
    parts at key word))
  where
    parts : (first : TextToken) (r : IsRepeatedKey (map (lexeme_token source) (before ++ last ∷ [])) first (lexeme_token source token)) → map (lexeme_token source) before ≡ r.outside ++ (r.at ∷ first ∷ r.after)
    parts first r =
        (same_from_push (map (lexeme_token source) before) (r.outside ++ (r.at ∷ first ∷ r.after)) (lexeme_token source last) r.again (sym (map-append (lexeme_token source) before (last ∷ [])) ∙ r.is)).0
