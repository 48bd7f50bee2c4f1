-- SPDX-License-Identifier: Apache-2.0
-- Names of two lists that are gone through as one: where they ascend, no name stands in both.
use Rattle.std.proofs.Common.{◌≡◌, ◌⊎◌, inl, inr, ℕ, Bool, true, false, ◌||◌, List, [], ◌∷◌, ◌++◌, bytes_eq, refl, sym, ap, ◌∙◌, append_assoc}
use Rattle.std.proofs.lemmas.List.{append-nil}
use Rattle.std.proofs.lemmas.List.Folds.{list_any-append}
use Rattle.std.proofs.lemmas.Slice.Eq.{bytes_eq-Decides}
use Rattle.std.specs.List.{list_any}
use Rattle.cedar_text.specs.Words.{has_word}
use Rattle.cedar_convert_faults.specs.Repeats.{Names, words_of}
use Rattle.cedar_convert_faults.proofs.Ascending.{Ascend, apart_back, both, is_behind, told}
use Rattle.cedar_convert_warnings.proofs.Builtins.{both_off, either_off}

abbrev Words : Type 0
Words = List (List ℕ)

differ_back : (a b : List ℕ) → bytes_eq a b ≡ false → bytes_eq b a ≡ false
differ_back a b off = by (bytes_eq b a) refl
  where
    by : (t : Bool) → bytes_eq b a ≡ t → t ≡ false
    by false is = refl
    by true is = sym ((bytes_eq-Decides a b).1 (sym ((bytes_eq-Decides b a).0 is))) ∙ off

-- a word that isn't among some, nor the one behind them
has_more : (words : Words) (word other : List ℕ) → has_word words other ≡ false → bytes_eq other word ≡ false → has_word (words ++ word ∷ []) other ≡ false
has_more words word other none off =
    list_any-append (bytes_eq other) words (word ∷ [])
    ∙ ap (λ b. b || (bytes_eq other word || false)) none
    ∙ ap (λ b. b || false) off

-- words of which none is among some, nor the one behind those
none_more : (words others : Words) (word : List ℕ) → list_any (has_word words) others ≡ false → has_word others word ≡ false → list_any (has_word (words ++ word ∷ [])) others ≡ false
none_more words [] word none off = refl
none_more words (o ∷ others) word none off =
    let parts = either_off (has_word words o) (list_any (has_word words) others) none in
    let offs = either_off (bytes_eq word o) (has_word others word) off in
    both_off (has_word (words ++ word ∷ []) o) (list_any (has_word (words ++ word ∷ [])) others)
    (has_more words word o parts.0 (differ_back word o offs.0))
    (none_more words others word parts.1 offs.1)

-- the name is the first of one of the lists, and the rest of that is left with the other
abbrev pub Taken : Names → Names → List ℕ → Names → Names → Type 0
Taken ones others word left others_left =
    ((words_of ones ≡ word ∷ words_of left) × (others_left ≡ others)) ⊎ ((left ≡ ones) × (words_of others ≡ word ∷ words_of others_left))

-- the names that were taken of one list are none of those of the other, and none is behind the last
pub record Apart (ones others : Names) (last : List ℕ) (left others_left : Names) : Type 0 where
  pub before : Words
  pub others_before : Words
  pub whole : words_of ones ≡ before ++ words_of left
  pub others_whole : words_of others ≡ others_before ++ words_of others_left
  pub new : (word : List ℕ) → Ascend last word → has_word before word ≡ false
  pub new_there : (word : List ℕ) → Ascend last word → has_word others_before word ≡ false
  pub none : list_any (has_word before) others_before ≡ false

pub Apart-start : {ones others left others_left : Names} (word : List ℕ) → Taken ones others word left others_left → Apart ones others word left others_left
Apart-start {ones} {others} word (inl taken) = record {
  before = word ∷ [];
  others_before = [];
  whole = taken.0;
  others_whole = ap words_of (sym taken.1);
  new = λ other h. ap (λ b. b || false) (apart_back word other h);
  new_there = λ other h. refl;
  none = refl;
}
Apart-start {ones} {others} word (inr taken) = record {
  before = [];
  others_before = word ∷ [];
  whole = ap words_of (sym taken.0);
  others_whole = taken.1;
  new = λ other h. refl;
  new_there = λ other h. ap (λ b. b || false) (apart_back word other h);
  none = refl;
}

pub Apart-next : {ones others left others_left left' others_left' : Names} {last : List ℕ} (word : List ℕ) → Apart ones others last left others_left
    → Taken left others_left word left' others_left' → is_behind word last ≡ true → Apart ones others word left' others_left'
Apart-next {left' = left'} {last = last} word r (inl taken) behind =
    let up = told last word behind in
    record {
      before = r.before ++ word ∷ [];
      others_before = r.others_before;
      whole = r.whole ∙ ap (λ ws. r.before ++ ws) taken.0 ∙ sym (append_assoc r.before (word ∷ []) (words_of left'));
      others_whole = r.others_whole ∙ ap (λ ns. r.others_before ++ words_of ns) (sym taken.1);
      new = λ other h. has_more r.before word other (r.new other (both last word other up h)) (apart_back word other h);
      new_there = λ other h. r.new_there other (both last word other up h);
      none = none_more r.before r.others_before word r.none (r.new_there word up);
    }
Apart-next {others_left' = others_left'} {last = last} word r (inr taken) behind =
    let up = told last word behind in
    record {
      before = r.before;
      others_before = r.others_before ++ word ∷ [];
      whole = r.whole ∙ ap (λ ns. r.before ++ words_of ns) (sym taken.0);
      others_whole = r.others_whole ∙ ap (λ ws. r.others_before ++ ws) taken.1 ∙ sym (append_assoc r.others_before (word ∷ []) (words_of others_left'));
      new = λ other h. r.new other (both last word other up h);
      new_there = λ other h. has_more r.others_before word other (r.new_there other (both last word other up h)) (apart_back word other h);
      none =
          list_any-append (has_word r.before) r.others_before (word ∷ [])
          ∙ ap (λ b. b || (has_word r.before word || false)) r.none
          ∙ ap (λ b. b || false) (r.new word up);
    }

pub Apart-end : {ones others left others_left : Names} {last : List ℕ} → Apart ones others last left others_left → left ≡ [] → others_left ≡ [] → list_any (has_word (words_of ones)) (words_of others) ≡ false
Apart-end r none none_there =
    let ones_are = r.whole ∙ ap (λ ns. r.before ++ words_of ns) none ∙ append-nil r.before in
    let others_are = r.others_whole ∙ ap (λ ns. r.others_before ++ words_of ns) none_there ∙ append-nil r.others_before in
    (λ i. list_any (has_word (ones_are i)) (others_are i)) ∙ r.none

-- where there are no others
pub none_there : (ones others : Names) → others ≡ [] → list_any (has_word (words_of ones)) (words_of others) ≡ false
none_there ones others none = ap (λ ns. list_any (has_word (words_of ones)) (words_of ns)) none

pub ruleset going = (Apart-start, Apart-next, Apart-end, none_there)
