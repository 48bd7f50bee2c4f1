-- SPDX-License-Identifier: Apache-2.0
-- Words among others.
use Rattle.std.proofs.Common.{◌≡◌, ℕ, Bool, true, false, ◌||◌, ◌&&◌, not, List, [], ◌∷◌, ◌++◌, refl, sym, ap, ◌∙◌, bytes_eq}
use Rattle.std.proofs.lemmas.List.Folds.{list_any-append}
use Rattle.std.proofs.lemmas.Slice.Eq.{bytes_eq-Decides}
use Rattle.cedar_text.specs.Words.{has_word}
use Rattle.cedar_convert_faults.specs.Repeats.{are_distinct}

-- equal words are the same
same_word : (a b : List ℕ) → bytes_eq a b ≡ true → a ≡ b
same_word a b e = (bytes_eq-Decides a b).0 e

same_itself : (a : List ℕ) → bytes_eq a a ≡ true
same_itself a = (bytes_eq-Decides a a).1 refl

-- words that differ one way differ the other way
pub differ_back : (a b : List ℕ) → bytes_eq a b ≡ false → bytes_eq b a ≡ false
differ_back a b e = by (bytes_eq b a) refl
  where
    by : (t : Bool) → bytes_eq b a ≡ t → t ≡ false
    by false h = refl
    by true h = sym (same_itself a) ∙ ap (bytes_eq a) (sym (same_word b a h)) ∙ e

or_false : (a b : Bool) → (a || b) ≡ false → (a ≡ false) × (b ≡ false)
or_false false b e = (refl, e)
or_false true b e = cc

and_true : (a b : Bool) → (a && b) ≡ true → (a ≡ true) × (b ≡ true)
and_true true b e = (refl, e)
and_true false b e = cc

-- one more word at the end that isn't among the others
pub are_distinct-more : (words : List (List ℕ)) (word : List ℕ) → are_distinct words ≡ true → has_word words word ≡ false → are_distinct (words ++ word ∷ []) ≡ true
are_distinct-more [] word distinct fresh = refl
are_distinct-more (w ∷ words) word distinct fresh =
    let d = and_true (not (has_word words w)) (are_distinct words) distinct in
    let f = or_false (bytes_eq word w) (has_word words word) fresh in
    by (has_word words w) (bytes_eq w word) d.0 (differ_back word w f.0) (list_any-append (bytes_eq w) words (word ∷ [])) (are_distinct-more words word d.1 f.1)
  where
    by : (a b : Bool) → not a ≡ true → b ≡ false → has_word (words ++ word ∷ []) w ≡ (a || (b || false)) → are_distinct (words ++ word ∷ []) ≡ true → (not (has_word (words ++ word ∷ []) w) && are_distinct (words ++ word ∷ [])) ≡ true
    by false false n e h k = ap (λ t. not t && are_distinct (words ++ word ∷ [])) h ∙ k
    by false true n e h k = cc
    by true b n e h k = cc
