-- SPDX-License-Identifier: Apache-2.0
-- The first repeat is what its name says.
use Rattle.std.proofs.Common.{◌≡◌, ℕ, Bool, true, false, ◌||◌, List, [], ◌∷◌, ◌++◌, cond, bytes_eq, Option, Some, None, sym, ap, ◌∙◌, refl, subst, append_assoc}
use Rattle.std.proofs.lemmas.List.{append-nil}
use Rattle.std.proofs.lemmas.Slice.Eq.{bytes_eq-Decides}
use Rattle.cedar_text.specs.Words.{has_word}
use Rattle.cedar_text.specs.declared.location.Loc.{Loc}
use Rattle.cedar_text.specs.declared.node.Node.{Node}
use Rattle.cedar_convert_faults.specs.Repeats.{Names, words_of, are_distinct, place_of, repeat_behind, first_repeat, repeat_or, IsFirstRepeat, IsFirstOrNone}
use Rattle.cedar_convert_faults.specs.declared.repeats.Repeat.{Repeat}
use Rattle.cedar_text.proofs.Members.{map-append}
use Rattle.cedar_convert_faults.proofs.WordLists.{are_distinct-more, differ_back}

-- a word that has no place isn't there
placeless : (seen : Names) (word : List ℕ) → place_of seen word ≡ None → has_word (words_of seen) word ≡ false
placeless [] word none = refl
placeless (n ∷ seen) word none = by (bytes_eq n.node word) refl (placeless seen word) none
  where
    by : (b : Bool) → bytes_eq n.node word ≡ b → (place_of seen word ≡ None → has_word (words_of seen) word ≡ false) → cond b (Some n.loc) (place_of seen word) ≡ None → (bytes_eq word n.node || has_word (words_of seen) word) ≡ false
    by true is more e = cc
    by false is more e = ap (λ t. t || has_word (words_of seen) word) (differ_back n.node word is) ∙ more e

-- where a word has a place, the first name that is the word stands at it
pub record Stands (seen : Names) (word : List ℕ) (place : Loc) : Type 0 where
  pub before : Names
  pub between : Names
  pub split : seen ≡ before ++ record { node = word; loc = place } ∷ between

some_is : {A : Type 0} (a b : A) → Some a ≡ Some b → a ≡ b
some_is a b e = cc

pub at_place : (seen : Names) (word : List ℕ) (place : Loc) → place_of seen word ≡ Some place → Stands seen word place
at_place [] word place e = cc
at_place (n ∷ seen) word place e = by (bytes_eq n.node word) refl (at_place seen word place) e
  where
    by : (b : Bool) → bytes_eq n.node word ≡ b → (place_of seen word ≡ Some place → Stands seen word place) → cond b (Some n.loc) (place_of seen word) ≡ Some place → Stands (n ∷ seen) word place
    by true is more e =
        let same : n.node ≡ word = (bytes_eq-Decides n.node word).0 is in
        let here : n.loc ≡ place = some_is n.loc place e in
        record { before = []; between = seen; split = λ i. record { node = same i; loc = here i } ∷ seen }
    by false is more e =
        let later = more e in
        record { before = n ∷ later.before; between = later.between; split = ap (λ l. n ∷ l) later.split }

-- the names that were seen and one more are distinct
pub distinct_more : (seen : Names) (n : Node (List ℕ)) → are_distinct (words_of seen) ≡ true → place_of seen n.node ≡ None → are_distinct (words_of (seen ++ n ∷ [])) ≡ true
distinct_more seen n distinct none = ap are_distinct (map-append (λ (m : Node (List ℕ)). m.node) seen (n ∷ [])) ∙ are_distinct-more (words_of seen) n.node distinct (placeless seen n.node none)

pub none_repeats : (seen left : Names) → are_distinct (words_of seen) ≡ true → repeat_behind seen left ≡ None → are_distinct (words_of (seen ++ left)) ≡ true
none_repeats seen [] distinct e = ap (λ l. are_distinct (words_of l)) (append-nil seen) ∙ distinct
none_repeats seen (n ∷ left) distinct e = by (place_of seen n.node) refl (none_repeats (seen ++ n ∷ []) left) e
  where
    by : (p : Option Loc) → place_of seen n.node ≡ p → (are_distinct (words_of (seen ++ n ∷ [])) ≡ true → repeat_behind (seen ++ n ∷ []) left ≡ None → are_distinct (words_of ((seen ++ n ∷ []) ++ left)) ≡ true) → repeat_or p n (repeat_behind (seen ++ n ∷ []) left) ≡ None → are_distinct (words_of (seen ++ n ∷ left)) ≡ true
    by (Some place) is more e = cc
    by None is more e = ap (λ l. are_distinct (words_of l)) (sym (append_assoc seen (n ∷ []) left)) ∙ more (distinct_more seen n distinct is) e

pub one_repeats : (seen left : Names) (r : Repeat) → are_distinct (words_of seen) ≡ true → repeat_behind seen left ≡ Some r → IsFirstRepeat (seen ++ left) r
one_repeats seen [] r distinct e = cc
one_repeats seen (n ∷ left) r distinct e = by (place_of seen n.node) refl (one_repeats (seen ++ n ∷ []) left r) e
  where
    by : (p : Option Loc) → place_of seen n.node ≡ p → (are_distinct (words_of (seen ++ n ∷ [])) ≡ true → repeat_behind (seen ++ n ∷ []) left ≡ Some r → IsFirstRepeat ((seen ++ n ∷ []) ++ left) r) → repeat_or p n (repeat_behind (seen ++ n ∷ []) left) ≡ Some r → IsFirstRepeat (seen ++ n ∷ left) r
    by None is more e = subst (λ l. IsFirstRepeat l r) (append_assoc seen (n ∷ []) left) (more (distinct_more seen n distinct is) e)
    by (Some place) is more e =
        let found = at_place seen n.node place is in
        let told : record { name = n.node; first = place; second = n.loc } ≡ r = some_is _ r e in
        subst (λ t. IsFirstRepeat (seen ++ n ∷ left) t) told (record {
          before = found.before;
          between = found.between;
          after = left;
          split = ap (λ l. l ++ n ∷ left) found.split ∙ append_assoc found.before (record { node = n.node; loc = place } ∷ found.between) (n ∷ left);
          distinct = ap (λ l. are_distinct (words_of l)) (sym found.split) ∙ distinct;
        })

-- the first repeat of names, seen as the search for it gives it
pub is_first : (names : Names) (answer : Option Repeat) → answer ≡ first_repeat names → IsFirstOrNone names answer
is_first names None e = none_repeats [] names refl (sym e)
is_first names (Some r) e = one_repeats [] names r refl (sym e)
