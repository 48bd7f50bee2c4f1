-- SPDX-License-Identifier: Apache-2.0
-- Lists that are made of others: what holds of each element, and words in order.
use Rattle.std.proofs.Common.{◌≡◌, true, false, List, [], ◌∷◌, ◌++◌, map, flat_map, refl, sym, ap, ◌∙◌, bytes_eq, is_eq}
use Rattle.std.proofs.lemmas.Map.Text.{is_eq-slice_cmp}
use Rattle.std.specs.List.{AllByRecursion}
use Rattle.std.specs.List.Sorted.{IsStrictlySortedBy}
use Rattle.std.specs.declared.cmp.Ordering.TheVariants.{Less}
use Rattle.cedar_names.specs.Order.{word_cmp}
use Rattle.cedar_text.specs.Words.{has_word}
use Rattle.cedar_tree.specs.Trees.{Text}
use Rattle.cedar_convert_faults.specs.Repeats.{are_distinct}

module _ {X : Type 0} (P : X → Type 0) where
  -- of two lists, one behind the other
  pub all_append : (xs ys : List X) → AllByRecursion P xs → AllByRecursion P ys → AllByRecursion P (xs ++ ys)
  all_append [] ys first second = second
  all_append (x ∷ xs) ys first second = (first.0, all_append xs ys first.1 second)

-- of the lists that f makes of the elements
pub all_flat : {X Y : Type 0} (P : X → Type 0) (Q : Y → Type 0) (f : X → List Y) → ((x : X) → P x → AllByRecursion Q (f x)) → (xs : List X) → AllByRecursion P xs → AllByRecursion Q (flat_map f xs)
all_flat P Q f each [] all = tt
all_flat P Q f each (x ∷ xs) all = all_append Q (f x) (flat_map f xs) (each x all.0) (all_flat P Q f each xs all.1)

-- of what f makes of each element
pub all_map : {X Y : Type 0} (P : X → Type 0) (Q : Y → Type 0) (f : X → Y) → ((x : X) → P x → Q (f x)) → (xs : List X) → AllByRecursion P xs → AllByRecursion Q (map f xs)
all_map P Q f each [] all = tt
all_map P Q f each (x ∷ xs) all = (each x all.0, all_map P Q f each xs all.1)

-- ---- words in order are distinct

differs : (k w : Text) → word_cmp k w ≡ Less → bytes_eq k w ≡ false
differs k w less = sym (is_eq-slice_cmp k w) ∙ ap is_eq less

absent : (k : Text) (ws : List Text) → AllByRecursion (λ w. word_cmp k w ≡ Less) ws → has_word ws k ≡ false
absent k [] below = refl
absent k (w ∷ ws) below = rw (differs k w below.0) (absent k ws below.1)

pub sorted_distinct : (ws : List Text) → IsStrictlySortedBy word_cmp ws → are_distinct ws ≡ true
unfolding IsStrictlySortedBy
sorted_distinct [] sorted = refl
sorted_distinct (w ∷ ws) sorted = rw (absent w ws sorted.0) (sorted_distinct ws sorted.1)
