-- SPDX-License-Identifier: Apache-2.0
-- What a binary search finds among keys in order.
use Rattle.std.proofs.Common.{◌≡◌, ℕ, ◌+◌, ◌<◌, true, false, cond, List, length, get_or, ltb, Some, None, refl, sym, ap, ◌∙◌, ⊎_elim, arith}
use Rattle.std.proofs.lemmas.Bool.{lt-ltb, le-ltb, cases_lt}
use Rattle.std.proofs.lemmas.Cmp.{alike_right}
use Rattle.std.proofs.lemmas.List.{get_or_default}
use Rattle.std.proofs.lemmas.List.Sorted.{searchable_from_sorted}
use Rattle.std.proofs.lemmas.List.Sums.{position_or_len_is}
use Rattle.std.proofs.lemmas.Map.Keys.{Less-from_sorted}
use Rattle.std.specs.declared.cmp.Ordering.{Ordering}
use Rattle.std.specs.declared.cmp.Ordering.TheVariants.{Less, Equal, Greater}
use Rattle.std.specs.BTreeMap.{is_at}
use Rattle.std.specs.Cmp.{IsTotalOrder}
use Rattle.std.specs.List.Sorted.{IsStrictlySortedBy, IsSortedBy, IsNonDecreasingBy, IsPartitionPoint}
use Rattle.std.specs.Ordering.{ordering_reverse, ordering_index, is_eq, is_lt}
use Rattle.cedar_closure.specs.Places.{place}

pub equal_from_is_eq : (o : Ordering) → is_eq o ≡ true → o ≡ Equal
equal_from_is_eq Less h = absurd cc
equal_from_is_eq Equal h = refl
equal_from_is_eq Greater h = absurd cc

module _ {K : Type 0} {cmp : K → K → Ordering} (total : IsTotalOrder cmp) where
  -- a key that is less, or greater, isn't equal
  not_at_less : (a key : K) → cmp a key ≡ Less → is_at (cmp key) a ≡ false
  not_at_less a key h = ap is_eq (total.antisymm key a ∙ ap ordering_reverse h)

  not_at_greater : (a key : K) → cmp a key ≡ Greater → is_at (cmp key) a ≡ false
  not_at_greater a key h = ap is_eq (total.antisymm key a ∙ ap ordering_reverse h)

  -- a key stands where an equal one does
  pub place-found : (keys : List K) (key : K) (i : ℕ) → IsStrictlySortedBy cmp keys → i < length keys → cmp (get_or keys i key) key ≡ Equal → place cmp keys key ≡ Some i
  place-found keys key i sorted inside equal =
      let at : is_at (cmp key) (get_or keys i key) ≡ true = ap is_eq (total.antisymm key (get_or keys i key) ∙ ap ordering_reverse equal) in
      ap (λ n. cond (ltb n (length keys)) (Some n) None) (position_or_len_is (is_at (cmp key)) keys i key (omega arith) before (λ _. at)) ∙ ap (λ b. cond b (Some i) None) (lt-ltb i (length keys) inside)
    where
      before : (k : ℕ) → k < i → is_at (cmp key) (get_or keys k key) ≡ false
      before k l = not_at_less (get_or keys k key) key (sym (alike_right total (get_or keys i key) key (get_or keys k key) equal) ∙ Less-from_sorted cmp keys k i key sorted l inside)

  pub place-of : (keys : List K) (key : K) (i : ℕ) (d : K) → IsStrictlySortedBy cmp keys → i < length keys → is_at (cmp (get_or keys i d)) key ≡ true → place cmp keys key ≡ Some i
  place-of keys key i d sorted inside h = place-found keys key i sorted inside (ap (λ a. cmp a key) (get_or_default keys i key d inside) ∙ equal_from_is_eq (cmp (get_or keys i d) key) h)

  -- a key stands nowhere where each is less or greater
  pub place-missing : (keys : List K) (key : K) (i : ℕ) → IsPartitionPoint (λ y. cmp y key ≡ Less) (λ y. cmp y key ≡ Greater) keys i → place cmp keys key ≡ None
  place-missing keys key i parts =
      ap (λ n. cond (ltb n (length keys)) (Some n) None) (position_or_len_is (is_at (cmp key)) keys (length keys) key (omega arith) before (λ l. absurd (omega arith))) ∙ ap (λ b. cond b (Some (length keys)) None) (le-ltb (length keys) (length keys) (omega arith))
    where
      before : (k : ℕ) → k < length keys → is_at (cmp key) (get_or keys k key) ≡ false
      before k l = ⊎_elim (λ below. not_at_less (get_or keys k key) key (parts.0 k key (omega arith) below)) (λ above. not_at_greater (get_or keys k key) key (parts.1 k key above l)) (cases_lt k i)

  -- keys in order may be searched
  pub searchable : (keys : List K) (key : K) → IsStrictlySortedBy cmp keys → IsNonDecreasingBy (λ y. ordering_index (cmp y key)) keys
  searchable keys key sorted = searchable_from_sorted total (λ k. k) keys key adjacent
    where
      adjacent : IsSortedBy (λ a b. is_lt (cmp a b)) keys
      adjacent k d low high = ap is_lt (total.antisymm (get_or keys (k + 1) d) (get_or keys k d) ∙ ap ordering_reverse (Less-from_sorted cmp keys k (k + 1) d sorted (omega arith) high))
