-- SPDX-License-Identifier: Apache-2.0
-- A set is one list, equal keys aside.
use Rattle.std.proofs.Common.{◌≡◌, Bool, true, false, List, [], ◌∷◌, ◌||◌, Contains, refl, sym, ap, ◌∙◌}
use Rattle.std.proofs.lemmas.Cmp.{alike_right, eq_by_cmp_equiv}
use Rattle.std.proofs.lemmas.List.Elements.{All-contains, All-from_recursion}
use Rattle.std.proofs.lemmas.List.Folds.{Any-from_list_any}
use Rattle.std.proofs.lemmas.Map.Keys.{sorted_head, sorted_tail}
use Rattle.std.specs.declared.cmp.Ordering.{Ordering}
use Rattle.std.specs.declared.cmp.Ordering.TheVariants.{Less, Equal, Greater}
use Rattle.std.specs.BTreeMap.{is_at}
use Rattle.std.specs.Cmp.{IsTotalOrder}
use Rattle.std.specs.List.{AllZip}
use Rattle.std.specs.List.Sorted.{IsStrictlySortedBy}
use Rattle.std.specs.Ordering.{is_eq, ordering_reverse}
use Rattle.cedar_names.specs.of_data.Sets.{contains, IsSetOf}
use Rattle.cedar_closure.proofs.PlaceLemmas.{equal_from_is_eq}

not_both : (o : Ordering) → o ≡ Less → is_eq o ≡ true → ⊥
not_both Less h e = cc
not_both Equal h e = cc
not_both Greater h e = cc

no_true : (b : Bool) → (b ≡ true → ⊥) → b ≡ false
no_true false n = refl
no_true true n = absurd (n refl)

same_answers : (s t : Bool) → (s ≡ true → t ≡ true) → (t ≡ true → s ≡ true) → s ≡ t
same_answers true t f g = sym (f refl)
same_answers false true f g = g refl
same_answers false false f g = refl

module _ {K : Type 0} {cmp : K → K → Ordering} (total : IsTotalOrder cmp) where
  -- a key that is less than all isn't among them
  absent : (key : K) (keys : List K) → ((k : K) → Contains keys k → cmp key k ≡ Less) → contains cmp keys key ≡ false
  absent key keys less = no_true (contains cmp keys key) (λ here.
      let (i, k, inside, is, same) = Any-from_list_any (is_at (cmp key)) keys here in
      not_both (cmp key k) (less k (i, inside, is)) same)

  -- the first key is less than those behind it
  head_less : (key : K) (keys : List K) → IsStrictlySortedBy cmp (key ∷ keys) → (k : K) → Contains keys k → cmp key k ≡ Less
  head_less key keys sorted k c = All-contains (λ y. cmp key y ≡ Less) keys k (All-from_recursion (λ y. cmp key y ≡ Less) keys (sorted_head cmp key keys sorted)) c

  -- so is a key that is equal to it
  equal_less : (q key : K) (keys : List K) → IsStrictlySortedBy cmp (key ∷ keys) → is_at (cmp q) key ≡ true → (k : K) → Contains keys k → cmp q k ≡ Less
  equal_less q key keys sorted same k c = total.congr q key k (equal_from_is_eq (cmp q key) same) ∙ head_less key keys sorted k c

  -- and a key that is less than it
  less_less : (q key : K) (keys : List K) → IsStrictlySortedBy cmp (key ∷ keys) → cmp q key ≡ Less → (k : K) → Contains keys k → cmp q k ≡ Less
  less_less q key keys sorted less k c = total.trans q key k less (head_less key keys sorted k c)

  -- lists in order that contain the same keys have equal keys, place by place
  pub one_list : (xs ys : List K) → IsStrictlySortedBy cmp xs → IsStrictlySortedBy cmp ys → ((k : K) → contains cmp xs k ≡ contains cmp ys k) → AllZip (λ x y. cmp x y ≡ Equal) xs ys
  one_list [] [] s t same = tt
  one_list [] (y ∷ ys) s t same = absurd (false_true (same y ∙ ap (λ b. b || contains cmp ys y) ((eq_by_cmp_equiv total).refl y)))
    where
      false_true : false ≡ true → ⊥
      false_true e = cc
  one_list (x ∷ xs) [] s t same = absurd (false_true (sym (same x) ∙ ap (λ b. b || contains cmp xs x) ((eq_by_cmp_equiv total).refl x)))
    where
      false_true : false ≡ true → ⊥
      false_true e = cc
  one_list (x ∷ xs) (y ∷ ys) s t same = by (cmp x y) refl (λ rest. one_list xs ys (sorted_tail cmp x xs s) (sorted_tail cmp y ys t) rest)
    where
      self : (k : K) (ks : List K) → contains cmp (k ∷ ks) k ≡ true
      self k ks = ap (λ b. b || contains cmp ks k) ((eq_by_cmp_equiv total).refl k)

      beyond : (q k : K) (ks : List K) → IsStrictlySortedBy cmp (k ∷ ks) → cmp q k ≡ Less → contains cmp (k ∷ ks) q ≡ false
      beyond q k ks sorted less = ap (λ o. is_eq o || contains cmp ks q) less ∙ absent q ks (less_less q k ks sorted less)

      false_true : false ≡ true → ⊥
      false_true e = cc

      tails : cmp x y ≡ Equal → (k : K) → contains cmp xs k ≡ contains cmp ys k
      tails e k = at (is_at (cmp k) x) refl
        where
          also : is_at (cmp k) x ≡ is_at (cmp k) y
          also = ap is_eq (alike_right total x y k e)

          at : (t : Bool) → is_at (cmp k) x ≡ t → contains cmp xs k ≡ contains cmp ys k
          at true h = absent k xs (equal_less k x xs s h) ∙ sym (absent k ys (equal_less k y ys t (sym also ∙ h)))
          at false h = ap (λ b. b || contains cmp xs k) (sym h) ∙ same k ∙ ap (λ b. b || contains cmp ys k) (sym also ∙ h)

      by : (o : Ordering) → cmp x y ≡ o → (((k : K) → contains cmp xs k ≡ contains cmp ys k) → AllZip (λ x y. cmp x y ≡ Equal) xs ys) → AllZip (λ x y. cmp x y ≡ Equal) (x ∷ xs) (y ∷ ys)
      by Less e r = absurd (false_true (sym (beyond x y ys t e) ∙ sym (same x) ∙ self x xs))
      by Equal e r = (e, r (tails e))
      by Greater e r = absurd (false_true (sym (beyond y x xs s (total.antisymm y x ∙ ap ordering_reverse e)) ∙ same y ∙ self y ys))

  -- so what holds of the keys of a set fixes its list, equal keys aside
  pub one_set : (P : K → Type 0) (xs ys : List K) → IsSetOf cmp P xs → IsSetOf cmp P ys → AllZip (λ x y. cmp x y ≡ Equal) xs ys
  one_set P xs ys a b = one_list xs ys a.ascends b.ascends (λ k. same_answers (contains cmp xs k) (contains cmp ys k) (λ h. (b.members k).1 ((a.members k).0 h)) (λ h. (a.members k).1 ((b.members k).0 h)))
