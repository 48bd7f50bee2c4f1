-- SPDX-License-Identifier: Apache-2.0
-- Orders that tie what is equal alone, where a set has one list at most.
use Rattle.std.specs.Prelude.{◌≡◌, Bool, true, false, IsTrue, List}
use Rattle.std.specs.BTreeSet.{BTreeSet}
use Rattle.std.specs.Cmp.{IsTotalOrder}
use Rattle.std.specs.List.Sorted.{IsStrictlySortedBy}
use Rattle.std.specs.Cmp.Lexicographic.{slice_cmp, texts_ties, bytes_decides}
use Rattle.std.specs.Ordering.{is_eq, nat_cmp}
use Rattle.std.specs.declared.cmp.Ordering.{Ordering}
use Rattle.std.specs.declared.cmp.Ordering.TheVariants.{Equal}
use Rattle.std.proofs.Common.{refl, sym, ap, ◌∙◌}
use Rattle.std.proofs.lemmas.Cmp.{nat_list_cmp_total}
use Rattle.std.proofs.lemmas.Map.Lookups.{btree_set_from_contains}
use Rattle.cedar_data.specs.Sets.{contains, IsSetOf}

-- a total order that ties what is equal alone
pub record IsExact {A : Type 0} (cmp : A → A → Ordering) : Type 0 where
  pub total : IsTotalOrder cmp
  pub exact : (x y : A) → cmp x y ≡ Equal → x ≡ y

-- so is the order of texts
pub texts_exact : IsExact (slice_cmp nat_cmp)
texts_exact = record {
  total = nat_list_cmp_total;
  exact = λ x y e. (bytes_decides x y).0 (texts_ties x y ∙ ap is_eq e);
}

same_bool : (a b : Bool) → (IsTrue a → IsTrue b) → (IsTrue b → IsTrue a) → a ≡ b
same_bool true true f g = refl
same_bool false false f g = refl
same_bool true false f g = sym (f refl)
same_bool false true f g = g refl

-- lists that ascend, and have the same keys, are the same
pub one_ascending : {A : Type 0} {cmp : A → A → Ordering} → IsExact cmp → (xs ys : List A) → IsStrictlySortedBy cmp xs → IsStrictlySortedBy cmp ys
    → ((key : A) → contains cmp xs key ≡ contains cmp ys key) → xs ≡ ys
one_ascending {A} order xs ys s t same =
    let left : BTreeSet A = record { keys = xs } in
    let right : BTreeSet A = record { keys = ys } in
    btree_set_from_contains order.total left right s t same order.exact

-- a set has one list at most
pub one_set : {A : Type 0} {cmp : A → A → Ordering} → IsExact cmp → (P : A → Type 0) (xs ys : List A) → IsSetOf cmp P xs → IsSetOf cmp P ys → xs ≡ ys
one_set order P xs ys s t = one_ascending order xs ys s.ascends t.ascends
    (λ key. same_bool _ _ (λ h. (t.members key).1 ((s.members key).0 h)) (λ h. (s.members key).1 ((t.members key).0 h)))
