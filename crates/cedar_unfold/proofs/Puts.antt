-- SPDX-License-Identifier: Apache-2.0
-- What a map by name has after an entry was put in.
use Rattle.std.proofs.Common.{◌≡◌, Bool, true, false, cond, List, [], ◌∷◌, Some, None, refl, sym, ap, ◌∙◌}
use Rattle.std.proofs.lemmas.Bool.{cond-true}
use Rattle.std.specs.BTreeMap.{is_at, insert_entry}
use Rattle.std.specs.Map.{lookup}
use Rattle.std.specs.Ordering.{match_ordering, is_eq}
use Rattle.std.specs.declared.cmp.Ordering.{Ordering}
use Rattle.std.specs.declared.cmp.Ordering.TheVariants.{Less, Equal, Greater}
use Rattle.cedar_data.specs.Maps.{get}
use Rattle.cedar_names.proofs.NameOrder.{words_cmp-equal}
use Rattle.cedar_names.specs.Order.{words_cmp}
use Rattle.cedar_schema_error.specs.FullNames.{FullName}
use Rattle.cedar_unfold.proofs.FollowingLemmas.{cond-false}
use Rattle.cedar_unfold.proofs.Positions.{same_name, at_itself}

test_apart : (key n : FullName) → is_at (words_cmp key) n ≡ false → is_at (words_cmp n) key ≡ false
test_apart key n apart = by_test (is_at (words_cmp n) key) refl where
  by_test : (b : Bool) → is_at (words_cmp n) key ≡ b → is_at (words_cmp n) key ≡ false
  by_test true e = absurd (no_both (sym (ap (λ x. is_at (words_cmp key) x) (same_name n key e)) ∙ apart) (at_itself key)) where
    no_both : {b : Bool} → b ≡ false → b ≡ true → ⊥
    no_both x y = absurd cc
  by_test false e = e

-- what a map by name has of the name that was put in, and of others
pub put-here : {V : Type 0} (es : List (FullName × V)) (key : FullName) (v : V) → get words_cmp (insert_entry words_cmp es key v) key ≡ Some v
put-here [] key v = cond-true (is_at (words_cmp key) key) (Some v) None (at_itself key)
put-here (e ∷ es) key v = by_order (put-here es key v) (words_cmp key e.0) refl where
  by_order : get words_cmp (insert_entry words_cmp es key v) key ≡ Some v → (o : Ordering) → words_cmp key e.0 ≡ o → lookup (is_at (words_cmp key)) (match_ordering o ((key, v) ∷ e ∷ es) ((e.0, v) ∷ es) (e ∷ insert_entry words_cmp es key v)) ≡ Some v
  by_order rest Less is = cond-true (is_at (words_cmp key) key) (Some v) (lookup (is_at (words_cmp key)) (e ∷ es)) (at_itself key)
  by_order rest Equal is = cond-true (is_at (words_cmp key) e.0) (Some v) (lookup (is_at (words_cmp key)) es) (ap is_eq is)
  by_order rest Greater is = cond-false (is_at (words_cmp key) e.0) (Some e.1) (get words_cmp (insert_entry words_cmp es key v) key) (ap is_eq is) ∙ rest

pub put-other : {V : Type 0} (es : List (FullName × V)) (key : FullName) (v : V) (n : FullName) → is_at (words_cmp key) n ≡ false → get words_cmp (insert_entry words_cmp es key v) n ≡ get words_cmp es n
put-other [] key v n apart = cond-false (is_at (words_cmp n) key) (Some v) None (test_apart key n apart)
put-other {V} (e ∷ es) key v n apart = by_order (put-other es key v n apart) (words_cmp key e.0) refl where
  by_order : get words_cmp (insert_entry words_cmp es key v) n ≡ get words_cmp es n → (o : Ordering) → words_cmp key e.0 ≡ o
      → lookup (is_at (words_cmp n)) (match_ordering o ((key, v) ∷ e ∷ es) ((e.0, v) ∷ es) (e ∷ insert_entry words_cmp es key v)) ≡ lookup (is_at (words_cmp n)) (e ∷ es)
  by_order rest Less is = cond-false (is_at (words_cmp n) key) (Some v) (lookup (is_at (words_cmp n)) (e ∷ es)) (test_apart key n apart)
  by_order rest Equal is =
      let not_here : is_at (words_cmp n) e.0 ≡ false = ap (λ x. is_at (words_cmp n) x) (sym ((words_cmp-equal key e.0).0 is)) ∙ test_apart key n apart in
      cond-false (is_at (words_cmp n) e.0) (Some v) (lookup (is_at (words_cmp n)) es) not_here ∙ sym (cond-false (is_at (words_cmp n) e.0) (Some e.1) (lookup (is_at (words_cmp n)) es) not_here)
  by_order rest Greater is = ap (cond (is_at (words_cmp n) e.0) (Some e.1)) rest
