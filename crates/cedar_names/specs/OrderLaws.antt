-- SPDX-License-Identifier: Apache-2.0
use Rattle.std.specs.Prelude.{◌≡◌, ℕ, List, Some}
use Rattle.std.specs.Cmp.{IsEquivalence, IsPartialEquivalence, IsPartialOrder, IsTotalOrder, partial_equiv_from_equiv, on_equiv, on_total, po}
use Rattle.std.specs.Cmp.Lexicographic.{nat_list_eq_equiv, nat_list_cmp_total, texts_ties, lists_equiv, lists_total, lists_ties, slice_cmp}
use Rattle.std.specs.Ordering.{nat_cmp, eq_by_cmp}
use Rattle.cedar_names.specs.Order.{words_cmp, words_eq}

-- the laws of comparing by component lists, whatever has them
module _ {K : Type 0} (f : K → List (List ℕ)) where
  pub words-equiv : IsEquivalence (λ x y. words_eq (f x) (f y))
  words-equiv = on_equiv f (lists_equiv nat_list_eq_equiv)

  pub words-per : IsPartialEquivalence (λ x y. words_eq (f x) (f y))
  words-per = partial_equiv_from_equiv words-equiv

  pub words-total : IsTotalOrder (λ x y. words_cmp (f x) (f y))
  words-total = on_total f (lists_total nat_list_cmp_total)

  pub words-ties : (x y : K) → words_eq (f x) (f y) ≡ eq_by_cmp (λ x y. words_cmp (f x) (f y)) x y
  words-ties x y = lists_ties (slice_cmp nat_cmp) texts_ties (f x) (f y)

  pub words-po : IsPartialOrder (λ x y. words_eq (f x) (f y)) (λ x y. Some (words_cmp (f x) (f y)))
  words-po = po words-total words-ties
