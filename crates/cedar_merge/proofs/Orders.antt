-- SPDX-License-Identifier: Apache-2.0
-- The orders of words, namespaces and places: total, and they tie what is equal alone.
use Rattle.std.proofs.Common.{◌≡◌, ℕ, List, Option, Some, None, refl, sym, ap, ◌∙◌}
use Rattle.std.specs.Cmp.{IsTotalOrder}
use Rattle.std.specs.Cmp.Lexicographic.{options_total}
use Rattle.std.specs.Option.{option_cmp}
use Rattle.std.specs.Ordering.{nat_cmp, ordering_then}
use Rattle.std.specs.declared.cmp.Ordering.{Ordering}
use Rattle.std.specs.declared.cmp.Ordering.TheVariants.{Less, Equal, Greater}
use Rattle.cedar_data.proofs.Exact.{IsExact, texts_exact}
use Rattle.cedar_names.proofs.NameOrder.{words_cmp-equal}
use Rattle.cedar_names.specs.Names.{name_cmp}
use Rattle.cedar_names.specs.Order.{word_cmp, words_cmp}
use Rattle.cedar_names.specs.OrderLaws.{words-total}
use Rattle.cedar_names.specs.declared.name.Name.{Name}
use Rattle.cedar_merge.specs.Lookups.{path_cmp, path_of}

pub words_exact : IsExact word_cmp
words_exact = texts_exact

pub names_exact : IsExact words_cmp
names_exact = record { total = words-total (λ (n : List (List ℕ)). n); exact = λ x y. (words_cmp-equal x y).0 }

-- so with what may be there
pub options_exact : {A : Type 0} {cmp : A → A → Ordering} → IsExact cmp → IsExact (option_cmp cmp)
options_exact {A} {cmp} exact = record { total = options_total exact.total; exact = same }
  where
    same : (x y : Option A) → option_cmp cmp x y ≡ Equal → x ≡ y
    same None None e = refl
    same None (Some y) e = absurd (cc)
    same (Some x) None e = absurd (cc)
    same (Some x) (Some y) e = ap Some (exact.exact x y e)

pub paths_exact : IsExact path_cmp
paths_exact = options_exact names_exact

-- namespaces are kept in the order of their components
pub by_path : (a b : Option Name) → option_cmp name_cmp a b ≡ path_cmp (path_of a) (path_of b)
by_path None None = refl
by_path None (Some b) = refl
by_path (Some a) None = refl
by_path (Some a) (Some b) = refl

-- a value is tied with itself
pub tied : {A : Type 0} {cmp : A → A → Ordering} → IsTotalOrder cmp → (x : A) → cmp x x ≡ Equal
tied {A} {cmp} total x = by (cmp x x) refl (total.antisymm x x)
  where
    by : (o : Ordering) → cmp x x ≡ o → cmp x x ≡ Rattle.std.specs.Ordering.ordering_reverse (cmp x x) → cmp x x ≡ Equal
    by Less is turned = absurd (let p : Less ≡ Greater = sym is ∙ turned ∙ ap Rattle.std.specs.Ordering.ordering_reverse is in cc)
    by Equal is turned = is
    by Greater is turned = absurd (let p : Greater ≡ Less = sym is ∙ turned ∙ ap Rattle.std.specs.Ordering.ordering_reverse is in cc)
