-- SPDX-License-Identifier: Apache-2.0
-- Paths compare by their words, and annotations by their keys and values, places aside.
use Rattle.std.specs.Prelude.{◌≡◌, ◌&&◌, ℕ, Bool, true, List, Some, nat_eq}
use Rattle.std.specs.Cmp.{IsEquivalence, IsPartialEquivalence, IsPartialOrder, IsTotalOrder, partial_equiv_from_equiv, on_equiv, and_equiv, on_total, then_total, both_tied, po}
use Rattle.std.specs.Cmp.Lexicographic.{nat_list_eq_equiv, nat_list_cmp_total, texts_ties, lists_equiv, lists_total, lists_ties, pointwise, slice_cmp}
use Rattle.std.specs.Hash as fed
use Rattle.std.specs.Ordering.{nat_cmp, ordering_then, eq_by_cmp}
use Rattle.std.specs.declared.cmp.Ordering.{Ordering}
use Rattle.cedar_names.specs.Annotating.{annotation_entries}
use Rattle.cedar_names.specs.HashLaws.{name_fed, name_fed-alike}
use Rattle.cedar_names.specs.Identifiers.{any_word, id_words}
use Rattle.cedar_names.specs.Order.{words_eq}
use Rattle.cedar_names.specs.declared.annotation.Annotation.{Annotation}
use Rattle.cedar_names.specs.declared.annotation.Annotations.{Annotations}
use Rattle.cedar_names.specs.declared.any_id.AnyId.{AnyId}
use Rattle.cedar_tree.specs.Paths.{path_ids, name_of_path}
use Rattle.cedar_tree.specs.declared.path.Path.{Path}

-- the words of a path, outermost first
abbrev pub path_words : Path → List (List ℕ)
path_words p = id_words (path_ids p)

-- what a path feeds a hasher: what the name that it is does
abbrev pub path_fed : Path → fed.HashWrites
path_fed p = name_fed (name_of_path p)

-- paths with the same words feed the same
pub path_fed-alike : (p q : Path) → words_eq (path_words p) (path_words q) ≡ true → path_fed p ≡ path_fed q
path_fed-alike p q same = name_fed-alike (name_of_path p) (name_of_path q) same

-- the same key and the same value
abbrev pub entry_eq : AnyId × Annotation → AnyId × Annotation → Bool
entry_eq p q = pointwise nat_eq (any_word p.0) (any_word q.0) && pointwise nat_eq p.1.val q.1.val

-- by keys, and then by values
abbrev pub entry_cmp : AnyId × Annotation → AnyId × Annotation → Ordering
entry_cmp p q = ordering_then (slice_cmp nat_cmp (any_word p.0) (any_word q.0)) (slice_cmp nat_cmp p.1.val q.1.val)

-- the same values at the same keys
abbrev pub annotations_eq : Annotations → Annotations → Bool
annotations_eq a b = pointwise entry_eq (annotation_entries a) (annotation_entries b)

abbrev pub annotations_cmp : Annotations → Annotations → Ordering
annotations_cmp a b = slice_cmp entry_cmp (annotation_entries a) (annotation_entries b)

pub annotations-equiv : IsEquivalence annotations_eq
annotations-equiv = on_equiv annotation_entries (lists_equiv (and_equiv (on_equiv (λ p. any_word p.0) nat_list_eq_equiv) (on_equiv (λ p. p.1.val) nat_list_eq_equiv)))

pub annotations-per : IsPartialEquivalence annotations_eq
annotations-per = partial_equiv_from_equiv annotations-equiv

pub annotations-total : IsTotalOrder annotations_cmp
annotations-total = on_total annotation_entries (lists_total (then_total (on_total (λ p. any_word p.0) nat_list_cmp_total) (on_total (λ p. p.1.val) nat_list_cmp_total)))

pub annotations-ties : (x y : Annotations) → annotations_eq x y ≡ eq_by_cmp annotations_cmp x y
annotations-ties x y =
    lists_ties entry_cmp
    (λ p q. both_tied _ _ (slice_cmp nat_cmp (any_word p.0) (any_word q.0)) (slice_cmp nat_cmp p.1.val q.1.val) (texts_ties (any_word p.0) (any_word q.0)) (texts_ties p.1.val q.1.val))
    (annotation_entries x) (annotation_entries y)

pub annotations-po : IsPartialOrder annotations_eq (λ x y. Some (annotations_cmp x y))
annotations-po = po annotations-total annotations-ties
