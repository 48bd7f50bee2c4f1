-- SPDX-License-Identifier: Apache-2.0
-- Namespaces of names in order are joined to distinct texts.
use Rattle.std.proofs.Common.{◌≡◌, Bool, true, false, not, List, [], ◌∷◌, refl, sym, ap, ◌∙◌, bytes_eq, flat_map, Option, Some, None}
use Rattle.std.proofs.lemmas.Bool.{and_parts}
use Rattle.std.proofs.lemmas.Cmp.{lists_total, nat_list_cmp_total}
use Rattle.std.proofs.lemmas.Slice.Eq.{bytes_eq-Decides}
use Rattle.std.specs.Cmp.{IsTotalOrder}
use Rattle.std.specs.Cmp.Lexicographic.{options_total}
use Rattle.std.specs.List.{AllByRecursion, list_all, list_any}
use Rattle.std.specs.List.Sorted.{IsStrictlySortedBy}
use Rattle.std.specs.Map.{keys_of}
use Rattle.std.specs.Ordering.{ordering_reverse}
use Rattle.std.specs.declared.cmp.Ordering.TheVariants.{Less, Greater}
use Rattle.cedar_text.specs.Joining.{joined}
use Rattle.cedar_text.specs.NormalNames.{parts}
use Rattle.cedar_text.specs.Words.{has_word, is_cedar, is_id, is_reserved_word, is_unreserved_id, is_word}
use Rattle.cedar_text.proofs.WritingLemmas.{parts-joined}
use Rattle.cedar_tree.specs.Trees.{Text}
use Rattle.cedar_convert_faults.specs.Gathering.{namespace_cmp}
use Rattle.cedar_convert_faults.specs.Repeats.{are_distinct}
use Rattle.cedar_convert_fragment.specs.Fragments.{Fragment}
use Rattle.cedar_reread_declares.specs.Rereadable.{RereadableName, RereadableNamespace}

pub namespace_total : IsTotalOrder namespace_cmp
namespace_total = options_total (lists_total nat_list_cmp_total)

-- ---- the words of a name

not_true : (t : Bool) → not t ≡ true → t ≡ false
not_true true e = cc
not_true false e = refl

-- words, none of them `__cedar`
words_apart : (ws : List Text) → list_all is_unreserved_id ws ≡ true → (list_any is_cedar ws ≡ false) × (list_all is_word ws ≡ true)
words_apart [] e = (refl, refl)
words_apart (w ∷ ws) e =
    let halves = and_parts (is_unreserved_id w) (list_all is_unreserved_id ws) e in
    let here = and_parts (is_id w) (not (is_cedar w)) halves.0 in
    let word = and_parts (is_word w) (not (is_reserved_word w)) here.0 in
    let others = words_apart ws halves.1 in
    (rw (not_true (is_cedar w) here.1) others.0, rw word.0 others.1)

pub unreserved : (words : List Text) → RereadableName (Some words) → list_any is_cedar words ≡ false
unreserved [] is = absurd is
unreserved (w ∷ ws) is = (words_apart (w ∷ ws) is).0

parts_are : (words : List Text) → RereadableName (Some words) → parts (joined words) ≡ words
parts_are [] is = absurd is
parts_are (w ∷ ws) is = parts-joined w ws (words_apart (w ∷ ws) is).1

-- ---- texts of names

-- a name before another is joined to another text
joined_differ : (ws vs : List Text) → namespace_cmp (Some ws) (Some vs) ≡ Less → RereadableName (Some ws) → RereadableName (Some vs) → bytes_eq (joined ws) (joined vs) ≡ false
joined_differ ws vs less w_is v_is = by (bytes_eq (joined ws) (joined vs)) refl
  where
    by : (t : Bool) → bytes_eq (joined ws) (joined vs) ≡ t → t ≡ false
    by true e =
        let texts : joined ws ≡ joined vs = (bytes_eq-Decides (joined ws) (joined vs)).0 e in
        let same : ws ≡ vs = sym (parts_are ws w_is) ∙ ap parts texts ∙ parts_are vs v_is in
        let itself : namespace_cmp (Some ws) (Some ws) ≡ Less = ap (λ (l : List Text). namespace_cmp (Some ws) (Some l)) same ∙ less in
        let turned : Less ≡ Greater = sym itself ∙ namespace_total.antisymm (Some ws) (Some ws) ∙ ap ordering_reverse itself in
        absurd (cc)
    by false e = refl

abbrev joined_of : Option (List Text) → List Text
joined_of None = []
joined_of (Some words) = joined words ∷ []

-- the texts of the names of a fragment
abbrev pub joined_names : Fragment → List Text
joined_names F = flat_map (λ n. joined_of n.0) F

joined_absent : (words : List Text) (F : Fragment) → RereadableName (Some words) → AllByRecursion (λ k. namespace_cmp (Some words) k ≡ Less) (keys_of F) → AllByRecursion RereadableNamespace F
    → has_word (joined_names F) (joined words) ≡ false
joined_absent words [] is below all = refl
joined_absent words ((None, d) ∷ F) is below all = joined_absent words F is below.1 all.1
joined_absent words ((Some vs, d) ∷ F) is below all = rw (joined_differ words vs below.0 is all.0.0) (joined_absent words F is below.1 all.1)

pub joined_distinct : (F : Fragment) → IsStrictlySortedBy namespace_cmp (keys_of F) → AllByRecursion RereadableNamespace F → are_distinct (joined_names F) ≡ true
unfolding IsStrictlySortedBy
joined_distinct [] sorted all = refl
joined_distinct ((None, d) ∷ F) sorted all = joined_distinct F sorted.1 all.1
joined_distinct ((Some words, d) ∷ F) sorted all = rw (joined_absent words F all.0.0 sorted.0 all.1) (joined_distinct F sorted.1 all.1)
