-- SPDX-License-Identifier: Apache-2.0
-- How annotations are read.
use Rattle.std.proofs.Common.{◌≡◌, Bool, true, false, [], ◌∷◌, ◌++◌, codes, map, Some, refl, sym, ap, ◌∙◌, subst, inl, append_assoc, append-nil}
use Rattle.std.proofs.lemmas.Cmp.{nat_list_cmp_total}
use Rattle.std.proofs.lemmas.List.{map-append}
use Rattle.std.proofs.lemmas.Map.Made.{keys_of-map_values}
use Rattle.std.proofs.lemmas.Slice.Eq.{bytes_eq-Decides}
use Rattle.std.specs.List.{AllByRecursion}
use Rattle.std.specs.List.Sorted.{IsStrictlySortedBy}
use Rattle.std.specs.Map as entries
use Rattle.std.specs.Ordering.{ordering_reverse}
use Rattle.std.specs.Prelude.{bytes_eq}
use Rattle.std.specs.declared.cmp.Ordering.TheVariants.{Less, Greater}
use Rattle.cedar_data.specs.Maps.{IsSortedMap, map_of}
use Rattle.cedar_names.specs.Order.{word_cmp}
use Rattle.cedar_text.specs.Words.{is_word, has_word}
use Rattle.cedar_tree.specs.Trees.{Node, Text, Annotation, Annotations, ByKey, by_key}
use Rattle.cedar_tree.specs.Unplaced.{annotations_unplaced, anywhere}
use Rattle.cedar_grammar.specs.Grammar.{annotated, annotation, annots, bracketed, is_mark_token, is_new_key, keys_of, mark, str, text_where}
use Rattle.cedar_grammar.specs.Productions.{Production, ReadsEach, none_yet, then_one}
use Rattle.cedar_reread.specs.Said.{Tokens, mark_token, word_token, str_token, said_annotation, said_annotations}
use Rattle.cedar_reread.specs.TreesRead.{bare}
use Rattle.cedar_reread.proofs.Classes.{one, str_read}
use Rattle.cedar_reread.proofs.Sorted.{of_itself}

-- a mark
pub mark_read : (m : Text) (rest : Tokens) → bytes_eq m m ≡ true → (mark m).reads (mark_token m ∷ rest) (bare m) rest
mark_read m rest e = one (text_where (is_mark_token m)) (mark_token m) (bare m) rest (rw e refl)

-- the annotation of an entry
abbrev noted : Text × Node Text → Node Annotation
noted a = bare (record { key = a.0; value = a.1.node })

-- keys are words, and in order
abbrev pub AreKeys : ByKey → Type 0
AreKeys annotations = IsSortedMap word_cmp annotations × AllByRecursion (λ a. is_word a.0 ≡ true) annotations

annotation_read : (before : Annotations) (a : Text × Node Text) (rest : Tokens) → is_word a.0 ≡ true → has_word (keys_of before) a.0 ≡ false → (annotation before).reads (said_annotation a ++ rest) (noted a) rest
annotation_read before a rest word new =
    let behind = str_token a.1.node ∷ mark_token (codes ")") ∷ rest in
    let value : (bracketed (codes "(") (codes ")") str).reads (mark_token (codes "(") ∷ behind) (bare (bare a.1.node)) rest = (
      bare (codes "("),
      behind,
      mark_read (codes "(") behind refl,
      (
        bare a.1.node,
        mark_token (codes ")") ∷ rest,
        str_read a.1.node (mark_token (codes ")") ∷ rest),
        (bare (codes ")"), rest, mark_read (codes ")") rest refl, (refl, refl)),
      ),
    ) in
    let key : text_where (is_new_key before) (word_token a.0) ≡ Some (bare a.0) = rw (word, new) refl in (
      bare (codes "@"),
      word_token a.0 ∷ mark_token (codes "(") ∷ behind,
      mark_read (codes "@") (word_token a.0 ∷ mark_token (codes "(") ∷ behind) refl,
      (
        bare a.0,
        mark_token (codes "(") ∷ behind,
        one (text_where (is_new_key before)) (word_token a.0) (bare a.0) (mark_token (codes "(") ∷ behind) key,
        (Some (bare (bare a.1.node)), rest, inl (bare (bare a.1.node), rest, value, (refl, refl)), (refl, refl)),
      ),
    )

-- ---- keys in order are new

below_last : (k : Text) (before : ByKey) (a : Text × Node Text) (more : ByKey) → AllByRecursion (λ y. word_cmp k y ≡ Less) (entries.keys_of (before ++ a ∷ more)) → word_cmp k a.0 ≡ Less
below_last k [] a more below = below.0
below_last k (b ∷ before) a more below = below_last k before a more below.1

other_key : (k w : Text) → word_cmp k w ≡ Less → bytes_eq w k ≡ false
other_key k w less = by (bytes_eq w k) refl
  where
    by : (t : Bool) → bytes_eq w k ≡ t → t ≡ false
    by true e =
        let same : w ≡ k = (bytes_eq-Decides w k).0 e in
        let itself : word_cmp k k ≡ Less = ap (word_cmp k) (sym same) ∙ less in
        let turned : Less ≡ Greater = sym itself ∙ nat_list_cmp_total.antisymm k k ∙ ap ordering_reverse itself in
        absurd (cc)
    by false e = refl

new_behind : (before : ByKey) (a : Text × Node Text) (more : ByKey) → IsStrictlySortedBy word_cmp (entries.keys_of (before ++ a ∷ more)) → has_word (keys_of (map noted before)) a.0 ≡ false
unfolding IsStrictlySortedBy
new_behind [] a more sorted = refl
new_behind (b ∷ before) a more sorted = rw (other_key b.0 a.0 (below_last b.0 before a more sorted.0)) (new_behind before a more sorted.1)

-- ---- annotations in order

annotations_from : (start : Tokens) (before left : ByKey) (rest : Tokens) → ReadsEach (λ xs. (annotation xs).reads) start (map noted before) (said_annotations left ++ rest)
    → IsStrictlySortedBy word_cmp (entries.keys_of (before ++ left)) → AllByRecursion (λ a. is_word a.0 ≡ true) left
    → ReadsEach (λ xs. (annotation xs).reads) start (map noted (before ++ left)) rest
annotations_from start before [] rest read sorted words = subst (λ es. ReadsEach (λ xs. (annotation xs).reads) start (map noted es) rest) (sym (append-nil before)) read
annotations_from start before (a ∷ left) rest read sorted words =
    let next = then_one read (annotation_read (map noted before) a (said_annotations left ++ rest) words.0 (new_behind before a left sorted)) in
    let step : map noted before ++ noted a ∷ [] ≡ map noted (before ++ a ∷ []) = sym (map-append noted before (a ∷ [])) in
    subst (λ es. ReadsEach (λ xs. (annotation xs).reads) start (map noted es) rest) (append_assoc before (a ∷ []) left)
    (annotations_from start (before ++ a ∷ []) left rest (subst (λ xs. ReadsEach (λ ys. (annotation ys).reads) start xs (said_annotations left ++ rest)) step next)
    (subst (λ es. IsStrictlySortedBy word_cmp (entries.keys_of es)) (sym (append_assoc before (a ∷ []) left)) sorted) words.1)

noted_are : (annotations : ByKey) → map (λ (a : Node Annotation). (a.node.key, record { node = a.node.value; loc = a.loc })) (map noted annotations) ≡ annotations_unplaced annotations
noted_are [] = refl
noted_are (a ∷ annotations) = ap (λ (es : ByKey). (a.0, anywhere a.1) ∷ es) (noted_are annotations)

by_key_noted : (annotations : ByKey) → IsSortedMap word_cmp annotations → by_key (map noted annotations) ≡ annotations_unplaced annotations
by_key_noted annotations sorted =
    ap (map_of word_cmp) (noted_are annotations)
    ∙ of_itself word_cmp nat_list_cmp_total (annotations_unplaced annotations) (subst (λ ks. IsStrictlySortedBy word_cmp ks) (sym (keys_of-map_values anywhere annotations)) sorted)

pub annotations_read : (annotations : ByKey) (rest : Tokens) → AreKeys annotations → annots.reads (said_annotations annotations ++ rest) (annotations_unplaced annotations) rest
annotations_read annotations rest keys =
    (map noted annotations, rest, annotations_from (said_annotations annotations ++ rest) [] annotations rest none_yet keys.0 keys.1, (sym (by_key_noted annotations keys.0), refl))

-- something with annotations before it
pub annotated_read : {A : Type 0} (R : Production _ A) (annotations : ByKey) (x : A) (said rest : Tokens) → AreKeys annotations → R.reads said x rest
    → (annotated R).reads (said_annotations annotations ++ said) (record { item = x; annotations = annotations_unplaced annotations }) rest
annotated_read R annotations x said rest keys read =
    (annotations_unplaced annotations, said, annotations_read annotations said keys, (x, rest, read, (refl, refl)))
