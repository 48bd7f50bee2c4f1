-- SPDX-License-Identifier: Apache-2.0
-- Names that are put to others, by their namespaces.
use Rattle.std.proofs.Common.{◌≡◌, ◌&&◌, ℕ, Bool, true, false, cond, List, [], ◌∷◌, ◌++◌, Option, Some, None, get_or, set, refl, sym, ap, ◌∙◌, subst}
use Rattle.std.proofs.lemmas.Cmp.{eq_by_cmp_equiv, nat_list_cmp_total}
use Rattle.std.specs.BTreeMap.{insert_entry, is_at}
use Rattle.std.specs.Cmp.{IsTotalOrder, on_total}
use Rattle.std.specs.Cmp.Lexicographic.{lists_total}
use Rattle.std.specs.List.{insert}
use Rattle.std.specs.Map.{lookup}
use Rattle.std.specs.Ordering.{is_eq, ordering_then}
use Rattle.std.specs.declared.cmp.Ordering.{Ordering}
use Rattle.std.specs.declared.cmp.Ordering.TheVariants.{Less, Equal, Greater}
use Rattle.cedar_data.proofs.Places.{StandsAt-get, StandsAt-insert, BelongsAt-get, BelongsAt-insert}
use Rattle.cedar_data.proofs.Puts.{get-insert_entry}
use Rattle.cedar_data.proofs.Splitting.{insert_entry-sorted}
use Rattle.cedar_data.specs.Maps.{get, IsSortedMap}
use Rattle.cedar_data.specs.Places.{StandsAt, BelongsAt}
use Rattle.cedar_data.specs.Sets.{Adds, contains}
use Rattle.cedar_names.specs.Components.{basename_of, namespace_of}
use Rattle.cedar_names.specs.Identifiers.{id_word, id_words}
use Rattle.cedar_names.specs.Order.{words_cmp}
use Rattle.cedar_names.specs.declared.id.Id.{Id}
use Rattle.cedar_names.specs.declared.internal_name.InternalName.{InternalName}
use Rattle.cedar_declared.specs.Basenames.{PutsName, id_cmp, in_spaces, is_among, space_cmp}

-- namespaces are in a total order
pub spaces_total : IsTotalOrder space_cmp
spaces_total = lists_total (on_total id_word nat_list_cmp_total)

-- two orders, one behind the other, tie where both do
then_ties : (o p : Ordering) → is_eq (ordering_then o p) ≡ (is_eq o && is_eq p)
then_ties Less p = refl
then_ties Equal p = refl
then_ties Greater p = refl

then_ties_with : (o p : Ordering) (b : Bool) → is_eq p ≡ b → is_eq (ordering_then o p) ≡ (is_eq o && b)
then_ties_with o p b is = then_ties o p ∙ ap (λ c. is_eq o && c) is

regrouped : (a b c : Bool) → (a && (b && c)) ≡ ((a && b) && c)
regrouped true b c = refl
regrouped false b c = refl

and_false : (b : Bool) → (b && false) ≡ false
and_false true = refl
and_false false = refl

and_true : (b : Bool) → (b && true) ≡ b
and_true true = refl
and_true false = refl

-- names tie where their namespaces and their basenames do
names_tie : (xs ys : List Id) (x y : Id) → is_eq (words_cmp (id_words (xs ++ x ∷ [])) (id_words (ys ++ y ∷ []))) ≡ (is_eq (space_cmp xs ys) && is_eq (id_cmp x y))
names_tie [] [] x y = then_ties (id_cmp x y) Equal ∙ and_true (is_eq (id_cmp x y))
names_tie [] (j ∷ []) x y = then_ties (id_cmp x j) Less ∙ and_false (is_eq (id_cmp x j))
names_tie [] (j ∷ k ∷ ks) x y = then_ties (id_cmp x j) Less ∙ and_false (is_eq (id_cmp x j))
names_tie (i ∷ []) [] x y = then_ties (id_cmp i y) Greater ∙ and_false (is_eq (id_cmp i y))
names_tie (i ∷ h ∷ hs) [] x y = then_ties (id_cmp i y) Greater ∙ and_false (is_eq (id_cmp i y))
names_tie (i ∷ is) (j ∷ js) x y =
    then_ties_with (id_cmp i j) _ (is_eq (space_cmp is js) && is_eq (id_cmp x y)) (names_tie is js x y)
    ∙ regrouped (is_eq (id_cmp i j)) (is_eq (space_cmp is js)) (is_eq (id_cmp x y))
    ∙ ap (λ b. b && is_eq (id_cmp x y)) (sym (then_ties (id_cmp i j) (space_cmp is js)))

module _ (spaces : List (List Id × List Id)) where
  -- namespaces that tie have the same basenames
  same_space : (xs ys : List Id) → is_at (space_cmp xs) ys ≡ true → get space_cmp spaces xs ≡ get space_cmp spaces ys
  same_space xs ys tied = λ i. lookup (λ zs. (eq_by_cmp_equiv spaces_total).congr xs ys zs tied i) spaces

  module _ (name : InternalName) (found : Option (List Id)) (ids : List Id) (before : get space_cmp spaces (namespace_of name) ≡ found) where
    -- a name whose basename is put to those of its namespace
    puts_name : ((id : Id) → contains id_cmp ids id ≡ cond (is_at (id_cmp (basename_of name)) id) true (is_among found id)) → PutsName spaces (insert_entry space_cmp spaces (namespace_of name) ids) name
    puts_name adds other =
        ap (λ f. is_among f (basename_of other)) (get-insert_entry spaces_total spaces (namespace_of name) ids (namespace_of other))
        ∙ by (is_at (space_cmp (namespace_of name)) (namespace_of other)) refl
        ∙ sym (ap (λ b. cond b true (in_spaces spaces other)) (names_tie (namespace_of name) (namespace_of other) (basename_of name) (basename_of other)))
      where
        by : (b : Bool) → is_at (space_cmp (namespace_of name)) (namespace_of other) ≡ b
            → is_among (cond b (Some ids) (get space_cmp spaces (namespace_of other))) (basename_of other)
            ≡ cond (b && is_at (id_cmp (basename_of name)) (basename_of other)) true (in_spaces spaces other)
        by true tied =
            adds (basename_of other)
            ∙ ap (λ f. cond (is_at (id_cmp (basename_of name)) (basename_of other)) true (is_among f (basename_of other))) (sym before ∙ same_space (namespace_of name) (namespace_of other) tied)
        by false apart = refl

module _ {spaces : List (List Id × List Id)} {key : List Id} {at : ℕ} where
  module _ (stands : StandsAt space_cmp spaces key at) (entry : List Id × List Id) (ids : List Id) (there : entry ≡ get_or spaces at entry) where
    -- other basenames put where a namespace stands
    put_found : insert_entry space_cmp spaces key ids ≡ set spaces at (entry.0, ids)
    put_found = StandsAt-insert spaces_total key stands entry ids ∙ (λ i. set spaces at ((sym there i).0, ids))

    pub stays_sorted : IsSortedMap space_cmp spaces → IsSortedMap space_cmp (set spaces at (entry.0, ids))
    stays_sorted sorted = subst (λ es. IsSortedMap space_cmp es) put_found (insert_entry-sorted spaces_total key spaces ids sorted)

    pub puts_found : (name : InternalName) (id : Id) → key ≡ namespace_of name → id ≡ basename_of name → Adds id_cmp entry.1 ids id → PutsName spaces (set spaces at (entry.0, ids)) name
    puts_found name id within is adds =
        let before : get space_cmp spaces (namespace_of name) ≡ Some entry.1 = ap (get space_cmp spaces) (sym within) ∙ StandsAt-get spaces_total key stands entry ∙ ap (λ e. Some e.1) (sym there) in
        subst (λ es. PutsName spaces es name) (ap (λ k. insert_entry space_cmp spaces k ids) (sym within) ∙ put_found)
        (puts_name spaces name (Some entry.1) ids before (subst (λ i. Adds id_cmp entry.1 ids i) is adds))

  module _ (belongs : BelongsAt space_cmp spaces key at) (ids : List Id) where
    -- basenames put where a namespace belongs
    pub grows_sorted : IsSortedMap space_cmp spaces → IsSortedMap space_cmp (insert spaces at (key, ids))
    grows_sorted sorted = subst (λ es. IsSortedMap space_cmp es) (BelongsAt-insert spaces_total key belongs ids) (insert_entry-sorted spaces_total key spaces ids sorted)

    pub puts_missing : (name : InternalName) (id : Id) → key ≡ namespace_of name → id ≡ basename_of name → Adds id_cmp [] ids id → PutsName spaces (insert spaces at (key, ids)) name
    puts_missing name id within is adds =
        let before : get space_cmp spaces (namespace_of name) ≡ None = ap (get space_cmp spaces) (sym within) ∙ BelongsAt-get spaces_total key belongs in
        subst (λ es. PutsName spaces es name) (ap (λ k. insert_entry space_cmp spaces k ids) (sym within) ∙ BelongsAt-insert spaces_total key belongs ids)
        (puts_name spaces name None ids before (subst (λ i. Adds id_cmp [] ids i) is adds))
