-- SPDX-License-Identifier: Apache-2.0
-- Objects made of maps in the order of their keys, and arrays made of lists.
use Rattle.std.proofs.Common.{◌≡◌, ℕ, List, [], ◌∷◌, ◌++◌, map, refl, sym, ap, ◌∙◌, subst, append_assoc, append-nil, fold}
use Rattle.std.proofs.lemmas.Cmp.{nat_list_cmp_total, on_total}
use Rattle.std.proofs.lemmas.Map.Made.{keys_of-map_values}
use Rattle.std.specs.BTreeMap.{insert_entry}
use Rattle.std.specs.Cmp.{IsTotalOrder}
use Rattle.std.specs.Cmp.Lexicographic.{slice_cmp}
use Rattle.std.specs.List.{AllByRecursion}
use Rattle.std.specs.List.Sorted.{IsStrictlySortedBy}
use Rattle.std.specs.Map.{keys_of}
use Rattle.std.specs.Ordering.{nat_cmp, match_ordering, ordering_reverse}
use Rattle.std.specs.declared.cmp.Ordering.{Ordering}
use Rattle.std.specs.declared.cmp.Ordering.TheVariants.{Less, Greater}
use Rattle.cedar_data.specs.Maps.{IsSortedMap, map_of, map_values}
use Rattle.cedar_data.proofs.Rebuild.{insert_entry-last, sorted_next_key}
use Rattle.serde_json.specs.Data.{Data, Members, no_members, member, put}
use Rattle.serde_json.specs.View.{items_of}
use Rattle.cedar_json_types.specs.Shapes.{ArrayOf, EachItem, EachMember, MapOf}
use Rattle.cedar_json_write.specs.Written.{Field, all_of, each_at, put_all}

-- ---- members in order

-- the members that these fields are, in order
abbrev pub listed : List Field → Members
listed [] = no_members
listed (f ∷ fs) = member f.0 f.1 (listed fs)

below_last : (k : List ℕ) (fs : List Field) (f : Field) (more : List Field) → AllByRecursion (λ y. slice_cmp nat_cmp k y ≡ Less) (keys_of (fs ++ f ∷ more)) → slice_cmp nat_cmp k f.0 ≡ Less
below_last k [] f more below = below.0
below_last k (g ∷ fs) f more below = below_last k fs f more below.1

put_last : (done : List Field) (f : Field) (more : List Field) → IsStrictlySortedBy (slice_cmp nat_cmp) (keys_of (done ++ f ∷ more)) → put f.0 f.1 (listed done) ≡ listed (done ++ f ∷ [])
unfolding IsStrictlySortedBy
put_last [] f more sorted = refl
put_last (g ∷ done) f more sorted =
    let above : slice_cmp nat_cmp f.0 g.0 ≡ Greater = nat_list_cmp_total.antisymm f.0 g.0 ∙ ap ordering_reverse (below_last g.0 done f more sorted.0) in
    ap (λ o. match_ordering o (member f.0 f.1 (member g.0 g.1 (listed done))) (member g.0 f.1 (listed done)) (member g.0 g.1 (put f.0 f.1 (listed done)))) above
    ∙ ap (member g.0 g.1) (put_last done f more sorted.1)

put_in_order : (done fs : List Field) → IsStrictlySortedBy (slice_cmp nat_cmp) (keys_of (done ++ fs)) → put_all fs (listed done) ≡ listed (done ++ fs)
put_in_order done [] sorted = ap listed (sym (append-nil done))
put_in_order done (f ∷ fs) sorted =
    ap (put_all fs) (put_last done f fs sorted)
    ∙ put_in_order (done ++ f ∷ []) fs (subst (λ es. IsStrictlySortedBy (slice_cmp nat_cmp) (keys_of es)) (sym (append_assoc done (f ∷ []) fs)) sorted)
    ∙ ap listed (append_assoc done (f ∷ []) fs)

-- members that are put in by ascending keys are in that order
in_order : (fs : List Field) → IsStrictlySortedBy (slice_cmp nat_cmp) (keys_of fs) → put_all fs no_members ≡ listed fs
in_order fs sorted = put_in_order [] fs sorted

-- ---- a map is the map of its own entries

keys-append : {K W : Type 0} (xs ys : List (K × W)) → keys_of (xs ++ ys) ≡ keys_of xs ++ keys_of ys
keys-append [] ys = refl
keys-append (x ∷ xs) ys = ap (λ ks. x.0 ∷ ks) (keys-append xs ys)

module _ {K W : Type 0} (cmp : K → K → Ordering) (total : IsTotalOrder cmp) where
  abbrev step : List (K × W) → K × W → List (K × W)
  step es pair = insert_entry cmp es pair.0 pair.1

  front_sorted : (done : List (K × W)) (e : K × W) (es : List (K × W)) → IsStrictlySortedBy cmp (keys_of (done ++ e ∷ es)) → IsStrictlySortedBy cmp (keys_of done ++ e.0 ∷ [])
  front_sorted done e es sorted = sorted_next_key cmp (keys_of done) {left = e.0 ∷ keys_of es} {rest = keys_of es} {whole = keys_of (done ++ e ∷ es)} {key = e.0} {next = e.0} (sym (keys-append done (e ∷ es))) refl refl sorted

  fold_sorted : (done es : List (K × W)) → IsStrictlySortedBy cmp (keys_of (done ++ es)) → fold step done es ≡ done ++ es
  fold_sorted done [] sorted = sym (append-nil done)
  fold_sorted done (e ∷ es) sorted =
      ap (λ d. fold step d es) (insert_entry-last total done e.0 e.1 (front_sorted done e es sorted))
      ∙ fold_sorted (done ++ e ∷ []) es (subst (λ fs. IsStrictlySortedBy cmp (keys_of fs)) (sym (append_assoc done (e ∷ []) es)) sorted)
      ∙ append_assoc done (e ∷ []) es

  pub of_itself : (es : List (K × W)) → IsSortedMap cmp es → es ≡ map_of cmp es
  of_itself es sorted = sym (fold_sorted [] es sorted)

-- ---- maps

module _ {K V W : Type 0} (key : K → List ℕ) (of : V → Data) (bare : V → W) where
  -- the order of keys by their texts
  abbrev by_text : K → K → Ordering
  by_text a b = slice_cmp nat_cmp (key a) (key b)

  abbrev fields : List (K × V) → List Field
  fields es = map (λ e. (key e.0, of e.1)) es

  all_below : (k : K) (es : List (K × V)) → AllByRecursion (λ y. by_text k y ≡ Less) (keys_of es) → AllByRecursion (λ y. slice_cmp nat_cmp (key k) y ≡ Less) (keys_of (fields es))
  all_below k [] below = tt
  all_below k (e ∷ es) below = (below.0, all_below k es below.1)

  -- where the keys ascend, so do their texts
  texts_sorted : (es : List (K × V)) → IsSortedMap by_text es → IsStrictlySortedBy (slice_cmp nat_cmp) (keys_of (fields es))
  unfolding IsStrictlySortedBy
  texts_sorted [] sorted = tt
  texts_sorted (e ∷ es) sorted = (all_below e.0 es sorted.0, texts_sorted es sorted.1)

  module _ (P : List ℕ → Data → K → W → Type 0) where
    -- each entry, as it is written, is such an entry
    abbrev pub AllWritten : List (K × V) → Type 0
    AllWritten es = AllByRecursion (λ e. P (key e.0) (of e.1) e.0 (bare e.1)) es

    each_listed : (es : List (K × V)) → AllWritten es → EachMember P (listed (fields es)) (map_values bare es)
    each_listed [] all = tt
    each_listed (e ∷ es) all = (all.0, each_listed es all.1)

    -- the object of a map whose keys are in the order of their texts
    pub map_written : (es : List (K × V)) → IsSortedMap by_text es → AllWritten es → MapOf by_text P (each_at key of es) (map_values bare es)
    map_written es sorted all = (
      put_all (fields es) no_members,
      refl,
      (
        map_values bare es,
        subst (λ ms. EachMember P ms (map_values bare es)) (sym (in_order (fields es) (texts_sorted es sorted))) (each_listed es all),
        of_itself by_text (on_total key nat_list_cmp_total) (map_values bare es) (subst (λ ks. IsStrictlySortedBy by_text ks) (sym (keys_of-map_values bare es)) sorted),
      ),
    )

-- ---- arrays

module _ {A V : Type 0} (of : A → Data) (bare : A → V) (P : Data → V → Type 0) (each : (x : A) → P (of x) (bare x)) where
  items_written : (xs : List A) → EachItem P (items_of (map of xs)) (map bare xs)
  items_written [] = tt
  items_written (x ∷ xs) = (each x, items_written xs)

  pub array_written : (xs : List A) → ArrayOf P (all_of of xs) (map bare xs)
  array_written xs = (items_of (map of xs), refl, items_written xs)
