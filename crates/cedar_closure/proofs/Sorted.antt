-- SPDX-License-Identifier: Apache-2.0
-- Maps made of sorted entries, from the last on.
use Rattle.std.proofs.Common.{◌≡◌, List, [], ◌∷◌, ◌++◌, refl, sym, ap, ◌∙◌, subst, append_assoc}
use Rattle.std.proofs.lemmas.List.{map-append}
use Rattle.std.proofs.lemmas.Map.Keys.{sorted_head, sorted_tail}
use Rattle.std.specs.BTreeMap.{insert_entry}
use Rattle.std.specs.List.Sorted.{IsStrictlySortedBy}
use Rattle.std.specs.Map.{keys_of}
use Rattle.std.specs.Ordering.{match_ordering}
use Rattle.std.specs.declared.cmp.Ordering.{Ordering}
use Rattle.cedar_names.specs.of_data.Maps.{IsSortedMap}

-- of keys that ascend, the last ones do
sorted_back : {K : Type 0} (cmp : K → K → Ordering) (front back : List K) → IsStrictlySortedBy cmp (front ++ back) → IsStrictlySortedBy cmp back
sorted_back cmp [] back sorted = sorted
sorted_back cmp (x ∷ front) back sorted = sorted_back cmp front back (sorted_tail cmp x (front ++ back) sorted)

module _ {K V : Type 0} where
  -- an entry before all others goes to the front
  pub insert_entry-first : (cmp : K → K → Ordering) (es : List (K × V)) (k : K) (v : V) → IsStrictlySortedBy cmp (k ∷ keys_of es) → insert_entry cmp es k v ≡ (k, v) ∷ es
  insert_entry-first cmp [] k v sorted = refl
  insert_entry-first cmp (e ∷ es) k v sorted =
      ap (λ o. match_ordering o ((k, v) ∷ e ∷ es) ((e.0, v) ∷ es) (e ∷ insert_entry cmp es k v)) (sorted_head cmp k (keys_of (e ∷ es)) sorted).0

  -- on the way back through a map, the next key and those so far ascend
  pub sorted_previous : (cmp : K → K → Ordering) (front done : List (K × V)) (value : V) {left whole : List (K × V)} {key next : K} → left ++ done ≡ whole → left ≡ front ++ (next, value) ∷ [] → key ≡ next → IsSortedMap cmp whole → IsStrictlySortedBy cmp (key ∷ keys_of done)
  sorted_previous cmp front done value {left} {whole} {key} {next} split last same sorted =
      let all : whole ≡ front ++ (next, value) ∷ done = sym split ∙ ap (λ l. l ++ done) last ∙ append_assoc front ((next, value) ∷ []) done in
      let keys : keys_of whole ≡ keys_of front ++ next ∷ keys_of done = ap keys_of all ∙ map-append (λ e. e.0) front ((next, value) ∷ done) in
      subst (λ k. IsStrictlySortedBy cmp (k ∷ keys_of done)) (sym same) (sorted_back cmp (keys_of front) (next ∷ keys_of done) (subst (λ ks. IsStrictlySortedBy cmp ks) keys sorted))
