-- SPDX-License-Identifier: Apache-2.0
-- Loops that go over a map or a set in order and build another with the same keys.
use Rattle.std.proofs.Common.{◌≡◌, List, [], ◌∷◌, ◌++◌, refl, sym, ap, ◌∙◌, subst, append_assoc}
use Rattle.std.proofs.lemmas.List.{append-nil}
use Rattle.std.specs.declared.cmp.Ordering.{Ordering}
use Rattle.std.specs.declared.cmp.Ordering.TheVariants.{Less, Greater}
use Rattle.std.specs.Ordering.{ordering_reverse, match_ordering}
use Rattle.std.specs.Cmp.{IsTotalOrder}
use Rattle.std.specs.List.{AllByRecursion}
use Rattle.std.specs.List.Sorted.{IsStrictlySortedBy}
use Rattle.std.specs.BTreeMap.{insert_entry}
use Rattle.std.specs.BTreeSet.{insert_key}
use Rattle.std.specs.Map.{keys_of}
use Rattle.std.proofs.lemmas.Map.Keys.{sorted_head, sorted_tail}
use Rattle.cedar_data.specs.Maps.{IsSortedMap, map_values}

-- what holds of each element holds of the one after the first ones
pub at_next : {X : Type 0} (P : X → Type 0) (xs ys : List X) (x : X) → AllByRecursion P (xs ++ x ∷ ys) → P x
at_next P [] ys x all = all.0
at_next P (_ ∷ xs) ys x all = at_next P xs ys x all.1

-- and of each of the first ones
at_first : {X : Type 0} (P : X → Type 0) (xs ys : List X) (x : X) → AllByRecursion P (xs ++ x ∷ ys) → AllByRecursion P (xs ++ x ∷ [])
at_first P [] ys x all = (all.0, tt)
at_first P (_ ∷ xs) ys x all = (all.0, at_first P xs ys x all.1)

module _ {K : Type 0} (cmp : K → K → Ordering) where
  -- the first keys of keys that ascend, with the next one
  sorted_front : (ks : List K) (k : K) (rest : List K) → IsStrictlySortedBy cmp (ks ++ k ∷ rest) → IsStrictlySortedBy cmp (ks ++ k ∷ [])
  unfolding IsStrictlySortedBy
  sorted_front [] k rest sorted = (tt, tt)
  sorted_front (x ∷ ks) k rest sorted = (at_first (λ y. cmp x y ≡ Less) ks rest k sorted.0, sorted_front ks k rest sorted.1)

module _ {K : Type 0} where
  -- a key after all others goes to the end of a set
  pub insert_key-last : {cmp : K → K → Ordering} → IsTotalOrder cmp → (ks : List K) (k : K) → IsStrictlySortedBy cmp (ks ++ k ∷ []) → insert_key cmp ks k ≡ ks ++ k ∷ []
  insert_key-last total [] k sorted = refl
  insert_key-last {cmp} total (x ∷ ks) k sorted =
      let below : cmp x k ≡ Less = at_next (λ y. cmp x y ≡ Less) ks [] k (sorted_head cmp x (ks ++ k ∷ []) sorted) in
      let above : cmp k x ≡ Greater = total.antisymm k x ∙ ap ordering_reverse below in
      let step = insert_key-last total ks k (sorted_tail cmp x (ks ++ k ∷ []) sorted) in
      ap (λ o. match_ordering o (k ∷ x ∷ ks) (x ∷ ks) (x ∷ insert_key cmp ks k)) above ∙ ap (λ l. x ∷ l) step

  -- a key before all others goes to the front of a set
  pub insert_key-first : (cmp : K → K → Ordering) (ks : List K) (k : K) → IsStrictlySortedBy cmp (k ∷ ks) → insert_key cmp ks k ≡ k ∷ ks
  insert_key-first cmp [] k sorted = refl
  insert_key-first cmp (x ∷ ks) k sorted =
      ap (λ o. match_ordering o (k ∷ x ∷ ks) (x ∷ ks) (x ∷ insert_key cmp ks k)) (sorted_head cmp k (x ∷ ks) sorted).0

  -- of keys that ascend, the last ones do
  pub sorted_back : (cmp : K → K → Ordering) (front back : List K) → IsStrictlySortedBy cmp (front ++ back) → IsStrictlySortedBy cmp back
  sorted_back cmp [] back sorted = sorted
  sorted_back cmp (x ∷ front) back sorted = sorted_back cmp front back (sorted_tail cmp x (front ++ back) sorted)

  -- on the way back through a set, the next key and those so far ascend
  pub sorted_previous_key : (cmp : K → K → Ordering) (front done : List K) {left whole : List K} {key next : K} → left ++ done ≡ whole → left ≡ front ++ next ∷ [] → key ≡ next → IsStrictlySortedBy cmp whole → IsStrictlySortedBy cmp (key ∷ done)
  sorted_previous_key cmp front done {left} {whole} {key} {next} split last same sorted =
      let all : whole ≡ front ++ next ∷ done = sym split ∙ ap (λ l. l ++ done) last ∙ append_assoc front (next ∷ []) done in
      subst (λ k. IsStrictlySortedBy cmp (k ∷ done)) (sym same) (sorted_back cmp front (next ∷ done) (subst (λ ks. IsStrictlySortedBy cmp ks) all sorted))

  -- on the way through a set, the keys so far and the next one ascend
  pub sorted_next_key : (cmp : K → K → Ordering) (done : List K) {left rest whole : List K} {key next : K} → done ++ left ≡ whole → left ≡ next ∷ rest → key ≡ next → IsStrictlySortedBy cmp whole → IsStrictlySortedBy cmp (done ++ key ∷ [])
  sorted_next_key cmp done {left} {rest} {whole} {key} {next} split first same sorted =
      let all : whole ≡ done ++ next ∷ rest = sym split ∙ ap (λ l. done ++ l) first in
      subst (λ k. IsStrictlySortedBy cmp (done ++ k ∷ [])) (sym same) (sorted_front cmp done next rest (subst (λ ks. IsStrictlySortedBy cmp ks) all sorted))

module _ {K V : Type 0} where
  pub keys_of-append : (xs ys : List (K × V)) → keys_of (xs ++ ys) ≡ keys_of xs ++ keys_of ys
  keys_of-append [] ys = refl
  keys_of-append (x ∷ xs) ys = ap (λ ks. x.0 ∷ ks) (keys_of-append xs ys)

  -- a key after all others goes to the end
  pub insert_entry-last : {cmp : K → K → Ordering} → IsTotalOrder cmp → (es : List (K × V)) (k : K) (v : V) → IsStrictlySortedBy cmp (keys_of es ++ k ∷ []) → insert_entry cmp es k v ≡ es ++ (k, v) ∷ []
  insert_entry-last total [] k v sorted = refl
  insert_entry-last {cmp} total (e ∷ es) k v sorted =
      let below : cmp e.0 k ≡ Less = at_next (λ y. cmp e.0 y ≡ Less) (keys_of es) [] k (sorted_head cmp e.0 (keys_of es ++ k ∷ []) sorted) in
      let above : cmp k e.0 ≡ Greater = total.antisymm k e.0 ∙ ap ordering_reverse below in
      let step = insert_entry-last total es k v (sorted_tail cmp e.0 (keys_of es ++ k ∷ []) sorted) in
      ap (λ o. match_ordering o ((k, v) ∷ e ∷ es) ((e.0, v) ∷ es) (e ∷ insert_entry cmp es k v)) above ∙ ap (λ l. e ∷ l) step

  -- a key before all others goes to the front
  pub insert_entry-first : (cmp : K → K → Ordering) (es : List (K × V)) (k : K) (v : V) → IsStrictlySortedBy cmp (k ∷ keys_of es) → insert_entry cmp es k v ≡ (k, v) ∷ es
  insert_entry-first cmp [] k v sorted = refl
  insert_entry-first cmp (e ∷ es) k v sorted =
      ap (λ o. match_ordering o ((k, v) ∷ e ∷ es) ((e.0, v) ∷ es) (e ∷ insert_entry cmp es k v)) (sorted_head cmp k (keys_of (e ∷ es)) sorted).0

  -- on the way back through a map, the next key and those so far ascend
  pub sorted_previous : (cmp : K → K → Ordering) (front done : List (K × V)) (value : V) {left whole : List (K × V)} {key next : K} → left ++ done ≡ whole → left ≡ front ++ (next, value) ∷ [] → key ≡ next → IsSortedMap cmp whole → IsStrictlySortedBy cmp (key ∷ keys_of done)
  sorted_previous cmp front done value {left} {whole} {key} {next} split last same sorted =
      let keys : keys_of left ++ keys_of done ≡ keys_of whole = sym (keys_of-append left done) ∙ ap keys_of split in
      sorted_previous_key cmp (keys_of front) (keys_of done) keys (ap keys_of last ∙ keys_of-append front ((next, value) ∷ [])) same sorted

  -- on the way through a map, the keys so far and the next one ascend
  pub sorted_next : (cmp : K → K → Ordering) (done : List (K × V)) {left rest whole : List (K × V)} {key next : K} {value : V} → done ++ left ≡ whole → left ≡ (next, value) ∷ rest → key ≡ next → IsSortedMap cmp whole → IsStrictlySortedBy cmp (keys_of done ++ key ∷ [])
  sorted_next cmp done {left} {rest} {whole} {key} {next} {value} split first same sorted =
      let all : keys_of whole ≡ keys_of done ++ next ∷ keys_of rest = ap keys_of (sym split ∙ ap (λ l. done ++ l) first) ∙ keys_of-append done ((next, value) ∷ rest) in
      subst (λ k. IsStrictlySortedBy cmp (keys_of done ++ k ∷ [])) (sym same) (sorted_front cmp (keys_of done) next (keys_of rest) (subst (λ ks. IsStrictlySortedBy cmp ks) all sorted))

-- a loop over `whole` that has `left` before it has made, of each entry that it has passed, the same key with f of the value
pub record Rebuilds {K V W : Type 0} (f : V → W) (whole left : List (K × V)) (made : List (K × W)) : Type 0 where
  pub done : List (K × V)
  pub split : done ++ left ≡ whole
  pub is : made ≡ map_values f done

module _ {K V W : Type 0} where
  keys_of-map_values : (f : V → W) (es : List (K × V)) → keys_of (map_values f es) ≡ keys_of es
  keys_of-map_values f [] = refl
  keys_of-map_values f (e ∷ es) = ap (λ ks. e.0 ∷ ks) (keys_of-map_values f es)

  pub map_values-append : (f : V → W) (xs ys : List (K × V)) → map_values f (xs ++ ys) ≡ map_values f xs ++ map_values f ys
  map_values-append f [] ys = refl
  map_values-append f (x ∷ xs) ys = ap (λ l. (x.0, f x.1) ∷ l) (map_values-append f xs ys)

  -- before the first entry
  pub Rebuilds-start : (f : V → W) (whole left : List (K × V)) (made : List (K × W)) → left ≡ whole → made ≡ [] → Rebuilds f whole left made
  Rebuilds-start f whole left made all none = record { done = []; split = all; is = none }

  -- one entry more
  pub Rebuilds-next : {f : V → W} {whole left rest : List (K × V)} {made more : List (K × W)} {key next : K} {value : V} {new : W} → Rebuilds f whole left made → left ≡ (next, value) ∷ rest → key ≡ next → new ≡ f value → more ≡ made ++ (key, new) ∷ [] → Rebuilds f whole rest more
  Rebuilds-next {f} {whole} {left} {rest} {made} {more} {key} {next} {value} {new} sofar first same changed pushed = record {
    done = sofar.done ++ (next, value) ∷ [];
    split = append_assoc sofar.done ((next, value) ∷ []) rest ∙ ap (λ l. sofar.done ++ l) (sym first) ∙ sofar.split;
    is = pushed ∙ ap (λ l. l ++ (key, new) ∷ []) sofar.is ∙ ap (λ e. map_values f sofar.done ++ e ∷ []) (λ i. (same i, changed i)) ∙ sym (map_values-append f sofar.done ((next, value) ∷ []));
  }

  -- after the last
  pub Rebuilds-end : {f : V → W} {whole left : List (K × V)} {made : List (K × W)} → Rebuilds f whole left made → left ≡ [] → made ≡ map_values f whole
  Rebuilds-end {f} {whole} {left} {made} sofar none = sofar.is ∙ ap (map_values f) (sym (append-nil sofar.done) ∙ ap (λ l. sofar.done ++ l) (sym none) ∙ sofar.split)

  -- the keys made so far and the next one ascend
  pub Rebuilds-sorted : (cmp : K → K → Ordering) {f : V → W} {whole left rest : List (K × V)} {made : List (K × W)} {key next : K} {value : V} → Rebuilds f whole left made → left ≡ (next, value) ∷ rest → key ≡ next → IsSortedMap cmp whole → IsStrictlySortedBy cmp (keys_of made ++ key ∷ [])
  Rebuilds-sorted cmp {f} {made = made} {key = key} sofar first same sorted =
      let keys : keys_of sofar.done ≡ keys_of made = sym (keys_of-map_values f sofar.done) ∙ ap keys_of (sym sofar.is) in
      subst (λ ks. IsStrictlySortedBy cmp (ks ++ key ∷ [])) keys (sorted_next cmp sofar.done sofar.split first same sorted)

pub ruleset rebuilds = (Rebuilds-start, Rebuilds-next, Rebuilds-end, Rebuilds-sorted)
