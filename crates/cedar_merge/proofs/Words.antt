-- SPDX-License-Identifier: Apache-2.0
-- Look-ups by words in maps whose keys are ordered by them.
use Rattle.std.proofs.Common.{◌≡◌, ◌++◌, Bool, true, false, cond, List, [], ◌∷◌, map, Some, None, option_map, refl, sym, ap, ◌∙◌}
use Rattle.std.specs.BTreeMap.{insert_entry, is_at}
use Rattle.std.specs.Option.{option_or}
use Rattle.std.specs.Ordering.{is_eq, ordering_reverse}
use Rattle.std.specs.declared.cmp.Ordering.{Ordering}
use Rattle.std.specs.declared.cmp.Ordering.TheVariants.{Less, Equal, Greater}
use Rattle.cedar_data.proofs.Exact.{IsExact}
use Rattle.cedar_data.proofs.MapsMade.{map-insert_entry}
use Rattle.cedar_data.proofs.Passing.{AllPass-map}
use Rattle.cedar_data.proofs.Puts.{get-insert_entry}
use Rattle.cedar_data.proofs.RunOrder.{sorted_before}
use Rattle.cedar_data.specs.Firsts.{AllPass}
use Rattle.cedar_data.specs.Maps.{IsSortedMap, get, map_values}
use Rattle.cedar_merge.specs.Lookups.{at}

is_equal : (o : Ordering) → is_eq o ≡ true → o ≡ Equal
is_equal Less e = absurd (cc)
is_equal Equal e = refl
is_equal Greater e = absurd (cc)

-- a test passes the words that it is of, and no others
pub is_same : {W : Type 0} {order : W → W → Ordering} → IsExact order → (v w : W) → is_at (order v) w ≡ true → v ≡ w
is_same {order = order} exact v w e = exact.exact v w (is_equal (order v w) e)

module _ {K V W : Type 0} (order : W → W → Ordering) (words : K → W) where
  pub at-append : (xs ys : List (K × V)) (w : W) → at order words (xs ++ ys) w ≡ option_or (at order words xs w) (at order words ys w)
  at-append [] ys w = refl
  at-append (x ∷ xs) ys w = by (is_at (order w) (words x.0)) (at-append xs ys w)
    where
      by : (b : Bool) → at order words (xs ++ ys) w ≡ option_or (at order words xs w) (at order words ys w)
          → cond b (Some x.1) (at order words (xs ++ ys) w) ≡ option_or (cond b (Some x.1) (at order words xs w)) (at order words ys w)
      by true h = refl
      by false h = h

  -- the value is what f makes of the one that was there
  pub at-map_values : {U : Type 0} (f : V → U) (es : List (K × V)) (w : W) → at order words (map_values f es) w ≡ option_map f (at order words es w)
  at-map_values f [] w = refl
  at-map_values f (e ∷ es) w = by (is_at (order w) (words e.0)) (at-map_values f es w)
    where
      by : (b : Bool) → at order words (map_values f es) w ≡ option_map f (at order words es w)
          → cond b (Some (f e.1)) (at order words (map_values f es) w) ≡ option_map f (cond b (Some e.1) (at order words es w))
      by true h = refl
      by false h = h

module _ {K V W : Type 0} {cmp : K → K → Ordering} {order : W → W → Ordering} (exact : IsExact order) (words : K → W) (same : (a b : K) → cmp a b ≡ order (words a) (words b)) where
  -- what is found by a key is found by its words
  pub get-at : (es : List (K × V)) (k : K) → get cmp es k ≡ at order words es (words k)
  get-at [] k = refl
  get-at (e ∷ es) k = λ i. cond (is_eq (same k e.0 i)) (Some e.1) (get-at es k i)

  -- an entry is put in
  pub at-insert : (es : List (K × V)) (k : K) (v : V) (w : W) → at order words (insert_entry cmp es k v) w ≡ cond (is_at (order (words k)) w) (Some v) (at order words es w)
  at-insert es k v w =
      ap (λ (m : List (W × V)). get order m w) (map-insert_entry cmp order words (λ (v : V). v) same es k v)
      ∙ get-insert_entry exact.total (map (λ e. (words e.0, e.1)) es) (words k) v w

  -- entries before another have words before its
  before : (done : List (K × V)) (e : K × V) (rest : List (K × V)) → IsSortedMap cmp (done ++ e ∷ rest) → AllPass (λ d. order (words d.0) (words e.0) ≡ Less) done
  before done e rest sorted = AllPass-map (λ d l. sym (same d.0 e.0) ∙ l) done (sorted_before cmp done e rest sorted)

  -- among them its words are not found
  pub fresh : (done : List (K × V)) (e : K × V) (rest : List (K × V)) → IsSortedMap cmp (done ++ e ∷ rest) → at order words done (words e.0) ≡ None
  fresh done e rest sorted = by done (before done e rest sorted)
    where
      by : (xs : List (K × V)) → AllPass (λ d. order (words d.0) (words e.0) ≡ Less) xs → at order words xs (words e.0) ≡ None
      by [] p = refl
      by (x ∷ xs) p =
          ap (λ o. cond (is_eq o) (Some x.1) (at order words xs (words e.0))) (exact.total.antisymm (words e.0) (words x.0) ∙ ap ordering_reverse p.0) ∙ by xs p.1

  -- what is found among them is less
  pub below : (done : List (K × V)) (e : K × V) (rest : List (K × V)) → IsSortedMap cmp (done ++ e ∷ rest) → (w : W) (v : V) → at order words done w ≡ Some v → order w (words e.0) ≡ Less
  below done e rest sorted w v = by done (before done e rest sorted)
    where
      by : (xs : List (K × V)) → AllPass (λ d. order (words d.0) (words e.0) ≡ Less) xs → at order words xs w ≡ Some v → order w (words e.0) ≡ Less
      by [] p found = absurd (cc)
      by (x ∷ xs) p found = pick (is_at (order w) (words x.0)) refl found (by xs p.1)
        where
          pick : (b : Bool) → is_at (order w) (words x.0) ≡ b → cond b (Some x.1) (at order words xs w) ≡ Some v → (at order words xs w ≡ Some v → order w (words e.0) ≡ Less) → order w (words e.0) ≡ Less
          pick true here found rest = exact.total.congr w (words x.0) (words e.0) (is_equal (order w (words x.0)) here) ∙ p.0
          pick false here found rest = rest found
