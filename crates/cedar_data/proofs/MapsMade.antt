-- SPDX-License-Identifier: Apache-2.0
-- The map that pairs make, seen through functions of its keys and values.
use Rattle.std.proofs.Common.{◌≡◌, List, [], ◌∷◌, map, fold, refl, ap, ◌∙◌}
use Rattle.std.specs.declared.cmp.Ordering.{Ordering}
use Rattle.std.specs.declared.cmp.Ordering.TheVariants.{Less, Equal, Greater}
use Rattle.std.specs.Ordering.{match_ordering}
use Rattle.std.specs.BTreeMap.{insert_entry}
use Rattle.cedar_data.specs.Maps.{map_of}

module _ {K J V W : Type 0} (cmp : K → K → Ordering) (cmp' : J → J → Ordering) (f : K → J) (g : V → W) (same : (a b : K) → cmp a b ≡ cmp' (f a) (f b)) where
  -- an entry, seen through the functions
  abbrev pub seen : K × V → J × W
  seen e = (f e.0, g e.1)

  -- putting an entry in, and then looking through functions that keep the order
  pub map-insert_entry : (es : List (K × V)) (k : K) (v : V) → map seen (insert_entry cmp es k v) ≡ insert_entry cmp' (map seen es) (f k) (g v)
  map-insert_entry [] k v = refl
  map-insert_entry (e ∷ es) k v =
      by (cmp k e.0) (map-insert_entry es k v) ∙ ap (λ o. match_ordering o (seen (k, v) ∷ seen e ∷ map seen es) ((f e.0, g v) ∷ map seen es) (seen e ∷ insert_entry cmp' (map seen es) (f k) (g v))) (same k e.0)
    where
      by : (o : Ordering) → map seen (insert_entry cmp es k v) ≡ insert_entry cmp' (map seen es) (f k) (g v)
          → map seen (match_ordering o ((k, v) ∷ e ∷ es) ((e.0, v) ∷ es) (e ∷ insert_entry cmp es k v)) ≡ match_ordering o (seen (k, v) ∷ seen e ∷ map seen es) ((f e.0, g v) ∷ map seen es) (seen e ∷ insert_entry cmp' (map seen es) (f k) (g v))
      by Less h = refl
      by Equal h = refl
      by Greater h = ap (λ l. seen e ∷ l) h

  -- the map of pairs, seen through functions that keep the order
  pub map-map_of : (pairs : List (K × V)) → map seen (map_of cmp pairs) ≡ map_of cmp' (map seen pairs)
  map-map_of pairs = from [] pairs
    where
      from : (es pairs : List (K × V)) → map seen (fold (λ m e. insert_entry cmp m e.0 e.1) es pairs) ≡ fold (λ m e. insert_entry cmp' m e.0 e.1) (map seen es) (map seen pairs)
      from es [] = refl
      from es (e ∷ pairs) = from (insert_entry cmp es e.0 e.1) pairs ∙ ap (λ m. fold (λ m e. insert_entry cmp' m e.0 e.1) m (map seen pairs)) (map-insert_entry es e.0 e.1)
