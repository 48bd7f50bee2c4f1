-- SPDX-License-Identifier: Apache-2.0
-- What stands in the order of its keys stands so as it is seen.
use Rattle.std.proofs.Common.{◌≡◌, List, [], ◌∷◌, map}
use Rattle.std.specs.List.{AllByRecursion}
use Rattle.std.specs.List.Sorted.{IsStrictlySortedBy}
use Rattle.std.specs.Map.{keys_of}
use Rattle.std.specs.declared.cmp.Ordering.{Ordering}
use Rattle.std.specs.declared.cmp.Ordering.TheVariants.{Less}
use Rattle.cedar_data.specs.Maps.{IsSortedMap}

module _ {K V W S : Type 0} (order : W → W → Ordering) (word : K → W) (see : V → S) where
  abbrev worded : List (K × V) → List (W × S)
  worded es = map (λ e. (word e.0, see e.1)) es

  above : (k : K) (es : List (K × V)) → AllByRecursion (λ y. order (word k) (word y) ≡ Less) (keys_of es) → AllByRecursion (λ y. order (word k) y ≡ Less) (keys_of (worded es))
  above k [] h = tt
  above k (e ∷ es) h = (h.0, above k es h.1)

  -- entries whose words ascend, as they are seen
  pub seen_ascending : (es : List (K × V)) → IsSortedMap (λ a b. order (word a) (word b)) es → IsSortedMap order (worded es)
  unfolding IsStrictlySortedBy
  seen_ascending [] s = tt
  seen_ascending (e ∷ es) s = (above e.0 es s.0, seen_ascending es s.1)
