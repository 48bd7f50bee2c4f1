-- SPDX-License-Identifier: Apache-2.0
-- Counting items one by one.
use Rattle.std.proofs.Common.{◌≡◌, ℕ, ◌+◌, ◌≤◌, ◌^◌, ◌-◌, List, [], ◌∷◌, ap, ◌∙◌, arith}
use Rattle.std.proofs.lemmas.List.Sums.{sum_by-cons}
use Rattle.std.specs.List.{sum_by}
use Rattle.cedar_listing.specs.Counts.{counted}

-- of the sum over all items, this much is counted, and the items `left` are not
pub record IsCounted {X : Type 0} (size : X → ℕ) (all : List X) (count : ℕ) (left : List X) : Type 0 where
  pub sum : counted (sum_by size all) ≡ counted (count + sum_by size left)
  pub within : count ≤ 2 ^ 128 - 1

module _ {X : Type 0} {size : X → ℕ} {all items : List X} where
  pub counted-start : items ≡ all → IsCounted size all 0 items
  counted-start e =
      let same : sum_by size items ≡ sum_by size all = ap (sum_by size) e in
      record { sum = omega (arith, same); within = omega arith }

  pub counted-next : {old new : ℕ} {item : X} {left : List X} → IsCounted size all old items → items ≡ item ∷ left → new ≡ counted (old + size item)
      → IsCounted size all new left
  counted-next {old = old} {new = new} {item = item} {left = left} c e n =
      let split : sum_by size items ≡ size item + sum_by size left = ap (sum_by size) e ∙ sum_by-cons size item left in
      record { sum = omega (arith, c.sum, split, n); within = omega (arith, n) }

  pub counted-end : {count : ℕ} → IsCounted size all count items → items ≡ [] → count ≡ counted (sum_by size all)
  counted-end {count = count} c e =
      let none : sum_by size items ≡ 0 = ap (sum_by size) e in
      omega (arith, c.sum, none, c.within)

-- for a loop that counts
pub ruleset counting = (counted-start, counted-next, counted-end)
