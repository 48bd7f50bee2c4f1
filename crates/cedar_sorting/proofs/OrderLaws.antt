-- SPDX-License-Identifier: Apache-2.0
-- Orders, and positions that reach themselves.
use Rattle.std.proofs.Common.{◌≡◌, ℕ, ◌+◌, ◌<◌, ◌≤◌, List, [], ◌∷◌, length, take, get_or, zero, suc, Contains, ⊎_elim, sym, ap, ◌∙◌, subst, arith}
use Rattle.std.proofs.lemmas.Bool.{cases_lt}
use Rattle.std.proofs.lemmas.List.{get_or-take, get_or_default, length-take-le}
use Rattle.cedar_closure.specs.Chains.{Reaches, one, more}
use Rattle.cedar_closure.specs.Marks.{Leads}
use Rattle.cedar_sorting.specs.Orders.{IsOrder, IsLeastOnCycle}
use Rattle.cedar_sorting.specs.Searched.{IsLeastToReturn}

-- only positions of rows lead on
pub leads_inside : (rows : List (List ℕ)) (i j : ℕ) → Leads rows i j → i < length rows
leads_inside [] i j h = absurd (omega (arith, h.1))
leads_inside (row ∷ rows) zero j h = omega arith
leads_inside (row ∷ rows) (suc i) j h = let rest = leads_inside rows i j h in omega (arith, rest)

pub first_inside : (rows : List (List ℕ)) {i j : ℕ} → Reaches (Leads rows) i j → i < length rows
first_inside rows {i} {j} (one {a} {b} s) = leads_inside rows i j s
first_inside rows {i} {j} (more {a} {b} {c} s r) = leads_inside rows i b s

-- where some position reaches itself, what the search finds is the least that does
pub least_found : (rows : List (List ℕ)) (least : ℕ) → ((i : ℕ) × Reaches (Leads rows) i i) → IsLeastToReturn rows least → IsLeastOnCycle rows least
least_found rows least cycle found =
    let inside = first_inside rows cycle.1 in
    let bound = found.bound cycle.0 inside cycle.1 in
    let stands : least < length rows = omega (arith, inside, bound) in
    record {
      stands = stands;
      returns = found.returns stands;
      bound = λ i r. found.bound i (first_inside rows r) r;
    }

module _ {rows : List (List ℕ)} {order : List ℕ} (ordered : IsOrder rows order) where
  -- a position stands in the order before another place
  abbrev Before : ℕ → ℕ → Type 0
  Before k j = (m : ℕ) × (m < k) × (m < length order) × (get_or order m 0 ≡ j)

  -- what a position in order leads to stands before it
  steps_back : (k j : ℕ) → k < length order → Leads rows (get_or order k 0) j → Before k j
  steps_back k j l h =
      let (m, n, e) = ordered.behind k j l h in
      let low : m < k = omega (arith, n, length-take-le k order (omega (arith, l))) in
      (m, low, omega (arith, low, l), sym (get_or-take k order m 0 low) ∙ get_or_default (take k order) m 0 j n ∙ e)

  -- and so does all that it reaches
  reaches_back : {i j : ℕ} → Reaches (Leads rows) i j → (k : ℕ) → k < length order → get_or order k 0 ≡ i → Before k j
  reaches_back {i} {j} (one {a} {b} s) k l at = steps_back k j l (subst (λ n. Leads rows n j) (sym at) s)
  reaches_back {i} {j} (more {a} {b} {c} s r) k l at =
      let (m, low, inside, e) = steps_back k b l (subst (λ n. Leads rows n b) (sym at) s) in
      let (n, lower, within, is) = reaches_back r m inside e in
      (n, omega (arith, low, lower), within, is)

  no_return : (fuel : ℕ) {i : ℕ} → Reaches (Leads rows) i i → (k : ℕ) → k < fuel → k < length order → get_or order k 0 ≡ i → ⊥
  no_return zero r k below l at = omega (arith, below)
  no_return (suc fuel) r k below l at =
      let (m, low, inside, e) = reaches_back r k l at in
      no_return fuel r m (omega (arith, low, below)) inside e

  -- no position in order reaches itself
  pub no_cycle : (i : ℕ) → Reaches (Leads rows) i i → ⊥
  no_cycle i r =
      let (k, l, e) = ordered.whole i (first_inside rows r) in
      no_return (suc k) r k (omega arith) l (get_or_default order k 0 i l ∙ e)
