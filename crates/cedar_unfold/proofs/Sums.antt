-- SPDX-License-Identifier: Apache-2.0
-- The sum over positions that differ is at most that over all.
use Rattle.std.proofs.Common.{◌≡◌, ℕ, ◌+◌, ◌<◌, ◌≤◌, List, [], ◌∷◌, length, map, set, get_or, suc, All, refl, sym, ap, ◌∙◌, subst, arith}
use Rattle.std.proofs.lemmas.List.{get_or-set_other, length-set, length-map}
use Rattle.std.proofs.lemmas.List.Elements.{All-tail}
use Rattle.std.proofs.lemmas.List.Sums.{sum_by-set, sum_by-cons}
use Rattle.std.specs.List.{AllPairs, sum_by}
use Rattle.cedar_schema_error.specs.FullNames.{FullName}
use Rattle.cedar_sorting.specs.Orders.{IsOrder}
use Rattle.cedar_unfold.specs.Full.{nodes_at}
use Rattle.cedar_unfold.specs.Rows.{row_of, written_rows}
use Rattle.cedar_unfolding.specs.Written.{Written, nodes, all_nodes}

pub sum_same : {X : Type 0} (f g : X → ℕ) (xs : List X) → ((k : ℕ) (d : X) → k < length xs → f (get_or xs k d) ≡ g (get_or xs k d)) → sum_by f xs ≡ sum_by g xs
sum_same f g [] same = refl
sum_same f g (x ∷ xs) same =
    let here = same 0 x (omega arith) in
    let rest = sum_same f g xs (λ k d l. same (suc k) d (omega (arith, l))) in
    sum_by-cons f x xs ∙ (λ i. here i + rest i) ∙ sym (sum_by-cons g x xs)

pub sum_apart : (order weights : List ℕ) → All (λ i. i < length weights) order → AllPairs (λ i j. i ≡ j → ⊥) order → sum_by (λ i. get_or weights i 0) order ≤ sum_by (λ x. x) weights
sum_apart [] weights within apart = omega arith
sum_apart (i ∷ is) weights within apart =
    let inside : i < length weights = within 0 i (omega arith) in
    let taken = sum_by-set (λ x. x) weights i 0 0 inside in
    let rest = sum_apart is (set weights i 0) (subst (λ n. All (λ j. j < n) is) (sym (length-set weights i 0)) (All-tail (λ j. j < length weights) i is within)) (λ a b d l m. apart (suc a) (suc b) d (omega (arith, l)) (omega (arith, m))) in
    let same = sum_same (λ j. get_or weights j 0) (λ j. get_or (set weights i 0) j 0) is (λ k d l. sym (get_or-set_other weights i (get_or is k d) 0 0 (λ e. apart 0 (suc k) d (omega arith) (omega (arith, l)) (sym e)))) in
    let cons = sum_by-cons (λ j. get_or weights j 0) i is in
    omega (arith, taken, rest, same, cons)

sum-weights : {K : Type 0} (definitions : List (K × Written FullName)) → sum_by (λ x. x) (map (λ c. nodes c.1) definitions) ≡ all_nodes definitions
sum-weights [] = refl
sum-weights (c ∷ cs) = sum_by-cons (λ x. x) (nodes c.1) (map (λ c. nodes c.1) cs) ∙ ap (λ n. nodes c.1 + n) (sum-weights cs) ∙ sym (sum_by-cons (λ c. nodes c.1) c cs)

-- the looks at the definitions in order are no more than their nodes
pub order-nodes : (definitions : List (FullName × Written FullName)) (names : List FullName) (order : List ℕ) → IsOrder (written_rows names definitions) order → sum_by (nodes_at definitions) order ≤ all_nodes definitions
order-nodes definitions names order ordered =
    let same = length-map definitions (λ c. nodes c.1) in
    let rows = length-map definitions (λ c. row_of names c.1) in
    let apart = sum_apart order (map (λ c. nodes c.1) definitions) (λ k d l. let inside = ordered.within k d l in omega (arith, inside, same, rows)) ordered.apart in
    let total = sum-weights definitions in
    omega (arith, apart, total)
