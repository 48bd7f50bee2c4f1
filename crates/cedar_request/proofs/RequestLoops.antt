-- SPDX-License-Identifier: Apache-2.0
-- A loop that finds the numbers of requests in order.
use Rattle.std.proofs.Common.{◌≡◌, ℕ, ◌+◌, List, [], ◌∷◌, ◌++◌, Vec, Global, refl, sym, ap, ◌∙◌, append_assoc, append-nil}
use Rattle.std.specs.declared.result.Result.TheVariants.{Ok, Err}
use Rattle.cedar_data.specs.declared.memory.Failure.{Failure}
use Rattle.cedar_written.specs.Answers.{and_then}
use Rattle.cedar_conform.specs.of_world.Schemas.{Schema}
use Rattle.serde_json.specs.View.{view, items_view}
use Rattle.serde_json.specs.declared.value.Value.{Value}
use Rattle.cedar_request.proofs.Said.{Says-at, Says-refused}
use Rattle.cedar_request.specs.RequestChecks.{RequestCheck, Says, each_request, request_check}
use Rattle.cedar_request.specs.declared.fault.RequestFault.{RequestFault}

-- numbers behind those found so far
abbrev pub behind_found : List ℕ → RequestCheck (List ℕ) → RequestCheck (List ℕ)
behind_found made check = and_then check (λ ns. Ok (made ++ ns))

behind-none : (check : RequestCheck (List ℕ)) → check ≡ behind_found [] check
behind-none (Ok ns) = refl
behind-none (Err m) = refl

behind-one : (made : List ℕ) (n : ℕ) (check : RequestCheck (List ℕ)) → behind_found made (and_then check (λ ns. Ok (n ∷ ns))) ≡ behind_found (made ++ n ∷ []) check
behind-one made n (Ok ns) = ap Ok (sym (append_assoc made (n ∷ []) ns))
behind-one made n (Err m) = refl

module _ (S : Schema) where
  -- a loop over `whole` that has `left` before it has found these numbers
  pub record FindsNumbers (whole left : List Value) (place : ℕ) (made : List ℕ) : Type 0 where
    pub is : each_request S 0 (items_view whole) ≡ behind_found made (each_request S place (items_view left))

  pub FindsNumbers-start : (whole left : List Value) (place : ℕ) (made : List ℕ) → left ≡ whole → place ≡ 0 → made ≡ [] → FindsNumbers whole left place made
  FindsNumbers-start whole left place made all zeroth none = record {
    is = ap (λ es. each_request S 0 (items_view es)) (sym all) ∙ ap (λ n. each_request S n (items_view left)) (sym zeroth) ∙ behind-none (each_request S place (items_view left)) ∙ ap (λ m. behind_found m (each_request S place (items_view left))) (sym none);
  }

  -- what comes of the items that are left
  at_next : {left rest : List Value} {value : Value} (place : ℕ) → left ≡ value ∷ rest → each_request S place (items_view left) ≡ and_then (request_check S place (view value)) (λ n. and_then (each_request S (place + 1) (items_view rest)) (λ ns. Ok (n ∷ ns)))
  at_next place at_left = ap (λ es. each_request S place (items_view es)) at_left

  pub FindsNumbers-next : {whole left rest : List Value} {place next : ℕ} {made more : List ℕ} {value : Value} (n : ℕ) → FindsNumbers whole left place made → left ≡ value ∷ rest → next ≡ place + 1 → request_check S place (view value) ≡ Ok n → more ≡ made ++ n ∷ [] → FindsNumbers whole rest next more
  FindsNumbers-next {rest = rest} {place = place} {made = made} {more = more} n sofar at_left counted passes pushed = record {
    is = sofar.is
        ∙ ap (behind_found made) (at_next place at_left ∙ ap (λ c. and_then c (λ n. and_then (each_request S (place + 1) (items_view rest)) (λ ns. Ok (n ∷ ns)))) passes)
        ∙ behind-one made n (each_request S (place + 1) (items_view rest))
        ∙ ap (λ m. behind_found m (each_request S (place + 1) (items_view rest))) (sym pushed)
        ∙ ap (λ k. behind_found more (each_request S k (items_view rest))) (sym counted);
  }

  pub FindsNumbers-end : {whole left : List Value} {place : ℕ} {made : List ℕ} → FindsNumbers whole left place made → left ≡ [] → each_request S 0 (items_view whole) ≡ Ok made
  FindsNumbers-end {place = place} {made = made} sofar none = sofar.is ∙ ap (λ es. behind_found made (each_request S place (items_view es))) none ∙ ap Ok (append-nil made)

  pub FindsNumbers-refused : {whole left rest : List Value} {place : ℕ} {made : List ℕ} {value : Value} (x : Failure RequestFault) → FindsNumbers whole left place made → left ≡ value ∷ rest → Says {T = ℕ} (λ n. n) (Err x) (request_check S place (view value)) → Says {T = Vec ℕ Global} (λ numbers. numbers.items) (Err x) (each_request S 0 (items_view whole))
  FindsNumbers-refused {rest = rest} {place = place} {made = made} {value = value} x sofar at_left said =
      Says-at {T = Vec ℕ Global} (λ numbers. numbers.items) (Err x) (sofar.is ∙ ap (behind_found made) (at_next place at_left))
      (Says-refused {T = List ℕ} {U = Vec ℕ Global} (λ ns. ns) (λ numbers. numbers.items) x _ (λ ns. Ok (made ++ ns)) (Says-refused {T = ℕ} {U = List ℕ} (λ n. n) (λ ns. ns) x (request_check S place (view value)) (λ n. and_then (each_request S (place + 1) (items_view rest)) (λ ns. Ok (n ∷ ns))) said))

pub ruleset each_request_reads = (FindsNumbers-start, FindsNumbers-next, FindsNumbers-end, FindsNumbers-refused)
