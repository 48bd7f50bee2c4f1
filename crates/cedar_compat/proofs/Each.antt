-- SPDX-License-Identifier: Apache-2.0
-- Loops that check each of a list in order.
use Rattle.std.proofs.Common.{◌≡◌, List, [], ◌∷◌, map, sym, ap, ◌∙◌}
use Rattle.std.specs.declared.result.Result.TheVariants.{Ok, Err}
use Rattle.cedar_data.specs.Answers.{and_then}
use Rattle.cedar_data.specs.declared.memory.Failure.{Failure}
use Rattle.cedar_compat.specs.BreakChecks.{each}
use Rattle.cedar_compat.specs.Changes.{break_of}
use Rattle.cedar_compat.specs.Checks.{Check, Tells}
use Rattle.cedar_compat.specs.declared.broken.Broken.{Broken}
use Rattle.cedar_compat.proofs.Told.{Tells-at, Tells-refused}

-- a loop over `whole` that has `left` before it has passed each one before
pub record PassesEach {A : Type 0} (check : A → Check) (whole left : List A) : Type 0 where
  pub is : each check whole ≡ each check left

module _ {A : Type 0} where
  pub PassesEach-start : (check : A → Check) (whole left : List A) → left ≡ whole → PassesEach check whole left
  PassesEach-start check whole left all = record { is = ap (each check) (sym all) }

  at_next : (check : A → Check) {left rest : List A} {x : A} → left ≡ x ∷ rest → each check left ≡ and_then (check x) (λ _. each check rest)
  at_next check at_left = ap (each check) at_left

  pub PassesEach-next : {check : A → Check} {whole left rest : List A} {x : A} → PassesEach check whole left → left ≡ x ∷ rest → check x ≡ Ok tt → PassesEach check whole rest
  PassesEach-next {check} {rest = rest} sofar at_left passes = record {
    is = sofar.is ∙ at_next check at_left ∙ ap (λ c. and_then c (λ _. each check rest)) passes;
  }

  pub PassesEach-end : {check : A → Check} {whole left : List A} → PassesEach check whole left → left ≡ [] → each check whole ≡ Ok tt
  PassesEach-end {check} sofar none = sofar.is ∙ ap (each check) none

  pub PassesEach-refused : {check : A → Check} {whole left rest : List A} {x : A} (f : Failure Broken) → PassesEach check whole left → left ≡ x ∷ rest → Tells break_of (Err f) (check x) → Tells break_of (Err f) (each check whole)
  PassesEach-refused {check} {rest = rest} {x = x} f sofar at_left told =
      Tells-at break_of (Err f) (sofar.is ∙ at_next check at_left) (Tells-refused break_of f (check x) (λ _. each check rest) told)

pub ruleset each_passes = (PassesEach-start, PassesEach-next, PassesEach-end, PassesEach-refused)

-- the same, where the loop goes over what is seen as the list
pub record PassesSeen {A B : Type 0} (seen : A → B) (check : B → Check) (whole left : List A) : Type 0 where
  pub is : each check (map seen whole) ≡ each check (map seen left)

module _ {A B : Type 0} where
  pub PassesSeen-start : (seen : A → B) (check : B → Check) (whole left : List A) → left ≡ whole → PassesSeen seen check whole left
  PassesSeen-start seen check whole left all = record { is = ap (λ xs. each check (map seen xs)) (sym all) }

  at_seen : (seen : A → B) (check : B → Check) {left rest : List A} {x : A} → left ≡ x ∷ rest → each check (map seen left) ≡ and_then (check (seen x)) (λ _. each check (map seen rest))
  at_seen seen check at_left = ap (λ xs. each check (map seen xs)) at_left

  pub PassesSeen-next : {seen : A → B} {check : B → Check} {whole left rest : List A} {x : A} → PassesSeen seen check whole left → left ≡ x ∷ rest → check (seen x) ≡ Ok tt → PassesSeen seen check whole rest
  PassesSeen-next {seen} {check} {rest = rest} sofar at_left passes = record {
    is = sofar.is ∙ at_seen seen check at_left ∙ ap (λ c. and_then c (λ _. each check (map seen rest))) passes;
  }

  pub PassesSeen-end : {seen : A → B} {check : B → Check} {whole left : List A} → PassesSeen seen check whole left → left ≡ [] → each check (map seen whole) ≡ Ok tt
  PassesSeen-end {seen} {check} sofar none = sofar.is ∙ ap (λ xs. each check (map seen xs)) none

  pub PassesSeen-refused : {seen : A → B} {check : B → Check} {whole left rest : List A} {x : A} (f : Failure Broken) → PassesSeen seen check whole left → left ≡ x ∷ rest → Tells break_of (Err f) (check (seen x)) → Tells break_of (Err f) (each check (map seen whole))
  PassesSeen-refused {seen} {check} {rest = rest} {x = x} f sofar at_left told =
      Tells-at break_of (Err f) (sofar.is ∙ at_seen seen check at_left) (Tells-refused break_of f (check (seen x)) (λ _. each check (map seen rest)) told)

pub ruleset each_seen_passes = (PassesSeen-start, PassesSeen-next, PassesSeen-end, PassesSeen-refused)
