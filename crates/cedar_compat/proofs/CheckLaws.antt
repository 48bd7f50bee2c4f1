-- SPDX-License-Identifier: Apache-2.0
-- When the steps of a check pass.
use Rattle.std.proofs.Common.{◌≡◌, ℕ, Bool, true, false, if◌then◌else◌, List, [], ◌∷◌, refl, ap, ◌∙◌}
use Rattle.std.specs.declared.result.Result.TheVariants.{Ok, Err}
use Rattle.cedar_data.specs.Answers.{and_then}
use Rattle.cedar_data.specs.Firsts.{AllPass}
use Rattle.cedar_schema_error.specs.FullNames.{FullName}
use Rattle.cedar_compat.specs.BreakChecks.{each}
use Rattle.cedar_compat.specs.Changes.{Change}
use Rattle.cedar_compat.specs.Checks.{Check, CheckOf, here, of_type, under}

-- where two steps pass, each of them does
pub both-pass : {E : Type 0} (part : CheckOf E) (more : Unit {0} → CheckOf E) → and_then part more ≡ Ok tt → (part ≡ Ok tt) × (more tt ≡ Ok tt)
both-pass (Ok u) more is = (refl, is)
both-pass (Err b) more is = absurd (cc)

pub then-pass : {E : Type 0} (part : CheckOf E) (more : Unit {0} → CheckOf E) → part ≡ Ok tt → more tt ≡ Ok tt → and_then part more ≡ Ok tt
then-pass part more first second = ap (λ p. and_then p more) first ∙ second

pub under-pass : (k : List ℕ) (check : Check) → under k check ≡ Ok tt → check ≡ Ok tt
under-pass k (Ok u) is = is
under-pass k (Err b) is = absurd (cc)

pub pass-under : (k : List ℕ) (check : Check) → check ≡ Ok tt → under k check ≡ Ok tt
pass-under k check is = ap (under k) is

pub type-pass : (name : FullName) (check : Check) → of_type name check ≡ Ok tt → check ≡ Ok tt
type-pass name (Ok u) is = refl
type-pass name (Err b) is = absurd (cc)

pub pass-type : (name : FullName) (check : Check) → check ≡ Ok tt → of_type name check ≡ Ok tt
pass-type name check is = ap (of_type name) is

-- what a test decides
pub test-pass : (b : Bool) (change : Change) → (if b then Ok tt else here change) ≡ Ok tt → b ≡ true
test-pass true change is = refl
test-pass false change is = absurd (cc)

pub pass-test : (b : Bool) (change : Change) → b ≡ true → (if b then Ok tt else here change) ≡ Ok tt
pass-test b change is = ap (λ c. if c then Ok tt else here change) is

-- each of a list
pub each-pass : {A E : Type 0} {P : A → Type 0} (check : A → CheckOf E) (xs : List A) → ((x : A) → check x ≡ Ok tt → P x) → each check xs ≡ Ok tt → AllPass P xs
each-pass check [] f is = tt
each-pass check (x ∷ xs) f is =
    let steps = both-pass (check x) (λ _. each check xs) is in
    (f x steps.0, each-pass check xs f steps.1)

pub pass-each : {A E : Type 0} {P : A → Type 0} (check : A → CheckOf E) (xs : List A) → ((x : A) → P x → check x ≡ Ok tt) → AllPass P xs → each check xs ≡ Ok tt
pass-each check [] f all = refl
pass-each check (x ∷ xs) f all = then-pass (check x) (λ _. each check xs) (f x all.0) (pass-each check xs f all.1)
