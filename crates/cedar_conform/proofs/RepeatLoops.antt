-- SPDX-License-Identifier: Apache-2.0
-- A loop that looks for entities that stand twice.
use Rattle.std.proofs.Common.{◌≡◌, ℕ, ◌+◌, ◌||◌, Bool, true, false, if◌then◌else◌, List, [], ◌∷◌, cond, map, decimal, refl, sym, ap, ◌∙◌}
use Rattle.std.specs.BTreeMap.{is_at}
use Rattle.std.specs.declared.result.Result.{Result}
use Rattle.std.specs.declared.result.Result.TheVariants.{Ok}
use Rattle.cedar_data.specs.Sets.{Adds, contains}
use Rattle.cedar_data.specs.declared.memory.Failure.{Failure}
use Rattle.cedar_names.specs.declared.entity_uid.EntityUID.{EntityUID}
use Rattle.cedar_resolved.specs.Schemas.{uid_cmp}
use Rattle.cedar_schema_error.specs.FullNames.{Uid, uid_in}
use Rattle.cedar_conform_fault.specs.declared.fault.Fault.{Fault}
use Rattle.cedar_conform.specs.Checks.{Tells, passed, under}
use Rattle.cedar_conform.specs.EntityChecks.{is_among, repeated_check, repeats_check}
use Rattle.cedar_conform.proofs.Told.{Tells-at}

-- a loop over `whole` that has `left` before it has found none twice, and this set has those before
pub record SeeksRepeats (whole left : List EntityUID) (place : ℕ) (set : List EntityUID) : Type 0 where
  pub before : List Uid
  pub found : (uid : EntityUID) → contains uid_cmp set uid ≡ is_among before (uid_in uid)
  pub is : repeats_check 0 [] (map uid_in whole) ≡ repeats_check place before (map uid_in left)

pub SeeksRepeats-start : (whole left : List EntityUID) (place : ℕ) (set : List EntityUID) → left ≡ whole → place ≡ 0 → set ≡ [] → SeeksRepeats whole left place set
SeeksRepeats-start whole left place set all zeroth none = record {
  before = [];
  found = λ uid. ap (λ s. contains uid_cmp s uid) none;
  is = ap (λ us. repeats_check 0 [] (map uid_in us)) (sym all) ∙ ap (λ n. repeats_check n [] (map uid_in left)) (sym zeroth);
}

-- what comes of those that are left, where this is said of the next
decided : (place : ℕ) (before : List Uid) {left rest : List EntityUID} {uid : EntityUID} (b : Bool) → left ≡ uid ∷ rest → is_among before (uid_in uid) ≡ b
    → repeats_check place before (map uid_in left) ≡ (if b then under (decimal place) (repeated_check (uid_in uid)) else repeats_check (place + 1) (uid_in uid ∷ before) (map uid_in rest))
decided place before {rest = rest} {uid = uid} b at_left is =
    ap (λ us. repeats_check place before (map uid_in us)) at_left
    ∙ ap (λ c. if c then under (decimal place) (repeated_check (uid_in uid)) else repeats_check (place + 1) (uid_in uid ∷ before) (map uid_in rest)) is

added : (before : List Uid) (set more : List EntityUID) (uid other : EntityUID) → Adds uid_cmp set more uid → contains uid_cmp set other ≡ is_among before (uid_in other) → contains uid_cmp more other ≡ is_among (uid_in uid ∷ before) (uid_in other)
added before set more uid other adds found = adds other ∙ ap (λ b. cond (is_at (uid_cmp uid) other) true b) found ∙ either (is_at (uid_cmp uid) other) (is_among before (uid_in other))
  where
    either : (a b : Bool) → cond a true b ≡ a || b
    either true b = refl
    either false b = refl

pub SeeksRepeats-next : {whole left rest : List EntityUID} {place next : ℕ} {set more : List EntityUID} {uid : EntityUID} → SeeksRepeats whole left place set → left ≡ uid ∷ rest → next ≡ place + 1 → contains uid_cmp set uid ≡ false → Adds uid_cmp set more uid → SeeksRepeats whole rest next more
SeeksRepeats-next {rest = rest} {place} {set = set} {more} {uid} sofar at_left counted new adds = record {
  before = uid_in uid ∷ sofar.before;
  found = λ other. added sofar.before set more uid other adds (sofar.found other);
  is = sofar.is ∙ decided place sofar.before false at_left (sym (sofar.found uid) ∙ new) ∙ ap (λ n. repeats_check n (uid_in uid ∷ sofar.before) (map uid_in rest)) (sym counted);
}

pub SeeksRepeats-end : {whole left : List EntityUID} {place : ℕ} {set : List EntityUID} → SeeksRepeats whole left place set → left ≡ [] → repeats_check 0 [] (map uid_in whole) ≡ Ok tt
SeeksRepeats-end {place = place} sofar none = sofar.is ∙ ap (λ us. repeats_check place sofar.before (map uid_in us)) none

pub SeeksRepeats-refused : {whole left rest : List EntityUID} {place : ℕ} {set : List EntityUID} {uid : EntityUID} (result : Result (Unit {0}) (Failure Fault)) → SeeksRepeats whole left place set → left ≡ uid ∷ rest → contains uid_cmp set uid ≡ true → Tells (passed {T = Unit {0}}) result (under (decimal place) (repeated_check (uid_in uid))) → Tells (passed {T = Unit {0}}) result (repeats_check 0 [] (map uid_in whole))
SeeksRepeats-refused {place = place} {uid = uid} result sofar at_left old told =
    Tells-at (passed {T = Unit {0}}) result (sofar.is ∙ decided place sofar.before true at_left (sym (sofar.found uid) ∙ old)) told

pub ruleset seeks_repeats = (SeeksRepeats-start, SeeksRepeats-next, SeeksRepeats-end, SeeksRepeats-refused)
