-- SPDX-License-Identifier: Apache-2.0
-- What a call tells: of a part that is behind a key or in an entity type, and of steps one after another.
use Rattle.std.proofs.Common.{◌≡◌, ℕ, List, sym, ap, ◌∙◌, subst}
use Rattle.std.specs.Prelude.{IfOk}
use Rattle.std.specs.declared.result.Result.{Result}
use Rattle.std.specs.declared.result.Result.TheVariants.{Ok, Err}
use Rattle.cedar_data.specs.Answers.{IfRefused, and_then}
use Rattle.cedar_data.specs.declared.memory.Failure.{Failure}
use Rattle.cedar_data.specs.declared.memory.Failure.TheVariants.{Refused, NoMemory}
use Rattle.cedar_names.specs.Names.{entity_words}
use Rattle.cedar_names.specs.declared.name.EntityType.{EntityType}
use Rattle.cedar_compat.specs.Changes.{break_of, type_break}
use Rattle.cedar_compat.specs.Checks.{Check, CheckOf, IsBehind, IsOfType, Tells, of_type, under}
use Rattle.cedar_compat.specs.declared.broken.Broken.{Broken}
use Rattle.cedar_compat.specs.declared.fault.CompatFault.{CompatFault}

-- a check that is equal tells the same
pub Tells-at : {X E : Type 0} (seen : X → E) (result : Result (Unit {0}) (Failure X)) {check same : CheckOf E} → check ≡ same → Tells seen result same → Tells seen result check
Tells-at seen result is told = subst (λ c. Tells seen result c) (sym is) told

-- ---- behind a key

ok-under : (k : List ℕ) (read : Result (Unit {0}) (Failure Broken)) (check : Check) (u : Unit {0}) → Tells break_of read check → read ≡ Ok u → under k check ≡ Ok tt
ok-under k read check u told is = ap (under k) (subst (λ r. Tells break_of r check) is told)

refused-under : (k : List ℕ) (read : Result (Unit {0}) (Failure Broken)) (check : Check) (broken : Broken) → Tells break_of read check → IsBehind k read broken → under k check ≡ Err (break_of broken)
refused-under k (Ok u) check broken told is = absurd is
refused-under k (Err (Refused inner)) check broken told is = ap (under k) told ∙ ap Err (sym is)
refused-under k (Err NoMemory) check broken told is = absurd is

pub Tells-under : (k : List ℕ) (read result : Result (Unit {0}) (Failure Broken)) (check : Check) → Tells break_of read check → IfOk result (λ u. read ≡ Ok u) → IfRefused result (IsBehind k read) → Tells break_of result (under k check)
Tells-under k read (Ok u) check told ok refused = ok-under k read check u told ok
Tells-under k read (Err (Refused broken)) check told ok refused = refused-under k read check broken told refused
Tells-under k read (Err NoMemory) check told ok refused = tt

-- ---- in an entity type

ok-of_type : (ty : EntityType) (read : Result (Unit {0}) (Failure Broken)) (check : Check) (u : Unit {0}) → Tells break_of read check → read ≡ Ok u → of_type (entity_words ty) check ≡ Ok tt
ok-of_type ty read check u told is = ap (of_type (entity_words ty)) (subst (λ r. Tells break_of r check) is told)

refused-of_type : (ty : EntityType) (read : Result (Unit {0}) (Failure Broken)) (check : Check) (fault : CompatFault) → Tells break_of read check → IsOfType ty read fault → of_type (entity_words ty) check ≡ Err (type_break fault)
refused-of_type ty (Ok u) check fault told is = absurd is
refused-of_type ty (Err (Refused inner)) check fault told is = ap (of_type (entity_words ty)) told ∙ ap Err (sym is)
refused-of_type ty (Err NoMemory) check fault told is = absurd is

pub Tells-of_type : (ty : EntityType) (read : Result (Unit {0}) (Failure Broken)) (result : Result (Unit {0}) (Failure CompatFault)) (check : Check) → Tells break_of read check → IfOk result (λ u. read ≡ Ok u) → IfRefused result (IsOfType ty read) → Tells type_break result (of_type (entity_words ty) check)
Tells-of_type ty read (Ok u) check told ok refused = ok-of_type ty read check u told ok
Tells-of_type ty read (Err (Refused fault)) check told ok refused = refused-of_type ty read check fault told refused
Tells-of_type ty read (Err NoMemory) check told ok refused = tt

-- ---- one after another

-- a refusal of the first step
pub Tells-refused : {X E : Type 0} (seen : X → E) (x : Failure X) (part : CheckOf E) (more : Unit {0} → CheckOf E) → Tells seen (Err x) part → Tells seen (Err x) (and_then part more)
Tells-refused seen (Refused fault) part more told = ap (λ p. and_then p more) told
Tells-refused seen NoMemory part more told = tt

-- behind a step that passes
pub Tells-then : {X E : Type 0} (seen : X → E) (u : Unit {0}) (part : CheckOf E) (more : Unit {0} → CheckOf E) (result : Result (Unit {0}) (Failure X)) → Tells seen (Ok u) part → Tells seen result (more tt) → Tells seen result (and_then part more)
Tells-then seen u part more result told rest = Tells-at seen result (ap (λ p. and_then p more) told) rest

pub ruleset told = (Tells-under, Tells-of_type, Tells-refused, Tells-then)
