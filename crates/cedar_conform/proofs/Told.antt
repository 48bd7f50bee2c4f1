-- SPDX-License-Identifier: Apache-2.0
-- What a call tells: of a part that is behind a key, and of steps one after another.
use Rattle.std.proofs.Common.{◌≡◌, ℕ, List, sym, ap, ◌∙◌, subst}
use Rattle.std.specs.Prelude.{IfOk}
use Rattle.std.specs.declared.result.Result.{Result}
use Rattle.std.specs.declared.result.Result.TheVariants.{Ok, Err}
use Rattle.cedar_data.specs.Answers.{IfRefused}
use Rattle.cedar_data.specs.declared.memory.Failure.{Failure}
use Rattle.cedar_data.specs.declared.memory.Failure.TheVariants.{Refused, NoMemory}
use Rattle.cedar_written.specs.Answers.{and_then}
use Rattle.cedar_conform_fault.specs.Flaws.{misfit}
use Rattle.cedar_conform_fault.specs.declared.fault.Fault.{Fault}
use Rattle.cedar_conform.specs.Checks.{Check, IsBehind, Tells, under}

-- a check that is equal tells the same
pub Tells-at : {T V : Type 0} (seen : T → V) (result : Result T (Failure Fault)) {check same : Check V} → check ≡ same → Tells seen result same → Tells seen result check
Tells-at seen result is told = subst (λ c. Tells seen result c) (sym is) told

-- ---- behind a key

ok-under : {T V : Type 0} (seen : T → V) (k : List ℕ) (read : Result T (Failure Fault)) (check : Check V) (t : T) → Tells seen read check → read ≡ Ok t → under k check ≡ Ok (seen t)
ok-under seen k read check t told is = ap (under k) (subst (λ r. Tells seen r check) is told)

refused-under : {T V : Type 0} (seen : T → V) (k : List ℕ) (read : Result T (Failure Fault)) (check : Check V) (fault : Fault) → Tells seen read check → IsBehind k read fault → under k check ≡ Err (misfit fault)
refused-under seen k (Ok t) check fault told is = absurd is
refused-under seen k (Err (Refused inner)) check fault told is = ap (under k) told ∙ ap Err (sym is)
refused-under seen k (Err NoMemory) check fault told is = absurd is

pub Tells-under : {T V : Type 0} (seen : T → V) (k : List ℕ) (read result : Result T (Failure Fault)) (check : Check V) → Tells seen read check → IfOk result (λ t. read ≡ Ok t) → IfRefused result (IsBehind k read) → Tells seen result (under k check)
Tells-under seen k read (Ok t) check told ok refused = ok-under seen k read check t told ok
Tells-under seen k read (Err (Refused fault)) check told ok refused = refused-under seen k read check fault told refused
Tells-under seen k read (Err NoMemory) check told ok refused = tt

-- ---- one after another

-- a refusal of the first step
pub Tells-refused : {A V T U : Type 0} (seen : T → A) (seen' : U → V) (x : Failure Fault) (part : Check A) (more : A → Check V) → Tells seen (Err x) part → Tells seen' (Err x) (and_then part more)
Tells-refused seen seen' (Refused fault) part more told = ap (λ p. and_then p more) told
Tells-refused seen seen' NoMemory part more told = tt

-- behind a step that passes
pub Tells-then : {A V T U : Type 0} (seen : T → A) (seen' : U → V) (t : T) (part : Check A) (more : A → Check V) (result : Result U (Failure Fault)) → Tells seen (Ok t) part → Tells seen' result (more (seen t)) → Tells seen' result (and_then part more)
Tells-then seen seen' t part more result told rest = Tells-at seen' result (ap (λ p. and_then p more) told) rest

pub ruleset told = (Tells-under, Tells-refused, Tells-then)
