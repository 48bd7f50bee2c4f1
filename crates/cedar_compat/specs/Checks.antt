-- SPDX-License-Identifier: Apache-2.0
-- Checks of a new schema, which tell the first break.
use Rattle.std.specs.Prelude.{◌≡◌, ℕ, List, [], ◌∷◌}
use Rattle.std.specs.declared.result.Result.{Result}
use Rattle.std.specs.declared.result.Result.TheVariants.{Ok, Err}
use Rattle.cedar_data.specs.declared.memory.Failure.{Failure}
use Rattle.cedar_data.specs.declared.memory.Failure.TheVariants.{Refused, NoMemory}
use Rattle.cedar_names.specs.Names.{entity_words}
use Rattle.cedar_names.specs.declared.name.EntityType.{EntityType}
use Rattle.cedar_schema_error.specs.FullNames.{FullName}
use Rattle.cedar_compat.specs.Changes.{Break, Change, TypeBreak, break_of, type_break}
use Rattle.cedar_compat.specs.declared.broken.Broken.{Broken}
use Rattle.cedar_compat.specs.declared.fault.CompatFault.{CompatFault}

-- that nothing is taken away, or the first break
abbrev pub CheckOf : Type 0 → Type 0
CheckOf E = Result (Unit {0}) E

-- within an entity type
abbrev pub Check : Type 0
Check = CheckOf Break

-- the result is what the check says, by what is seen of a fault, or a want of memory
abbrev pub Tells : {X E : Type 0} → (X → E) → Result (Unit {0}) (Failure X) → CheckOf E → Type 0
Tells seen (Ok u) check = check ≡ Ok tt
Tells seen (Err (Refused fault)) check = check ≡ Err (seen fault)
Tells seen (Err NoMemory) check = Unit {0}

-- the change is one of the type itself
abbrev pub here : Change → Check
here change = Err (record { path = []; change = change })

-- the break lies behind the key
abbrev pub behind : List ℕ → Break → Break
behind k b = record { path = k ∷ b.path; change = b.change }

-- the same, with the key before the path of a break
abbrev pub under : List ℕ → Check → Check
under k (Ok u) = Ok u
under k (Err b) = Err (behind k b)

-- the break of an entity type
abbrev pub in_type : FullName → Break → TypeBreak
in_type name b = record { ty = name; path = b.path; change = b.change }

-- the same, with the entity type before the path of a break
abbrev pub of_type : FullName → Check → CheckOf TypeBreak
of_type name (Ok u) = Ok u
of_type name (Err b) = Err (in_type name b)

-- ---- what a call refuses

-- the break of a call's refusal, behind the key
abbrev pub IsBehind : List ℕ → Result (Unit {0}) (Failure Broken) → Broken → Type 0
IsBehind k (Ok u) broken = ⊥
IsBehind k (Err NoMemory) broken = ⊥
IsBehind k (Err (Refused inner)) broken = break_of broken ≡ behind k (break_of inner)

-- the break of a call's refusal, in the entity type
abbrev pub IsOfType : EntityType → Result (Unit {0}) (Failure Broken) → CompatFault → Type 0
IsOfType ty (Ok u) fault = ⊥
IsOfType ty (Err NoMemory) fault = ⊥
IsOfType ty (Err (Refused inner)) fault = type_break fault ≡ in_type (entity_words ty) (break_of inner)
