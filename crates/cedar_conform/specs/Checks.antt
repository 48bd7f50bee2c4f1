-- SPDX-License-Identifier: Apache-2.0
-- Checks of values in JSON, which tell the first misfit, and how the first of several is found.
use Rattle.std.specs.Prelude.{◌≡◌, ℕ, ◌+◌, if◌then◌else◌, List, [], ◌∷◌, decimal, Option, Some, None}
use Rattle.std.specs.declared.result.Result.{Result}
use Rattle.std.specs.declared.result.Result.TheVariants.{Ok, Err}
use Rattle.cedar_data.specs.declared.memory.Failure.{Failure}
use Rattle.cedar_data.specs.declared.memory.Failure.TheVariants.{Refused, NoMemory}
use Rattle.cedar_text.specs.Words.{has_word}
use Rattle.serde_json.specs.Data.{Data, null, boolean, number, string, array, object, Items, no_items, item, Members, no_members, member}
use Rattle.serde_json.specs.Find.{get}
use Rattle.cedar_json_fault.specs.declared.json_fault.JsonKind.TheVariants as kinds
use Rattle.cedar_written.specs.Answers.{and_then}
use Rattle.cedar_conform_fault.specs.Flaws.{Flaw, Misfit, misfit, wrong_kind, unknown_field, missing_field}
use Rattle.cedar_conform_fault.specs.declared.fault.Fault.{Fault}

-- a value, or the first misfit
abbrev pub Check : Type 0 → Type 0
Check V = Result V Misfit

-- the result is what the check says, by what is seen of a value, or a want of memory
abbrev pub Tells : {T V : Type 0} → (T → V) → Result T (Failure Fault) → Check V → Type 0
Tells seen (Ok t) check = check ≡ Ok (seen t)
Tells seen (Err (Refused fault)) check = check ≡ Err (misfit fault)
Tells seen (Err NoMemory) check = Unit {0}

-- nothing is seen of it
abbrev pub passed : {T : Type 0} → T → Unit {0}
passed t = tt

-- the misfit lies in the member at the key
abbrev pub behind : List ℕ → Misfit → Misfit
behind k m = record { path = k ∷ m.path; flaw = m.flaw }

module _ {V : Type 0} where
  -- the flaw lies in the value itself
  abbrev pub here : Flaw → Check V
  here flaw = Err (record { path = []; flaw = flaw })

  -- the same, with the key before the path of a misfit
  abbrev pub under : List ℕ → Check V → Check V
  under k (Ok v) = Ok v
  under k (Err m) = Err (behind k m)

  -- ---- the kind of a value

  -- the value has to be an object, of whose members more may be asked
  abbrev pub in_object : (Members → Check V) → Data → Check V
  in_object more null = here (wrong_kind kinds.Null kinds.Object)
  in_object more (boolean b) = here (wrong_kind kinds.Boolean kinds.Object)
  in_object more (number n) = here (wrong_kind kinds.Number kinds.Object)
  in_object more (string s) = here (wrong_kind kinds.String kinds.Object)
  in_object more (array ds) = here (wrong_kind kinds.Array kinds.Object)
  in_object more (object ms) = more ms

  -- the value has to be an array, of whose items more may be asked
  abbrev pub in_array : (Items → Check V) → Data → Check V
  in_array more null = here (wrong_kind kinds.Null kinds.Array)
  in_array more (boolean b) = here (wrong_kind kinds.Boolean kinds.Array)
  in_array more (number n) = here (wrong_kind kinds.Number kinds.Array)
  in_array more (string s) = here (wrong_kind kinds.String kinds.Array)
  in_array more (array ds) = more ds
  in_array more (object ms) = here (wrong_kind kinds.Object kinds.Array)

  -- the value has to be a text, of which more may be asked
  abbrev pub in_text : (List ℕ → Check V) → Data → Check V
  in_text more null = here (wrong_kind kinds.Null kinds.String)
  in_text more (boolean b) = here (wrong_kind kinds.Boolean kinds.String)
  in_text more (number n) = here (wrong_kind kinds.Number kinds.String)
  in_text more (string s) = more s
  in_text more (array ds) = here (wrong_kind kinds.Array kinds.String)
  in_text more (object ms) = here (wrong_kind kinds.Object kinds.String)

  -- ---- members and items

  -- the member at the key has to be there, and more may be asked of it
  abbrev pub in_field : List ℕ → (Data → Check V) → Option Data → Check V
  in_field k check None = here (missing_field k)
  in_field k check (Some d) = under k (check d)

  abbrev pub needs : List ℕ → (Data → Check V) → Data → Check V
  needs k check d = in_field k check (get k d)

-- more may be asked of the member at the key, where it is there
abbrev pub if_there : List ℕ → (Data → Check (Unit {0})) → Option Data → Check (Unit {0})
if_there k check None = Ok tt
if_there k check (Some d) = under k (check d)

abbrev pub allows : List ℕ → (Data → Check (Unit {0})) → Data → Check (Unit {0})
allows k check d = if_there k check (get k d)

-- the members in the order of the keys
abbrev pub each_member : (List ℕ → Data → Check (Unit {0})) → Members → Check (Unit {0})
each_member check no_members = Ok tt
each_member check (member k d ms) = and_then (check k d) (λ _. each_member check ms)

-- the values of the members
abbrev pub each_value : (Data → Check (Unit {0})) → Members → Check (Unit {0})
each_value check ms = each_member (λ k d. under k (check d)) ms

-- a key that has to be one of these
abbrev pub key_check : List (List ℕ) → List ℕ → Check (Unit {0})
key_check keys k = if has_word keys k then Ok tt else here (unknown_field k)

-- the value has to be an object that has no other keys than these
abbrev pub keys_check : List (List ℕ) → Data → Check (Unit {0})
keys_check keys d = in_object (each_member (λ k e. key_check keys k)) d

-- the items in order, from the place of the first of them on
abbrev pub each_item : (Data → Check (Unit {0})) → ℕ → Items → Check (Unit {0})
each_item check place no_items = Ok tt
each_item check place (item d ds) = and_then (under (decimal place) (check d)) (λ _. each_item check (place + 1) ds)

-- ---- what a call refuses

-- the misfit of a call's refusal, behind the key
abbrev pub IsBehind : {T : Type 0} → List ℕ → Result T (Failure Fault) → Fault → Type 0
IsBehind k (Ok t) fault = ⊥
IsBehind k (Err NoMemory) fault = ⊥
IsBehind k (Err (Refused inner)) fault = misfit fault ≡ behind k (misfit inner)

-- the key is missing
abbrev pub IsMissing : List ℕ → Fault → Type 0
IsMissing k fault = misfit fault ≡ record { path = []; flaw = missing_field k }
