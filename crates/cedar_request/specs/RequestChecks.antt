-- SPDX-License-Identifier: Apache-2.0
-- The first flaw of a request, and of a list of requests.
use Rattle.std.specs.Prelude.{◌≡◌, ℕ, ◌+◌, Bool, if◌then◌else◌, List, [], ◌∷◌, codes, decimal, Option, Some, None}
use Rattle.std.specs.BTreeMap.{is_at}
use Rattle.std.specs.List.{list_any}
use Rattle.std.specs.Map.{lookup}
use Rattle.std.specs.declared.result.Result.{Result}
use Rattle.std.specs.declared.result.Result.TheVariants.{Ok, Err}
use Rattle.cedar_data.specs.declared.memory.Failure.{Failure}
use Rattle.cedar_data.specs.declared.memory.Failure.TheVariants.{Refused, NoMemory}
use Rattle.cedar_names.specs.Order.{words_cmp}
use Rattle.serde_json.specs.Data.{Data, Items, no_items, item}
use Rattle.cedar_written.specs.Answers.{and_then}
use Rattle.cedar_schema_error.specs.FullNames.{FullName, Uid, uid_cmp}
use Rattle.cedar_conform.specs.of_world.Schemas.{Schema, SchemaAction}
use Rattle.cedar_conform_fault.specs.Flaws.{misfit}
use Rattle.cedar_conform_fault.specs.declared.fault.Fault.{Fault}
use Rattle.cedar_conform.specs.Checks.{Check, in_array, keys_check, needs, under}
use Rattle.cedar_conform.specs.ValueChecks.{known_check, reference_check, value_check}
use Rattle.cedar_request.specs.Numbers.{number}
use Rattle.cedar_request.specs.RequestFlaws.{RequestFlaw, value, unknown_action, no_principal, no_resource, request_flaw}
use Rattle.cedar_request.specs.Requests.{in_64_bits, request_keys}
use Rattle.cedar_request.specs.declared.fault.RequestFault.{RequestFault}

-- a value, or the first flaw of requests
abbrev pub RequestCheck : Type 0 → Type 0
RequestCheck V = Result V RequestFlaw

-- the result is what the check says, by what is seen of a value, or a want of memory
abbrev pub Says : {T V : Type 0} → (T → V) → Result T (Failure RequestFault) → RequestCheck V → Type 0
Says seen (Ok t) check = check ≡ Ok (seen t)
Says seen (Err (Refused fault)) check = check ≡ Err (request_flaw fault)
Says seen (Err NoMemory) check = Unit {0}

module _ {V : Type 0} where
  -- a check of a value, of which a misfit is the flaw
  abbrev pub of_value : Check V → RequestCheck V
  of_value (Ok v) = Ok v
  of_value (Err m) = Err (value m)

  -- a check of a value in the request at the place
  abbrev pub at_place : ℕ → Check V → RequestCheck V
  at_place place check = of_value (under (decimal place) check)

-- the flaw of a call's refusal
abbrev pub IsOf : {T : Type 0} → Result T (Failure Fault) → RequestFault → Type 0
IsOf (Ok t) fault = ⊥
IsOf (Err NoMemory) fault = ⊥
IsOf (Err (Refused inner)) fault = request_flaw fault ≡ value (misfit inner)

-- ---- what a request names

pub record Parts : Type 0 where
  pub principal : Uid
  pub action : Uid
  pub resource : Uid
  pub context : Data

-- the keys, then the references in order, and then the context, which has to be there
unfoldable pub parts_check : Data → Check Parts
parts_check d =
    and_then (keys_check request_keys d)
    (λ _. and_then (needs (codes "principal") reference_check d)
    (λ principal. and_then (needs (codes "action") reference_check d)
    (λ action. and_then (needs (codes "resource") reference_check d)
    (λ resource. and_then (needs (codes "context") Ok d)
    (λ context. Ok (record { principal = principal; action = action; resource = resource; context = context }))))))

-- ---- its environment

-- the action of this id in a schema
abbrev pub declared_action : Schema → Uid → Option SchemaAction
declared_action S u = lookup (is_at (uid_cmp u)) S.actions

-- whether the type of this name is one of these
abbrev pub has_type : List FullName → FullName → Bool
has_type types name = list_any (is_at (words_cmp name)) types

abbrev pub action_as : ℕ → Uid → Option SchemaAction → RequestCheck SchemaAction
action_as place u None = Err (unknown_action place u)
action_as place u (Some action) = Ok action

-- the type has to be one of these, or else this is the flaw
abbrev pub type_check : List FullName → FullName → RequestFlaw → RequestCheck (Unit {0})
type_check types name flaw = if has_type types name then Ok tt else Err flaw

module _ (S : Schema) (place : ℕ) where
  -- the action, which the schema has to have
  unfoldable pub action_check : Uid → RequestCheck SchemaAction
  action_check u = action_as place u (declared_action S u)

  -- the entity at the key, which the schema has to know
  abbrev pub entity_known : List ℕ → Uid → RequestCheck (Unit {0})
  entity_known k u = at_place place (under k (and_then (known_check S u) (λ ty. Ok tt)))

  -- the action has to be for the type of the principal, and then the schema has to know the principal
  unfoldable pub principal_check : Parts → SchemaAction → RequestCheck (Unit {0})
  principal_check parts action =
      and_then (type_check action.principals parts.principal.ty (no_principal place parts.action parts.principal.ty))
      (λ _. entity_known (codes "principal") parts.principal)

  -- the same of the resource
  unfoldable pub resource_check : Parts → SchemaAction → RequestCheck (Unit {0})
  resource_check parts action =
      and_then (type_check action.resources parts.resource.ty (no_resource place parts.action parts.resource.ty))
      (λ _. entity_known (codes "resource") parts.resource)

  -- the context has to fit its type
  abbrev pub context_check : Parts → SchemaAction → RequestCheck (Unit {0})
  context_check parts action = at_place place (under (codes "context") (value_check S action.context parts.context))

  -- the action, then the principal, then the resource, then the context; and the number of the environment
  unfoldable pub environment_check : Parts → RequestCheck ℕ
  environment_check parts =
      and_then (action_check parts.action)
      (λ action. and_then (principal_check parts action)
      (λ _. and_then (resource_check parts action)
      (λ _. and_then (context_check parts action)
      (λ _. Ok (in_64_bits (number S parts.action action parts.principal.ty parts.resource.ty))))))

  -- what the request names, and then its environment
  unfoldable pub request_check : Data → RequestCheck ℕ
  request_check d = and_then (at_place place (parts_check d)) environment_check

-- ---- lists

module _ (S : Schema) where
  -- the numbers of the environments of the items, in order, from the place of the first of them on
  abbrev pub each_request : ℕ → Items → RequestCheck (List ℕ)
  each_request place no_items = Ok []
  each_request place (item d ds) = and_then (request_check S place d) (λ n. and_then (each_request (place + 1) ds) (λ ns. Ok (n ∷ ns)))

  unfoldable pub requests_check : Data → RequestCheck (List ℕ)
  requests_check d = and_then (of_value (in_array Ok d)) (each_request 0)
