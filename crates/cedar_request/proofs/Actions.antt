-- SPDX-License-Identifier: Apache-2.0
-- What a schema has under the name of an action, and the types that an action is for, by names alone.
use Rattle.std.proofs.Common.{◌≡◌, ℕ, Bool, true, false, ◌||◌, if◌then◌else◌, List, [], ◌∷◌, Option, Some, None, map, refl, ap, ◌∙◌}
use Rattle.std.specs.BTreeMap.{is_at}
use Rattle.std.specs.Map.{lookup}
use Rattle.std.specs.Option.{option_map}
use Rattle.std.specs.declared.result.Result.TheVariants.{Ok, Err}
use Rattle.cedar_data.specs.Maps.{get}
use Rattle.cedar_data.specs.Sets.{contains}
use Rattle.cedar_names.specs.Names.{entity_cmp, entity_words}
use Rattle.cedar_names.specs.declared.entity_uid.EntityUID.{EntityUID}
use Rattle.cedar_names.specs.declared.name.EntityType.{EntityType}
use Rattle.cedar_conform.specs.of_checks.SchemaViews.{action_in, action_of, schema_in}
use Rattle.cedar_resolved.specs.Schemas.{action_at, action_types, uid_cmp}
use Rattle.cedar_resolved.specs.declared.action.ValidatorActionId.{ValidatorActionId}
use Rattle.cedar_resolved.specs.declared.schema.ValidatorSchema.{ValidatorSchema}
use Rattle.cedar_schema_error.specs.FullNames.{uid_in}
use Rattle.cedar_schema_error.specs.FullNames as ids
use Rattle.cedar_request.specs.RequestChecks.{RequestCheck, action_as, action_check, declared_action, has_type, type_check}
use Rattle.cedar_request.specs.RequestFlaws.{RequestFlaw, unknown_action}

-- ---- actions by name

one_more : (b : Bool) (e : EntityUID × ValidatorActionId) (found : Option ValidatorActionId) → (if b then Some (action_of e.1) else option_map action_of found) ≡ option_map action_of (if b then Some e.1 else found)
one_more true e found = refl
one_more false e found = refl

seen : (name : EntityUID) (es : List (EntityUID × ValidatorActionId)) → lookup (is_at (ids.uid_cmp (uid_in name))) (map action_in es) ≡ option_map action_of (get uid_cmp es name)
seen name [] = refl
seen name (e ∷ es) = ap (λ rest. if is_at (uid_cmp name) e.0 then Some (action_of e.1) else rest) (seen name es) ∙ one_more (is_at (uid_cmp name) e.0) e (get uid_cmp es name)

pub action-found : (V : ValidatorSchema) (uid : EntityUID) (action : ValidatorActionId) → action_at V uid ≡ Some action → declared_action (schema_in V) (uid_in uid) ≡ Some (action_of action)
action-found V uid action is = seen uid (action_types V) ∙ ap (option_map action_of) is

pub action-known : (V : ValidatorSchema) (place : ℕ) (uid : EntityUID) (action : ValidatorActionId) → action_at V uid ≡ Some action → action_check (schema_in V) place (uid_in uid) ≡ Ok (action_of action)
unfolding action_check
action-known V place uid action is = ap (action_as place (uid_in uid)) (action-found V uid action is)

pub action-missing : (V : ValidatorSchema) (place : ℕ) (uid : EntityUID) → action_at V uid ≡ None → action_check (schema_in V) place (uid_in uid) ≡ Err (unknown_action place (uid_in uid))
unfolding action_check
action-missing V place uid is = ap (action_as place (uid_in uid)) (seen uid (action_types V) ∙ ap (option_map action_of) is)

-- ---- types

pub type-among : (ty : EntityType) (types : List EntityType) → has_type (map entity_words types) (entity_words ty) ≡ contains entity_cmp types ty
type-among ty [] = refl
type-among ty (t ∷ types) = ap (λ rest. is_at (entity_cmp ty) t || rest) (type-among ty types)

decided : (b c : Bool) (flaw : RequestFlaw) → b ≡ c → ◌≡◌ {A = RequestCheck (Unit {0})} (if b then Ok tt else Err flaw) (if c then Ok tt else Err flaw)
decided b c flaw is = ap (λ d. if d then Ok tt else Err flaw) is

pub type-allowed : (ty : EntityType) (types : List EntityType) (flaw : RequestFlaw) → contains entity_cmp types ty ≡ true → type_check (map entity_words types) (entity_words ty) flaw ≡ Ok tt
type-allowed ty types flaw is = decided (has_type (map entity_words types) (entity_words ty)) true flaw (type-among ty types ∙ is)

pub type-refused : (ty : EntityType) (types : List EntityType) (flaw : RequestFlaw) → contains entity_cmp types ty ≡ false → type_check (map entity_words types) (entity_words ty) flaw ≡ Err flaw
type-refused ty types flaw is = decided (has_type (map entity_words types) (entity_words ty)) false flaw (type-among ty types ∙ is)

pub ruleset actions = (action-known, action-missing, type-allowed, type-refused)
