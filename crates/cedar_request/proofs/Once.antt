-- SPDX-License-Identifier: Apache-2.0
-- In a schema each environment stands once, and the action of each is found by its name.
use Rattle.std.proofs.Common.{◌≡◌, ℕ, ◌≤◌, Bool, true, false, ◌&&◌, List, [], ◌∷◌, ◌++◌, slice_get, Option, Some, None, option_map, map, refl, sym, ap, ap₂, ◌∙◌, subst, arith}
use Rattle.std.proofs.lemmas.List.{map-append}
use Rattle.std.proofs.lemmas.Option.{slice_get-map}
use Rattle.std.specs.BTreeMap.{is_at}
use Rattle.std.specs.List.{count_by, flat_map}
use Rattle.cedar_names.specs.Names.{entity_cmp, entity_words}
use Rattle.cedar_names.specs.declared.entity_uid.EntityUID.{EntityUID}
use Rattle.cedar_names.specs.declared.name.EntityType.{EntityType}
use Rattle.cedar_conform.specs.of_checks.SchemaViews.{action_in, action_of, schema_in}
use Rattle.cedar_resolved.specs.Environments as resolved
use Rattle.cedar_resolved.specs.Environments.{applies, applies_to, environment_of, environments_of_all, is_of, one_if, with_principals, with_resources}
use Rattle.cedar_resolved.specs.Queries.{passes}
use Rattle.cedar_resolved.specs.Schemas.{action_at, action_principals, action_resources, action_types, uid_cmp}
use Rattle.cedar_resolved.specs.declared.action.ValidatorActionId.{ValidatorActionId}
use Rattle.cedar_resolved.specs.declared.schema.ValidatorSchema.{ValidatorSchema}
use Rattle.cedar_schema_error.specs.FullNames.{uid_in}
use Rattle.cedar_unfold.specs.ResolvedViews.{resolved as type_seen}
use Rattle.cedar_conform.specs.of_world.Schemas.{Schema, SchemaAction}
use Rattle.cedar_request.proofs.Actions.{action-found, type-among}
use Rattle.cedar_request.proofs.Elements.{one-counted, one-place}
use Rattle.cedar_request.proofs.Numbering.{at-name, at-uid}
use Rattle.cedar_request.specs.RequestChecks.{declared_action, has_type}
use Rattle.cedar_request.specs.Requests.{Environment, environment, environments, environments_of, environments_with}

-- ---- environments, as code has them

abbrev environment_in : resolved.Environment → Environment
environment_in env = record { principal = entity_words env.principal; action = uid_in env.action; resource = entity_words env.resource; context = type_seen env.context }

seen-row : (e : EntityUID × ValidatorActionId) (principal : EntityType) (resources : List EntityType)
    → map (environment (action_in e) (entity_words principal)) (map entity_words resources) ≡ map environment_in (with_resources e resources principal)
seen-row e principal [] = refl
seen-row e principal (r ∷ resources) = ap (λ rest. environment_in (environment_of e principal r) ∷ rest) (seen-row e principal resources)

seen-rows : (e : EntityUID × ValidatorActionId) (principals : List EntityType)
    → flat_map (environments_with (action_in e)) (map entity_words principals) ≡ map environment_in (with_principals e principals)
seen-rows e [] = refl
seen-rows e (p ∷ principals) =
    ap₂ (λ a b. a ++ b) (seen-row e p (action_resources e.1)) (seen-rows e principals)
    ∙ sym (map-append environment_in (with_resources e (action_resources e.1) p) (with_principals e principals))

seen-all : (es : List (EntityUID × ValidatorActionId)) → flat_map environments_of (map action_in es) ≡ map environment_in (environments_of_all es)
seen-all [] = refl
seen-all (e ∷ es) =
    ap₂ (λ a b. a ++ b) (seen-rows e (action_principals e.1)) (seen-all es)
    ∙ sym (map-append environment_in (with_principals e (action_principals e.1)) (environments_of_all es))

-- the value of an option that is another's, seen
record IsSeen {A B : Type 0} (f : A → B) (o : Option A) (b : B) : Type 0 where
  pub value : A
  pub there : o ≡ Some value
  pub same : f value ≡ b

is-seen : {A B : Type 0} (f : A → B) (o : Option A) (b : B) → option_map f o ≡ Some b → IsSeen f o b
is-seen f None b is = absurd (cc)
is-seen f (Some a) b is = record { value = a; there = refl; same = cc }

stands : (V : ValidatorSchema) (i : ℕ) (env : Environment) → slice_get (environments (schema_in V)) i ≡ Some env → IsSeen environment_in (slice_get (environments_of_all (action_types V)) i) env
stands V i env is =
    is-seen environment_in (slice_get (environments_of_all (action_types V)) i) env
    (sym (slice_get-map environment_in (environments_of_all (action_types V)) i) ∙ ap (λ es. slice_get es i) (sym (seen-all (action_types V))) ∙ is)

-- ---- each stands once

-- an action with a principal and a resource stands once among the environments where the schema has the action for them, and else not at all
abbrev pub EachOnce : ValidatorSchema → Type 0
EachOnce V = (principal : EntityType) (action : EntityUID) (resource : EntityType)
    → count_by (is_of principal action resource) (environments_of_all (action_types V)) ≡ one_if (applies V principal action resource)

one-at-most : (b : Bool) → one_if b ≤ 1
one-at-most true = omega arith
one-at-most false = omega arith

at_least : (b : Bool) → 1 ≤ one_if b → b ≡ true
at_least true one = refl
at_least false one = absurd (omega (arith, one))

all-true : (a b c : Bool) → a ≡ true → b ≡ true → c ≡ true → a && b && c ≡ true
all-true a b c p q r = ap₂ (λ x y. x && y) (ap₂ (λ x y. x && y) p q) r

-- an environment is of the principal, the action and the resource of another with the same names
of-same : (e other : resolved.Environment) → entity_words e.principal ≡ entity_words other.principal → uid_in e.action ≡ uid_in other.action → entity_words e.resource ≡ entity_words other.resource
    → is_of e.principal e.action e.resource other ≡ true
of-same e other principal action resource =
    all-true (is_at (uid_cmp e.action) other.action) (is_at (entity_cmp e.principal) other.principal) (is_at (entity_cmp e.resource) other.resource)
    (at-uid (uid_in e.action) (uid_in other.action) action) (at-name (entity_words e.principal) (entity_words other.principal) principal) (at-name (entity_words e.resource) (entity_words other.resource) resource)

-- the action of an environment is found by its name, and is for the principal and the resource
pub record IsFound (S : Schema) (env : Environment) : Type 0 where
  pub action : SchemaAction
  pub named : declared_action S env.action ≡ Some action
  pub principal : has_type action.principals env.principal ≡ true
  pub resource : has_type action.resources env.resource ≡ true

-- the action of each environment is found, and no other environment is of the same principal, action and resource
pub record IsOrdered (S : Schema) : Type 0 where
  pub found : (i : ℕ) (env : Environment) → slice_get (environments S) i ≡ Some env → IsFound S env
  pub once : (i j : ℕ) (env other : Environment) → slice_get (environments S) i ≡ Some env → slice_get (environments S) j ≡ Some other
      → env.principal ≡ other.principal → env.action ≡ other.action → env.resource ≡ other.resource → i ≡ j

module _ (V : ValidatorSchema) (each : EachOnce V) where
  both-true : (a b : Bool) → a && b ≡ true → (a ≡ true) × (b ≡ true)
  both-true true b is = (refl, is)
  both-true false b is = absurd (cc)

  applied : (principal resource : EntityType) (found : Option ValidatorActionId) → passes (applies_to principal resource) found ≡ true → IsSeen (applies_to principal resource) found true
  applied principal resource None is = absurd (cc)
  applied principal resource (Some a) is = record { value = a; there = refl; same = is }

  found-at : (e : resolved.Environment) (i : ℕ) → slice_get (environments_of_all (action_types V)) i ≡ Some e → IsFound (schema_in V) (environment_in e)
  found-at e i is =
      let counted = one-counted (is_of e.principal e.action e.resource) (environments_of_all (action_types V)) i e is (of-same e e refl refl refl) in
      let applies' : applies V e.principal e.action e.resource ≡ true =
      at_least (applies V e.principal e.action e.resource) (subst (λ n. 1 ≤ n) (each e.principal e.action e.resource) counted) in
      let at = applied e.principal e.resource (action_at V e.action) applies' in
      let both = both-true _ _ at.same in
      record {
        action = action_of at.value;
        named = action-found V e.action at.value at.there;
        principal = type-among e.principal (action_principals at.value) ∙ both.0;
        resource = type-among e.resource (action_resources at.value) ∙ both.1;
      }

  found : (i : ℕ) (env : Environment) → slice_get (environments (schema_in V)) i ≡ Some env → IsFound (schema_in V) env
  found i env is = let e = stands V i env is in subst (λ x. IsFound (schema_in V) x) e.same (found-at e.value i e.there)

  once : (i j : ℕ) (env other : Environment) → slice_get (environments (schema_in V)) i ≡ Some env → slice_get (environments (schema_in V)) j ≡ Some other
      → env.principal ≡ other.principal → env.action ≡ other.action → env.resource ≡ other.resource → i ≡ j
  once i j env other is also principal action resource =
      let e = stands V i env is in
      let f = stands V j other also in
      one-place (is_of e.value.principal e.value.action e.value.resource) (environments_of_all (action_types V)) i j e.value f.value
      (subst (λ n. n ≤ 1) (sym (each e.value.principal e.value.action e.value.resource)) (one-at-most (applies V e.value.principal e.value.action e.value.resource)))
      e.there f.there (of-same e.value e.value refl refl refl)
      (of-same e.value f.value
      (ap (λ (x : Environment). x.principal) e.same ∙ principal ∙ ap (λ (x : Environment). x.principal) (sym f.same))
      (ap (λ (x : Environment). x.action) e.same ∙ action ∙ ap (λ (x : Environment). x.action) (sym f.same))
      (ap (λ (x : Environment). x.resource) e.same ∙ resource ∙ ap (λ (x : Environment). x.resource) (sym f.same)))

  pub ordered : IsOrdered (schema_in V)
  ordered = record { found = found; once = once }
