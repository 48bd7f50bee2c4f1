-- SPDX-License-Identifier: Apache-2.0
-- A list passes the check of requests exactly where it is one of requests, and with the numbers of their environments.
use Rattle.std.proofs.Common.{◌≡◌, ℕ, ◌+◌, true, List, [], ◌∷◌, codes, slice_get, Some, refl, sym, ap, ◌∙◌, subst}
use Rattle.std.specs.declared.result.Result.TheVariants.{Ok}
use Rattle.cedar_written.specs.Answers.{and_then}
use Rattle.serde_json.specs.Data.{Data, Items, no_items, item}
use Rattle.cedar_json_types.specs.Shapes.{Keyed}
use Rattle.cedar_schema_error.specs.FullNames.{Uid}
use Rattle.cedar_conform.specs.of_world.Schemas.{Schema, SchemaAction, SchemaEntity}
use Rattle.cedar_conform.specs.Checks.{Check, in_array, keys_check, needs, under}
use Rattle.cedar_conform.specs.Fits.{Fits}
use Rattle.cedar_conform.specs.References.{At, IsReference, Known}
use Rattle.cedar_conform.specs.ValueChecks.{known_check, reference_check, value_check}
use Rattle.cedar_conform.proofs.CheckLaws.{array-pass, at-map, keys-pass, needs-pass, pass-keys, pass-needs, pass-under, under-pass}
use Rattle.cedar_conform.proofs.ReferenceLaws.{known-pass, pass-known, pass-reference, reference-pass}
use Rattle.cedar_conform.proofs.ValueLaws as types
use Rattle.cedar_request.proofs.CheckLaws.{action-pass, pass-action, pass-place, pass-type, pass-value, place-pass, type-pass, value-pass}
use Rattle.cedar_conform.proofs.of_checks.Steps.{both-pass, then-pass}
use Rattle.cedar_request.proofs.Numbering.{numbered}
use Rattle.cedar_request.proofs.Once.{IsOrdered}
use Rattle.cedar_request.specs.Numbers.{number}
use Rattle.cedar_request.specs.RequestChecks.{Parts, RequestCheck, action_check, action_as, at_place, context_check, declared_action, each_request, entity_known, environment_check, has_type, of_value, parts_check, principal_check, request_check, requests_check, resource_check, type_check}
use Rattle.cedar_request.specs.RequestFlaws.{no_principal, no_resource}
use Rattle.cedar_request.specs.Requests.{AreRequests, EachRequest, Environment, IsNumbered, IsRequest, environment, environments, in_64_bits, request_keys}

-- ---- what a request names

pub record Names (d : Data) (parts : Parts) : Type 0 where
  pub keyed : Keyed request_keys d
  pub principal : At (codes "principal") (λ e. IsReference e parts.principal) d
  pub action : At (codes "action") (λ e. IsReference e parts.action) d
  pub resource : At (codes "resource") (λ e. IsReference e parts.resource) d
  pub context : At (codes "context") (λ e. e ≡ parts.context) d

same-ok : {V : Type 0} (v w : V) → ◌≡◌ {A = Check V} (Ok v) (Ok w) → v ≡ w
same-ok v w is = cc

reference-at : (k : List ℕ) (d : Data) (u : Uid) → needs k reference_check d ≡ Ok u → At k (λ e. IsReference e u) d
reference-at k d u is = at-map k d (λ e. reference-pass e u) (needs-pass k reference_check d u is)

at-reference : (k : List ℕ) (d : Data) (u : Uid) → At k (λ e. IsReference e u) d → needs k reference_check d ≡ Ok u
at-reference k d u is = pass-needs k reference_check d u (at-map k d (λ e. pass-reference e u) is)

parts-pass : (d : Data) (parts : Parts) → parts_check d ≡ Ok parts → Names d parts
unfolding parts_check
parts-pass d parts is =
    let keys = both-pass (keys_check request_keys d) _ parts is in
    let principal = both-pass (needs (codes "principal") reference_check d) _ parts keys.2 in
    let action = both-pass (needs (codes "action") reference_check d) _ parts principal.2 in
    let resource = both-pass (needs (codes "resource") reference_check d) _ parts action.2 in
    let context = both-pass (needs (codes "context") Ok d) _ parts resource.2 in
    let made : Parts = record { principal = principal.0; action = action.0; resource = resource.0; context = context.0 } in
    subst (Names d) (same-ok made parts context.2) (record {
      keyed = keys-pass request_keys d keys.1;
      principal = reference-at (codes "principal") d principal.0 principal.1;
      action = reference-at (codes "action") d action.0 action.1;
      resource = reference-at (codes "resource") d resource.0 resource.1;
      context = at-map (codes "context") d (λ e. same-ok e context.0) (needs-pass (codes "context") Ok d context.0 context.1);
    })

pass-parts : (d : Data) (parts : Parts) → Names d parts → parts_check d ≡ Ok parts
unfolding parts_check
pass-parts d parts names =
    then-pass (keys_check request_keys d) _ tt parts (pass-keys request_keys d names.keyed)
    (then-pass (needs (codes "principal") reference_check d) _ parts.principal parts (at-reference (codes "principal") d parts.principal names.principal)
    (then-pass (needs (codes "action") reference_check d) _ parts.action parts (at-reference (codes "action") d parts.action names.action)
    (then-pass (needs (codes "resource") reference_check d) _ parts.resource parts (at-reference (codes "resource") d parts.resource names.resource)
    (then-pass (needs (codes "context") Ok d) _ parts.context parts (pass-needs (codes "context") Ok d parts.context (at-map (codes "context") d (λ e is. ap Ok is) names.context)) refl))))

-- ---- its environment

module _ (S : Schema) (place : ℕ) where
  entity-pass : (k : List ℕ) (u : Uid) → entity_known S place k u ≡ Ok tt → (ty : SchemaEntity) × Known S u ty
  entity-pass k u is =
      let known = both-pass (known_check S u) (λ ty. Ok tt) tt (under-pass k _ tt (place-pass place (under k (and_then (known_check S u) (λ ty. Ok tt))) tt is)) in
      (known.0, known-pass S u known.0 known.1)

  pass-entity : (k : List ℕ) (u : Uid) (ty : SchemaEntity) → Known S u ty → entity_known S place k u ≡ Ok tt
  pass-entity k u ty known =
      pass-place place (under k (and_then (known_check S u) (λ ty. Ok tt))) tt
      (pass-under k (and_then (known_check S u) (λ ty. Ok tt)) tt (then-pass (known_check S u) (λ ty. Ok tt) ty tt (pass-known S u ty known) refl))

  -- the action is for the principal and the resource, the schema knows both, and the context fits
  pub record Enters (parts : Parts) : Type 0 where
    pub action : SchemaAction
    pub named : declared_action S parts.action ≡ Some action
    pub principal : has_type action.principals parts.principal.ty ≡ true
    pub knows_principal : (ty : SchemaEntity) × Known S parts.principal ty
    pub resource : has_type action.resources parts.resource.ty ≡ true
    pub knows_resource : (ty : SchemaEntity) × Known S parts.resource ty
    pub context : Fits S action.context parts.context

  abbrev number_of : (parts : Parts) → SchemaAction → ℕ
  number_of parts action = number S parts.action action parts.principal.ty parts.resource.ty

  environment-pass : (parts : Parts) (n : ℕ) → environment_check S place parts ≡ Ok n → (enters : Enters parts) × (n ≡ in_64_bits (number_of parts enters.action))
  unfolding environment_check action_check principal_check resource_check
  environment-pass parts n is =
      let found = both-pass (action_as place parts.action (declared_action S parts.action)) _ n is in
      let action = found.0 in
      let principal = both-pass (principal_check S place parts action) _ n found.2 in
      let resource = both-pass (resource_check S place parts action) _ n principal.2 in
      let context = both-pass (context_check S place parts action) _ n resource.2 in
      let first = both-pass (type_check action.principals parts.principal.ty (no_principal place parts.action parts.principal.ty)) (λ _. entity_known S place (codes "principal") parts.principal) tt principal.1 in
      let second = both-pass (type_check action.resources parts.resource.ty (no_resource place parts.action parts.resource.ty)) (λ _. entity_known S place (codes "resource") parts.resource) tt resource.1 in (
        record {
          action = action;
          named = action-pass place parts.action (declared_action S parts.action) action found.1;
          principal = type-pass action.principals parts.principal.ty (no_principal place parts.action parts.principal.ty) first.1;
          knows_principal = entity-pass (codes "principal") parts.principal first.2;
          resource = type-pass action.resources parts.resource.ty (no_resource place parts.action parts.resource.ty) second.1;
          knows_resource = entity-pass (codes "resource") parts.resource second.2;
          context = types.value-pass S action.context parts.context (under-pass (codes "context") (value_check S action.context parts.context) tt (place-pass place (under (codes "context") (value_check S action.context parts.context)) tt context.1));
        },
        same-number (in_64_bits (number_of parts action)) n context.2,
      )
    where
      same-number : (m n : ℕ) → ◌≡◌ {A = RequestCheck ℕ} (Ok m) (Ok n) → n ≡ m
      same-number m n is = cc

  pass-environment : (parts : Parts) (enters : Enters parts) → environment_check S place parts ≡ Ok (in_64_bits (number_of parts enters.action))
  unfolding environment_check action_check principal_check resource_check
  pass-environment parts enters =
      let action = enters.action in
      let n = in_64_bits (number_of parts action) in
      let principal : principal_check S place parts action ≡ Ok tt =
      then-pass (type_check action.principals parts.principal.ty (no_principal place parts.action parts.principal.ty)) (λ _. entity_known S place (codes "principal") parts.principal) tt tt
      (pass-type action.principals parts.principal.ty (no_principal place parts.action parts.principal.ty) enters.principal) (pass-entity (codes "principal") parts.principal enters.knows_principal.0 enters.knows_principal.1) in
      let resource : resource_check S place parts action ≡ Ok tt =
      then-pass (type_check action.resources parts.resource.ty (no_resource place parts.action parts.resource.ty)) (λ _. entity_known S place (codes "resource") parts.resource) tt tt
      (pass-type action.resources parts.resource.ty (no_resource place parts.action parts.resource.ty) enters.resource) (pass-entity (codes "resource") parts.resource enters.knows_resource.0 enters.knows_resource.1) in
      let context : context_check S place parts action ≡ Ok tt =
      pass-place place (under (codes "context") (value_check S action.context parts.context)) tt (pass-under (codes "context") (value_check S action.context parts.context) tt (types.pass-value S action.context parts.context enters.context)) in
      then-pass (action_as place parts.action (declared_action S parts.action)) _ action n (pass-action place parts.action (declared_action S parts.action) action enters.named)
      (then-pass (principal_check S place parts action) _ tt n principal
      (then-pass (resource_check S place parts action) _ tt n resource
      (then-pass (context_check S place parts action) _ tt n context refl)))

  -- ---- a request

  entered : (d : Data) (parts : Parts) → Names d parts → (enters : Enters parts) → IsRequest S d (number_of parts enters.action)
  entered d parts names enters = (
    environment (parts.action, enters.action) parts.principal.ty parts.resource.ty,
    numbered parts.action enters.action parts.principal.ty parts.resource.ty enters.principal enters.resource S enters.named,
    (
      names.keyed,
      at-map (codes "principal") d (λ e is. (parts.principal, is, refl, enters.knows_principal)) names.principal,
      names.action,
      at-map (codes "resource") d (λ e is. (parts.resource, is, refl, enters.knows_resource)) names.resource,
      at-map (codes "context") d (λ e is. subst (Fits S enters.action.context) (sym is) enters.context) names.context,
    ),
  )

  request-pass : (d : Data) (n : ℕ) → request_check S place d ≡ Ok n → IsNumbered S d n
  unfolding request_check
  request-pass d n is =
      let read = both-pass (at_place place (parts_check d)) (environment_check S place) n is in
      let names = parts-pass d read.0 (place-pass place (parts_check d) read.0 read.1) in
      let enters = environment-pass read.0 n read.2 in
      (number_of read.0 enters.0.action, entered d read.0 names enters.0, enters.1)

  module _ (ordered : IsOrdered S) where
    -- what a request in an environment names, and that it enters the environment
    pass-in : (d : Data) (i : ℕ) (env : Environment) (parts : Parts) → slice_get (environments S) i ≡ Some env → Names d parts
        → parts.principal.ty ≡ env.principal → parts.action ≡ env.action → parts.resource.ty ≡ env.resource
        → ((ty : SchemaEntity) × Known S parts.principal ty) → ((ty : SchemaEntity) × Known S parts.resource ty) → Fits S env.context parts.context
        → request_check S place d ≡ Ok (in_64_bits i)
    unfolding request_check
    pass-in d i env parts is names principal action resource knows_principal knows_resource fits =
        let found = ordered.found i env is in
        let named : declared_action S parts.action ≡ Some found.action = ap (declared_action S) action ∙ found.named in
        let for_principal : has_type found.action.principals parts.principal.ty ≡ true = ap (has_type found.action.principals) principal ∙ found.principal in
        let for_resource : has_type found.action.resources parts.resource.ty ≡ true = ap (has_type found.action.resources) resource ∙ found.resource in
        let at : slice_get (environments S) (number_of parts found.action) ≡ Some (environment (parts.action, found.action) parts.principal.ty parts.resource.ty) =
        numbered parts.action found.action parts.principal.ty parts.resource.ty for_principal for_resource S named in
        let one : i ≡ number_of parts found.action =
        ordered.once i (number_of parts found.action) env (environment (parts.action, found.action) parts.principal.ty parts.resource.ty) is at (sym principal) (sym action) (sym resource) in
        let same : env ≡ environment (parts.action, found.action) parts.principal.ty parts.resource.ty = same-some (sym is ∙ ap (slice_get (environments S)) one ∙ at) in
        let enters : Enters parts = record {
          action = found.action;
          named = named;
          principal = for_principal;
          knows_principal = knows_principal;
          resource = for_resource;
          knows_resource = knows_resource;
          context = subst (λ (e : Environment). Fits S e.context parts.context) same fits;
        } in
        then-pass (at_place place (parts_check d)) (environment_check S place) parts (in_64_bits i) (pass-place place (parts_check d) parts (pass-parts d parts names))
        (pass-environment parts enters ∙ ap (λ n. Ok (in_64_bits n)) (sym one))
      where
        same-some : {e f : Environment} → Some e ≡ Some f → e ≡ f
        same-some is = cc

    pass-request : (d : Data) (i : ℕ) → IsRequest S d i → request_check S place d ≡ Ok (in_64_bits i)
    pass-request d i is =
        let env = is.0 in
        let keyed = is.2.0 in
        let principal = is.2.1 in
        let action = is.2.2 in
        let resource = is.2.3 in
        let context = is.2.4 in
        let parts : Parts = record { principal = principal.2.0; action = env.action; resource = resource.2.0; context = context.0 } in
        pass-in d i env parts is.1 (record {
          keyed = keyed;
          principal = (principal.0, principal.1, principal.2.1);
          action = action;
          resource = (resource.0, resource.1, resource.2.1);
          context = (context.0, context.1, refl);
        }) principal.2.2 refl resource.2.2 principal.2.3 resource.2.3 context.2

-- ---- lists

module _ (S : Schema) where
  each-pass : (place : ℕ) (ds : Items) (ns : List ℕ) → each_request S place ds ≡ Ok ns → EachRequest S ds ns
  each-pass place no_items [] is = tt
  each-pass place no_items (n ∷ ns) is = absurd (cc)
  each-pass place (item d ds) ns is =
      let first = both-pass (request_check S place d) _ ns is in
      let rest = both-pass (each_request S (place + 1) ds) (λ ms. Ok (first.0 ∷ ms)) ns first.2 in
      subst (λ ms. EachRequest S (item d ds) ms) (same-list (first.0 ∷ rest.0) ns rest.2) (request-pass S place d first.0 first.1, each-pass (place + 1) ds rest.0 rest.1)
    where
      same-list : (ms ns : List ℕ) → ◌≡◌ {A = RequestCheck (List ℕ)} (Ok ms) (Ok ns) → ms ≡ ns
      same-list ms ns is = cc

  pass-each : IsOrdered S → (place : ℕ) (ds : Items) (ns : List ℕ) → EachRequest S ds ns → each_request S place ds ≡ Ok ns
  pass-each ordered place no_items [] each = refl
  pass-each ordered place no_items (n ∷ ns) each = absurd each
  pass-each ordered place (item d ds) [] each = absurd each
  pass-each ordered place (item d ds) (n ∷ ns) each =
      then-pass (request_check S place d) _ n (n ∷ ns) (pass-request S place ordered d each.0.0 each.0.1 ∙ ap Ok (sym each.0.2))
      (then-pass (each_request S (place + 1) ds) (λ ms. Ok (n ∷ ms)) ns (n ∷ ns) (pass-each ordered (place + 1) ds ns each.1) refl)

  pub requests-pass : (d : Data) (ns : List ℕ) → requests_check S d ≡ Ok ns → AreRequests S d ns
  unfolding requests_check
  requests-pass d ns is =
      let read = both-pass (of_value (in_array Ok d)) (each_request S 0) ns is in
      let items = array-pass Ok d read.0 (value-pass (in_array Ok d) read.0 read.1) in
      (items.0, items.1, subst (λ ds. EachRequest S ds ns) (sym (same-ok items.0 read.0 items.2)) (each-pass 0 read.0 ns read.2))

  pub pass-requests : IsOrdered S → (d : Data) (ns : List ℕ) → AreRequests S d ns → requests_check S d ≡ Ok ns
  unfolding requests_check
  pass-requests ordered d ns are =
      then-pass (of_value (in_array Ok d)) (each_request S 0) are.0 ns (pass-value (in_array Ok d) are.0 (ap (in_array Ok) are.1)) (pass-each ordered 0 are.0 ns are.2)
