-- SPDX-License-Identifier: Apache-2.0
-- Each environment that a schema has stands once among its environments.
use Rattle.std.proofs.Common.{◌≡◌, ℕ, ◌+◌, Bool, true, false, cond, ◌&&◌, List, [], ◌∷◌, Option, Some, None, map, refl, sym, ap, ◌∙◌}
use Rattle.std.proofs.lemmas.List.Sums.{sum_by-append, sum_by-cons}
use Rattle.std.specs.BTreeMap.{is_at}
use Rattle.std.specs.Cmp.{IsTotalOrder, on_total, then_total}
use Rattle.std.specs.Cmp.Lexicographic.{nat_list_cmp_total}
use Rattle.std.specs.List.{AllByRecursion, count_by, flat_map, sum_by}
use Rattle.std.specs.List.Sorted.{IsStrictlySortedBy}
use Rattle.cedar_data.specs.Sets.{contains}
use Rattle.cedar_names.specs.EntityUids.{eid_of, eid_text, entity_type_of}
use Rattle.cedar_names.specs.Names.{entity_cmp, entity_words}
use Rattle.cedar_names.specs.OrderLaws.{words-total}
use Rattle.cedar_names.specs.declared.entity_uid.EntityUID.{EntityUID}
use Rattle.cedar_names.specs.declared.name.EntityType.{EntityType}
use Rattle.cedar_resolved.proofs.KeyCounts.{number_at, once_in_map, once_in_set}
use Rattle.cedar_resolved.specs.Environments.{ActionsInOrder, SetsInOrder, applies, applies_to, environment_of, environments_of, environments_of_all, is_of, one_if, with_resources}
use Rattle.cedar_resolved.specs.Queries.{passes}
use Rattle.cedar_resolved.specs.Schemas.{action_at, action_principals, action_resources, action_types, uid_cmp}
use Rattle.cedar_resolved.specs.declared.action.ValidatorActionId.{ValidatorActionId}
use Rattle.cedar_resolved.specs.declared.schema.ValidatorSchema.{ValidatorSchema}

-- the order of entity types is total
pub entity_total : IsTotalOrder entity_cmp
entity_total = words-total entity_words

-- so is that of entities
pub uid_total : IsTotalOrder uid_cmp
uid_total = then_total (on_total entity_type_of entity_total) (on_total (λ uid. eid_text (eid_of uid)) nat_list_cmp_total)

count_map : {X Y : Type 0} (test : X → Bool) (f : Y → X) (ys : List Y) → count_by test (map f ys) ≡ sum_by (λ y. cond (test (f y)) 1 0) ys
count_map test f [] = refl
count_map test f (y ∷ ys) =
    sum_by-cons (λ x. cond (test x) 1 0) (f y) (map f ys)
    ∙ ap (λ n. cond (test (f y)) 1 0 + n) (count_map test f ys)
    ∙ sym (sum_by-cons (λ y. cond (test (f y)) 1 0) y ys)

count_flat_map : {X Y : Type 0} (test : X → Bool) (f : Y → List X) (ys : List Y) → count_by test (flat_map f ys) ≡ sum_by (λ y. count_by test (f y)) ys
count_flat_map test f [] = refl
count_flat_map test f (y ∷ ys) =
    sum_by-append (λ x. cond (test x) 1 0) (f y) (flat_map f ys)
    ∙ ap (λ n. count_by test (f y) + n) (count_flat_map test f ys)
    ∙ sym (sum_by-cons (λ y. count_by test (f y)) y ys)

last_first : (first last : Bool) → one_if (first && last) ≡ cond last (one_if first) 0
last_first true true = refl
last_first true false = refl
last_first false true = refl
last_first false false = refl

second_first : (a p r : Bool) → cond r (one_if (a && p)) 0 ≡ cond p (cond r (one_if a) 0) 0
second_first true true true = refl
second_first true true false = refl
second_first true false true = refl
second_first true false false = refl
second_first false true true = refl
second_first false true false = refl
second_first false false true = refl
second_first false false false = refl

all_first : (a p r : Bool) → cond p (cond r (one_if a) 0) 0 ≡ cond a (one_if (p && r)) 0
all_first true true true = refl
all_first true true false = refl
all_first true false true = refl
all_first true false false = refl
all_first false true true = refl
all_first false true false = refl
all_first false false true = refl
all_first false false false = refl

module _ (principal : EntityType) (action : EntityUID) (resource : EntityType) where
  is_it : EntityUID × ValidatorActionId → Bool
  is_it entry = is_at (uid_cmp action) entry.0

  -- one value of an action that applies, and none of the others
  value : ValidatorActionId → ℕ
  value found = one_if (applies_to principal resource found)

  count_resources : (entry : EntityUID × ValidatorActionId) (p : EntityType) (resources : List EntityType) → IsStrictlySortedBy entity_cmp resources
      → count_by (is_of principal action resource) (with_resources entry resources p) ≡ cond (contains entity_cmp resources resource) (one_if (is_it entry && is_at (entity_cmp principal) p)) 0
  unfolding is_it
  count_resources entry p resources sorted =
      count_map (is_of principal action resource) (environment_of entry p) resources
      ∙ once_in_set entity_total resource (one_if (is_it entry && is_at (entity_cmp principal) p))
      (λ r. one_if (is_of principal action resource (environment_of entry p r)))
      (λ r. last_first (is_it entry && is_at (entity_cmp principal) p) (is_at (entity_cmp resource) r))
      resources sorted

  count_principals : (entry : EntityUID × ValidatorActionId) → SetsInOrder entry
      → count_by (is_of principal action resource) (environments_of entry) ≡ cond (is_it entry) (value entry.1) 0
  unfolding is_it value
  count_principals entry sorted =
      count_flat_map (is_of principal action resource) (with_resources entry (action_resources entry.1)) (action_principals entry.1)
      ∙ once_in_set entity_total principal (cond (contains entity_cmp (action_resources entry.1) resource) (one_if (is_it entry)) 0)
      (λ p. count_by (is_of principal action resource) (with_resources entry (action_resources entry.1) p))
      (λ p. count_resources entry p (action_resources entry.1) sorted.resources
      ∙ second_first (is_it entry) (is_at (entity_cmp principal) p) (contains entity_cmp (action_resources entry.1) resource))
      (action_principals entry.1) sorted.principals
      ∙ all_first (is_it entry) (contains entity_cmp (action_principals entry.1) principal) (contains entity_cmp (action_resources entry.1) resource)

  count_all : (entries : List (EntityUID × ValidatorActionId)) → AllByRecursion SetsInOrder entries
      → AllByRecursion (λ e. count_by (is_of principal action resource) (environments_of e) ≡ cond (is_at (uid_cmp action) e.0) (value e.1) 0) entries
  unfolding is_it
  count_all [] sorted = tt
  count_all (e ∷ entries) sorted = (count_principals e sorted.0, count_all entries sorted.1)

  one_value : (found : Option ValidatorActionId) → number_at value found ≡ one_if (passes (applies_to principal resource) found)
  unfolding value
  one_value None = refl
  one_value (Some found) = refl

  -- an environment stands once where the schema has the action and it applies, and else not at all
  pub each_once : (schema : ValidatorSchema) → ActionsInOrder schema
      → count_by (is_of principal action resource) (environments_of_all (action_types schema)) ≡ one_if (applies schema principal action resource)
  each_once schema sorted =
      count_flat_map (is_of principal action resource) environments_of (action_types schema)
      ∙ once_in_map uid_total action value (λ e. count_by (is_of principal action resource) (environments_of e)) (action_types schema)
      (count_all (action_types schema) sorted.sets) sorted.actions
      ∙ one_value (action_at schema action)
