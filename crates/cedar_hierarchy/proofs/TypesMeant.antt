-- SPDX-License-Identifier: Apache-2.0
-- The entity types that references mean, as a set of names.
use Rattle.std.proofs.Common.{◌≡◌, ◌&&◌, inl, inr, Bool, true, false, not, List, [], ◌∷◌, Option, Some, None, option_map, map, refl, sym, ap, ◌∙◌, unwrap_or}
use Rattle.std.specs.List.{list_any}
use Rattle.std.specs.List.Sorted.{IsStrictlySortedBy}
use Rattle.cedar_data.specs.Firsts.{SomePasses}
use Rattle.cedar_data.specs.Sets.{contains}
use Rattle.cedar_outlines.specs.of_declared.Names.{Names, target, targets}
use Rattle.cedar_outlines.specs.of_declared.Targets.{found}
use Rattle.cedar_outlines.proofs.of_declared.FoundTargets.{type_found}
use Rattle.cedar_hierarchy.specs.Targets.{AreMeant, is_type_meant}
use Rattle.cedar_hierarchy.proofs.Meant.{any_meant, unreserved}
use Rattle.cedar_hierarchy.proofs.NamesSeen.{types_seen}
use Rattle.cedar_hierarchy.proofs.Views.{and_both, contains_view, given_by, view_ascends, viewed}
use Rattle.cedar_names.specs.Components.{components, has_cedar}
use Rattle.cedar_names.specs.Names.{entity_cmp, entity_words}
use Rattle.cedar_names.specs.Order.{words_cmp}
use Rattle.cedar_names.specs.declared.internal_name.InternalName.{InternalName}
use Rattle.cedar_names.specs.declared.name.EntityType.{EntityType}
use Rattle.cedar_schema_error.specs.FullNames.{FullName}
use Rattle.cedar_schema_error.specs.NameReferences.{reference_of}
use Rattle.cedar_written.specs.declared.conditional_name.ConditionalName.{ConditionalName}

both_true : (x y : Bool) → x ≡ true → y ≡ false → (x && not y) ≡ true
both_true x y p q = λ i. p i && not (q i)

not_true : (y : Bool) → not y ≡ true → y ≡ false
not_true true e = cc
not_true false e = refl

module _ (names : Names) where
  -- a target is the name of something
  named_by : (rs : List ConditionalName) (n : FullName) → SomePasses (λ r. target names r ≡ Some n) (map reference_of rs) → (i : InternalName) × (components i ≡ n)
  named_by [] n s = absurd s
  named_by (r ∷ rs) n (inr s) = named_by rs n s
  named_by (r ∷ rs) n (inl e) = by (found names r) (sym (type_found names r) ∙ e)
    where
      by : (o : Option InternalName) → option_map components o ≡ Some n → (i : InternalName) × (components i ≡ n)
      by None e = absurd (cc)
      by (Some i) e = (i, ap (λ o. unwrap_or o n) e)

  -- an entity type of a name without `__cedar`
  type_of : (i : InternalName) → has_cedar (components i) ≡ false → (ty : EntityType) × (entity_words ty ≡ components i)
  type_of i free = (record { name = record { internal = i; unreserved = ap not free } }, refl)

  -- the entity types that references mean are their targets, but for those with `__cedar`
  pub are_meant : (rs : List ConditionalName) (types : List EntityType) → IsStrictlySortedBy entity_cmp types → ((key : EntityType) → contains entity_cmp types key ≡ list_any (λ r. is_type_meant names r key) rs) → AreMeant names rs types
  are_meant rs types sorted told = record {
    ascends = view_ascends types_seen types sorted;
    members = λ n. (
      (λ t.
          let (k, same) = viewed types_seen types n t in
          both_true (contains words_cmp (targets names (map reference_of rs)) n) (has_cedar n)
          (ap (contains words_cmp (targets names (map reference_of rs))) (sym same) ∙ sym (among k) ∙ sym (contains_view types_seen types k) ∙ ap (contains words_cmp (map entity_words types)) same ∙ t)
          (ap has_cedar (sym same) ∙ unreserved k)),
      (λ h.
          let both = and_both (contains words_cmp (targets names (map reference_of rs)) n) (not (has_cedar n)) h in
          let (i, is) = named_by rs n (given_by types_seen.ties types_seen.itself (target names) (map reference_of rs) n both.0) in
          let (ty, same) = type_of i (ap has_cedar is ∙ not_true (has_cedar n) both.1) in
          let words : entity_words ty ≡ n = same ∙ is in
          ap (contains words_cmp (map entity_words types)) (sym words) ∙ contains_view types_seen types ty ∙ among ty ∙ ap (contains words_cmp (targets names (map reference_of rs))) words ∙ both.0),
    );
  }
    where
      among : (key : EntityType) → contains entity_cmp types key ≡ contains words_cmp (targets names (map reference_of rs)) (entity_words key)
      among key = told key ∙ any_meant words_cmp (target names) reference_of rs (entity_words key)
