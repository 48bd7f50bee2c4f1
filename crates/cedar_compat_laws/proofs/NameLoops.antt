-- SPDX-License-Identifier: Apache-2.0
-- Attributes that stand in the order of their names have distinct names.
use Rattle.std.proofs.Common.{◌≡◌, ℕ, Bool, true, false, if◌then◌else◌, List, [], ◌∷◌, map, refl, sym, ap, ◌∙◌, subst}
use Rattle.std.proofs.lemmas.Map.Keys.{sorted_head, sorted_tail}
use Rattle.std.specs.Cmp.Lexicographic.{slice_cmp}
use Rattle.std.specs.List.{AllByRecursion}
use Rattle.std.specs.List.Sorted.{IsStrictlySortedBy}
use Rattle.std.specs.Map.{keys_of, values_of}
use Rattle.std.specs.Ordering.{is_eq, nat_cmp}
use Rattle.std.specs.declared.cmp.Ordering.TheVariants.{Less}
use Rattle.cedar_data.specs.Firsts.{AllPass}
use Rattle.cedar_data.specs.Maps.{IsSortedMap}
use Rattle.cedar_names.specs.declared.entity_uid.EntityUID.{EntityUID}
use Rattle.cedar_names.specs.declared.name.EntityType.{EntityType}
use Rattle.cedar_compat.specs.of_checks.SchemaViews.{action_in, action_of, entity_in, entity_of, schema_in}
use Rattle.cedar_resolved.specs.Schemas.{action_types, types}
use Rattle.cedar_resolved.specs.declared.action.ValidatorActionId.{ValidatorActionId}
use Rattle.cedar_resolved.specs.declared.entity_type.ValidatorEntityType.{ValidatorEntityType}
use Rattle.cedar_resolved.specs.declared.schema.ValidatorSchema.{ValidatorSchema}
use Rattle.cedar_types.specs.declared.ty.AttributeType.{AttributeType}
use Rattle.cedar_unfold.proofs.ResolvedTypes.{resolved-attribute}
use Rattle.cedar_unfold.specs.Resolved.{Resolved}
use Rattle.cedar_unfold.specs.ResolvedViews.{resolved, resolved_attribute, resolved_map}
use Rattle.cedar_compat_laws.specs.NamesDiffer.{NamesDiffer, AllNamesDiffer, ContextNamesDiffer, TypeNamesDiffer, KindNamesDiffer}
use Rattle.cedar_conform.specs.Fits.{has_attribute}

abbrev pub Row : Type 0
Row = List ℕ × AttributeType

-- a name before all others is none of them
none-named : (name : List ℕ) (es : List Row) → AllByRecursion (λ y. slice_cmp nat_cmp name y ≡ Less) (keys_of es) → has_attribute (resolved_map es) name ≡ false
none-named name [] less = refl
none-named name (e ∷ es) less = ap (λ o. if is_eq o then true else has_attribute (resolved_map es) name) less.0 ∙ none-named name es less.1

-- a loop over `whole` that has `left` before it has found each attribute before distinct
pub record DifferSoFar (whole left : List Row) : Type 0 where
  pub sorted : IsStrictlySortedBy (slice_cmp nat_cmp) (keys_of left)
  pub leads : NamesDiffer (resolved_map left) → NamesDiffer (resolved_map whole)

pub DifferSoFar-start : (whole left : List Row) → left ≡ whole → IsSortedMap (slice_cmp nat_cmp) whole → DifferSoFar whole left
DifferSoFar-start whole left all sorted = record {
  sorted = subst (λ es. IsStrictlySortedBy (slice_cmp nat_cmp) (keys_of es)) (sym all) sorted;
  leads = λ distinct. subst (λ es. NamesDiffer (resolved_map es)) all distinct;
}

pub DifferSoFar-next : {whole left rest : List Row} {row : Row} → DifferSoFar whole left → left ≡ row ∷ rest → TypeNamesDiffer (resolved row.1.attr_type) → DifferSoFar whole rest
DifferSoFar-next {rest = rest} {row = row} sofar at_left distinct =
    let sorted = subst (λ es. IsStrictlySortedBy (slice_cmp nat_cmp) (keys_of es)) at_left sofar.sorted in
    let type : TypeNamesDiffer (resolved_attribute row.1).1 = subst (λ (a : Bool × Resolved). TypeNamesDiffer a.1) (sym (resolved-attribute row.1)) distinct in
    record {
      sorted = sorted_tail (slice_cmp nat_cmp) row.0 (keys_of rest) sorted;
      leads = λ others. sofar.leads
          (subst (λ es. NamesDiffer (resolved_map es)) (sym at_left) (none-named row.0 rest (sorted_head (slice_cmp nat_cmp) row.0 (keys_of rest) sorted), type, others));
    }

pub DifferSoFar-end : {whole left : List Row} → DifferSoFar whole left → left ≡ [] → NamesDiffer (resolved_map whole)
DifferSoFar-end sofar none = sofar.leads (subst (λ es. NamesDiffer (resolved_map es)) (sym none) tt)

pub ruleset each_name_differs = (DifferSoFar-start, DifferSoFar-next, DifferSoFar-end)

-- ---- entity types and actions

-- a loop that has `left` before it has found each one before distinct: where those that are left are so too, all are
pub record DifferAll {A : Type 0} (Differs : A → Type 0) (All : Type 0) (left : List A) : Type 0 where
  pub leads : AllPass Differs left → All

module _ {A : Type 0} {Differs : A → Type 0} {All : Type 0} where
  pub DifferAll-next : {left rest : List A} {x : A} → DifferAll Differs All left → left ≡ x ∷ rest → Differs x → DifferAll Differs All rest
  DifferAll-next sofar at_left distinct = record { leads = λ others. sofar.leads (subst (AllPass Differs) (sym at_left) (distinct, others)) }

  pub DifferAll-end : {left : List A} → DifferAll Differs All left → left ≡ [] → All
  DifferAll-end sofar none = sofar.leads (subst (AllPass Differs) (sym none) tt)

-- in an entity type, and in the context of an action
abbrev pub TypeDiffers : ValidatorEntityType → Type 0
TypeDiffers ty = KindNamesDiffer (entity_of ty).kind

abbrev pub ContextDiffers : ValidatorActionId → Type 0
ContextDiffers action = TypeNamesDiffer (action_of action).context

all-types : (es : List (EntityType × ValidatorEntityType)) → AllPass TypeDiffers (values_of es) → AllPass (λ e. KindNamesDiffer e.1.kind) (map entity_in es)
all-types [] all = tt
all-types (e ∷ es) all = (all.0, all-types es all.1)

all-contexts : (es : List (EntityUID × ValidatorActionId)) → AllPass ContextDiffers (values_of es) → AllPass (λ a. TypeNamesDiffer a.1.context) (map action_in es)
all-contexts [] all = tt
all-contexts (e ∷ es) all = (all.0, all-contexts es all.1)

pub DifferTypes-start : (S : ValidatorSchema) (left : List ValidatorEntityType) → left ≡ values_of (types S) → DifferAll TypeDiffers (AllNamesDiffer (schema_in S)) left
DifferTypes-start S left all = record { leads = λ distinct. all-types (types S) (subst (AllPass TypeDiffers) all distinct) }

pub DifferContexts-start : (S : ValidatorSchema) (left : List ValidatorActionId) → left ≡ values_of (action_types S) → DifferAll ContextDiffers (ContextNamesDiffer (schema_in S)) left
DifferContexts-start S left all = record { leads = λ distinct. all-contexts (action_types S) (subst (AllPass ContextDiffers) all distinct) }

pub ruleset each_one_differs = (DifferTypes-start, DifferContexts-start, DifferAll-next, DifferAll-end)
