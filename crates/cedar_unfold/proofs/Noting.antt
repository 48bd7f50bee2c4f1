-- SPDX-License-Identifier: Apache-2.0
-- A walk over the attributes of a record that keeps their first fault and counts its looks.
use Rattle.std.proofs.Common.{◌≡◌, ℕ, ◌+◌, ◌<◌, ◌≤◌, arith, Bool, List, [], ◌∷◌, ◌++◌, Option, Some, None, refl, sym, ap, ◌∙◌}
use Rattle.std.specs.Cmp.Lexicographic.{slice_cmp}
use Rattle.std.specs.List.Sorted.{IsStrictlySortedBy}
use Rattle.std.specs.Option.{option_or}
use Rattle.std.specs.Ordering.{nat_cmp}
use Rattle.cedar_schema_error.specs.FullNames.{FullName}
use Rattle.cedar_schema_error.specs.Refusals.{Refusal}
use Rattle.cedar_unfolding.specs.Faults.{faults_by, attribute_faults_by}
use Rattle.cedar_unfold.specs.Following.{first_of, labels, first_attribute, following}
use Rattle.cedar_unfolding.specs.Written.{Written, WrittenAttributes, nodes, attribute_nodes}
use Rattle.cedar_unfold.proofs.FollowingLemmas.{following-None, following-next, following-part, following-end, some_nodes}

pub first-append : {A : Type 0} (xs ys : List A) → first_of (xs ++ ys) ≡ option_or (first_of xs) (first_of ys)
first-append [] ys = refl
first-append (x ∷ xs) ys = refl

pub or-None : {A : Type 0} (o : Option A) → option_or o None ≡ o
or-None None = refl
or-None (Some x) = refl

pub or-assoc : {A : Type 0} (a b c : Option A) → option_or (option_or a b) c ≡ option_or a (option_or b c)
or-assoc None b c = refl
or-assoc (Some x) b c = refl

module _ (known : FullName → Bool) (is_extension : List ℕ → Bool) where
  abbrev faults_at : Written FullName → List Refusal
  faults_at t = faults_by Some known is_extension t

  abbrev attribute_faults_at : WrittenAttributes FullName → List Refusal
  attribute_faults_at ws = attribute_faults_by Some known is_extension ws

  -- the attributes up to `after` were walked
  pub record Noting (ws : WrittenAttributes FullName) (fault₀ : Option Refusal) (steps₀ : ℕ) (after : Option (List ℕ)) (fault : Option Refusal) (steps : ℕ) : Type 0 where
    pub fault_left : option_or fault (first_of (attribute_faults_at (following after ws))) ≡ option_or fault₀ (first_of (attribute_faults_at ws))
    pub steps_left : steps + attribute_nodes (following after ws) ≤ steps₀ + attribute_nodes ws

  pub Noting-start : (ws : WrittenAttributes FullName) (fault : Option Refusal) (steps : ℕ) → Noting ws fault steps None fault steps
  Noting-start ws fault steps =
      let all = following-None ws in
      let same = ap attribute_nodes all in
      record {
        fault_left = ap (λ ws. option_or fault (first_of (attribute_faults_at ws))) all;
        steps_left = omega (arith, same);
      }

  module _ {ws : WrittenAttributes FullName} {fault₀ : Option Refusal} {steps₀ : ℕ} {after : Option (List ℕ)} {fault : Option Refusal} {steps : ℕ} (s : Noting ws fault₀ steps₀ after fault steps) where
    module _ (name : List ℕ) (t : Written FullName) (required : Bool) (sorted : IsStrictlySortedBy (slice_cmp nat_cmp) (labels ws)) (first : first_attribute (following after ws) ≡ Some (name, t, required)) where
      abbrev rest : WrittenAttributes FullName
      rest = following (Some name) ws

      -- the next was walked
      pub Noting-next : (fault' : Option Refusal) (steps' : ℕ) → fault' ≡ option_or fault (first_of (faults_at t)) → steps' ≤ steps + nodes t → Noting ws fault₀ steps₀ (Some name) fault' steps'
      Noting-next fault' steps' fault_is more =
          let split = following-next after ws name t required sorted first in
          let left = ap attribute_nodes split in
          record {
            fault_left =
                ap (λ f. option_or f (first_of (attribute_faults_at rest))) fault_is
                ∙ or-assoc fault (first_of (faults_at t)) (first_of (attribute_faults_at rest))
                ∙ ap (option_or fault) (sym (first-append (faults_at t) (attribute_faults_at rest)))
                ∙ ap (λ ws. option_or fault (first_of (attribute_faults_at ws))) (sym split)
                ∙ s.fault_left;
            steps_left = omega (arith, left, more, s.steps_left);
          }

      -- no more steps than those of the record, also where the walk stops in it
      pub Noting-counts : (steps' : ℕ) → steps' ≤ steps + nodes t → steps' ≤ steps₀ + attribute_nodes ws
      Noting-counts steps' more =
          let left = ap attribute_nodes (following-next after ws name t required sorted first) in
          omega (arith, left, more, s.steps_left)

      -- the part is smaller than the record, and less is left after it
      pub Noting-part : nodes t ≤ attribute_nodes ws
      Noting-part = following-part after ws name t required sorted first

      pub Noting-less : attribute_nodes rest < attribute_nodes (following after ws)
      Noting-less =
          let left = ap attribute_nodes (following-next after ws name t required sorted first) in
          let some = some_nodes t in
          omega (arith, left, some)

    pub Noting-fault : first_attribute (following after ws) ≡ None → fault ≡ option_or fault₀ (first_of (attribute_faults_at ws))
    Noting-fault ended = sym (or-None fault) ∙ ap (λ ws. option_or fault (first_of (attribute_faults_at ws))) (sym (following-end after ws ended)) ∙ s.fault_left

    pub Noting-steps : steps ≤ steps₀ + attribute_nodes ws
    Noting-steps = omega (arith, s.steps_left)
