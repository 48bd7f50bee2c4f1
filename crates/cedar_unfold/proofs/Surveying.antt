-- SPDX-License-Identifier: Apache-2.0
-- A walk over written types that collects the positions of the common types that they name, and the first fault.
use Rattle.std.proofs.Common.{◌≡◌, ℕ, ◌+◌, ◌<◌, ◌≤◌, arith, Bool, List, [], ◌∷◌, ◌++◌, Option, Some, None, refl, sym, ap, ◌∙◌, append_assoc}
use Rattle.std.proofs.lemmas.List.{append-nil}
use Rattle.std.proofs.lemmas.List.Elements.{filter_map-append}
use Rattle.std.proofs.lemmas.List.Sums.{sum_by-cons}
use Rattle.std.specs.Cmp.Lexicographic.{slice_cmp}
use Rattle.std.specs.List.{flat_map}
use Rattle.std.specs.List.Sorted.{IsStrictlySortedBy}
use Rattle.std.specs.Option.{option_or}
use Rattle.std.specs.Ordering.{nat_cmp}
use Rattle.cedar_schema_error.specs.FullNames.{FullName}
use Rattle.cedar_schema_error.specs.Refusals.{Refusal}
use Rattle.cedar_unfolding.specs.Faults.{faults_by, attribute_faults_by}
use Rattle.cedar_unfold.specs.Following.{first_of, labels, first_attribute, following}
use Rattle.cedar_unfold.specs.Rows.{row_of, attribute_row_of, written_rows}
use Rattle.cedar_unfold.specs.Tables.{is_among, place_of}
use Rattle.cedar_unfolding.specs.Written.{Written, WrittenAttributes, nodes, attribute_nodes, all_nodes, common_references, attribute_common_references}
use Rattle.cedar_unfold.proofs.FollowingLemmas.{following-None, following-next, following-end}
use Rattle.cedar_unfold.proofs.Noting.{Noting, Noting-start, Noting-next, Noting-counts, Noting-part, Noting-less, Noting-fault, Noting-steps, first-append, or-None, or-assoc}

module _ (names : List FullName) (is_extension : List ℕ → Bool) where
  abbrev pub faults_in : Written FullName → List Refusal
  faults_in t = faults_by Some (is_among names) is_extension t

  abbrev pub attribute_faults_in : WrittenAttributes FullName → List Refusal
  attribute_faults_in ws = attribute_faults_by Some (is_among names) is_extension ws

  -- the attributes up to `after` were walked
  pub record Surveying (ws : WrittenAttributes FullName) (row₀ : List ℕ) (fault₀ : Option Refusal) (steps₀ : ℕ) (after : Option (List ℕ)) (row : List ℕ) (fault : Option Refusal) (steps : ℕ) : Type 0 where
    pub row_left : row ++ attribute_row_of names (following after ws) ≡ row₀ ++ attribute_row_of names ws
    pub noting : Noting (is_among names) is_extension ws fault₀ steps₀ after fault steps

  pub Surveying-start : (ws : WrittenAttributes FullName) (row : List ℕ) (fault : Option Refusal) (steps : ℕ) → Surveying ws row fault steps None row fault steps
  Surveying-start ws row fault steps = record {
    row_left = ap (λ ws. row ++ attribute_row_of names ws) (following-None ws);
    noting = Noting-start (is_among names) is_extension ws fault steps;
  }

  module _ {ws : WrittenAttributes FullName} {row₀ : List ℕ} {fault₀ : Option Refusal} {steps₀ : ℕ} {after : Option (List ℕ)} {row : List ℕ} {fault : Option Refusal} {steps : ℕ} (s : Surveying ws row₀ fault₀ steps₀ after row fault steps) where
    module _ (name : List ℕ) (t : Written FullName) (required : Bool) (sorted : IsStrictlySortedBy (slice_cmp nat_cmp) (labels ws)) (first : first_attribute (following after ws) ≡ Some (name, t, required)) where
      abbrev rest : WrittenAttributes FullName
      rest = following (Some name) ws

      -- the next was walked
      pub Surveying-next : (row' : List ℕ) (fault' : Option Refusal) (steps' : ℕ) → row' ≡ row ++ row_of names t → fault' ≡ option_or fault (first_of (faults_in t)) → steps' ≤ steps + nodes t → Surveying ws row₀ fault₀ steps₀ (Some name) row' fault' steps'
      Surveying-next row' fault' steps' row_is fault_is more = record {
        row_left =
            ap (λ r. r ++ attribute_row_of names rest) row_is
            ∙ append_assoc row (row_of names t) (attribute_row_of names rest)
            ∙ ap (λ l. row ++ l) (sym (filter_map-append (place_of names) (common_references t) (attribute_common_references rest)))
            ∙ ap (λ ws. row ++ attribute_row_of names ws) (sym (following-next after ws name t required sorted first))
            ∙ s.row_left;
        noting = Noting-next (is_among names) is_extension s.noting name t required sorted first fault' steps' fault_is more;
      }

      -- no more steps than those of the record, also where the walk stops in it
      pub Surveying-counts : (steps' : ℕ) → steps' ≤ steps + nodes t → steps' ≤ steps₀ + attribute_nodes ws
      Surveying-counts steps' more = Noting-counts (is_among names) is_extension s.noting name t required sorted first steps' more

      -- the part is smaller than the record, and less is left after it
      pub Surveying-part : nodes t ≤ attribute_nodes ws
      Surveying-part = Noting-part (is_among names) is_extension s.noting name t required sorted first

      pub Surveying-less : attribute_nodes rest < attribute_nodes (following after ws)
      Surveying-less = Noting-less (is_among names) is_extension s.noting name t required sorted first

    module _ (ended : first_attribute (following after ws) ≡ None) where
      pub Surveying-row : row ≡ row₀ ++ attribute_row_of names ws
      Surveying-row = sym (append-nil row) ∙ ap (λ ws. row ++ attribute_row_of names ws) (sym (following-end after ws ended)) ∙ s.row_left

      pub Surveying-fault : fault ≡ option_or fault₀ (first_of (attribute_faults_in ws))
      Surveying-fault = Noting-fault (is_among names) is_extension s.noting ended

    pub Surveying-steps : steps ≤ steps₀ + attribute_nodes ws
    Surveying-steps = Noting-steps (is_among names) is_extension s.noting

  -- the faults of definitions, in order
  abbrev pub all_faults : List (FullName × Written FullName) → List Refusal
  all_faults definitions = flat_map (λ e. faults_in e.1) definitions

  -- the definitions up to `left` were walked
  pub record Surveyed (definitions : List (FullName × Written FullName)) (fault₀ : Option Refusal) (steps₀ : ℕ) (left : List (FullName × Written FullName)) (rows : List (List ℕ)) (fault : Option Refusal) (steps : ℕ) : Type 0 where
    pub rows_left : rows ++ written_rows names left ≡ written_rows names definitions
    pub fault_left : option_or fault (first_of (all_faults left)) ≡ option_or fault₀ (first_of (all_faults definitions))
    pub steps_left : steps + all_nodes left ≤ steps₀ + all_nodes definitions

  pub Surveyed-start : (definitions : List (FullName × Written FullName)) (fault : Option Refusal) (steps : ℕ) → Surveyed definitions fault steps definitions [] fault steps
  Surveyed-start definitions fault steps = record { rows_left = refl; fault_left = refl; steps_left = omega arith }

  module _ {definitions : List (FullName × Written FullName)} {fault₀ : Option Refusal} {steps₀ : ℕ} {left : List (FullName × Written FullName)} {rows : List (List ℕ)} {fault : Option Refusal} {steps : ℕ} (s : Surveyed definitions fault₀ steps₀ left rows fault steps) where
    module _ (name : FullName) (t : Written FullName) (rest : List (FullName × Written FullName)) (first : left ≡ (name, t) ∷ rest) where
      split : all_nodes left ≡ nodes t + all_nodes rest
      split = ap all_nodes first ∙ sum_by-cons (λ e. nodes e.1) (name, t) rest

      pub Surveyed-next : (rows' : List (List ℕ)) (row : List ℕ) (fault' : Option Refusal) (steps' : ℕ) → rows' ≡ rows ++ row ∷ [] → row ≡ row_of names t → fault' ≡ option_or fault (first_of (faults_in t)) → steps' ≤ steps + nodes t → Surveyed definitions fault₀ steps₀ rest rows' fault' steps'
      Surveyed-next rows' row fault' steps' rows_are row_is fault_is more = record {
        rows_left =
            ap (λ r. r ++ written_rows names rest) rows_are
            ∙ append_assoc rows (row ∷ []) (written_rows names rest)
            ∙ ap (λ r. rows ++ r ∷ written_rows names rest) row_is
            ∙ ap (λ l. rows ++ written_rows names l) (sym first)
            ∙ s.rows_left;
        fault_left =
            ap (λ f. option_or f (first_of (all_faults rest))) fault_is
            ∙ or-assoc fault (first_of (faults_in t)) (first_of (all_faults rest))
            ∙ ap (option_or fault) (sym (first-append (faults_in t) (all_faults rest)))
            ∙ ap (λ l. option_or fault (first_of (all_faults l))) (sym first)
            ∙ s.fault_left;
        steps_left = omega (arith, split, more, s.steps_left);
      }

      pub Surveyed-counts : (steps' : ℕ) → steps' ≤ steps + nodes t → steps' ≤ steps₀ + all_nodes definitions
      Surveyed-counts steps' more = omega (arith, split, more, s.steps_left)

    module _ (ended : left ≡ []) where
      pub Surveyed-rows : rows ≡ written_rows names definitions
      Surveyed-rows = sym (append-nil rows) ∙ ap (λ l. rows ++ written_rows names l) (sym ended) ∙ s.rows_left

      pub Surveyed-fault : fault ≡ option_or fault₀ (first_of (all_faults definitions))
      Surveyed-fault = sym (or-None fault) ∙ ap (λ l. option_or fault (first_of (all_faults l))) (sym ended) ∙ s.fault_left

    pub Surveyed-steps : steps ≤ steps₀ + all_nodes definitions
    Surveyed-steps = omega (arith, s.steps_left)
