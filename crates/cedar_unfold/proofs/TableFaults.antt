-- SPDX-License-Identifier: Apache-2.0
-- The faults of a name by what a table has of it.
use Rattle.std.proofs.Common.{◌≡◌, ℕ, Bool, true, false, List, [], Option, Some, None, Result, Ok, Err, sym, ap, ◌∙◌}
use Rattle.std.specs.Option.{is_some, option_or}
use Rattle.std.specs.Result.{OnOk}
use Rattle.cedar_data.specs.Maps.{get}
use Rattle.cedar_names.specs.Components.{components}
use Rattle.cedar_names.specs.Names.{internal_cmp}
use Rattle.cedar_names.specs.declared.internal_name.InternalName.{InternalName}
use Rattle.cedar_schema_error.specs.FullNames.{FullName}
use Rattle.cedar_schema_error.specs.Refusals.{Refusal, CommonTypeInvariantViolation}
use Rattle.cedar_unfolding.specs.Faults.{common_fault, either_fault, entity_fault, faults_by}
use Rattle.cedar_unfold.specs.Following.{first_of}
use Rattle.cedar_unfold.specs.Tables.{is_tabled, tabled}
use Rattle.cedar_unfolding.specs.Written.{Written, EntityOrCommon, CommonTypeRef}
use Rattle.cedar_unfold.specs.declared.nested.Nested.{Nested}
use Rattle.cedar_unfold.proofs.NameTables.{table_has}
use Rattle.cedar_unfold.proofs.Noting.{or-None}

module _ (table : List (InternalName × Option Nested)) (is_extension : List ℕ → Bool) (name : InternalName) (t : Written FullName) where
  abbrev faults_here : List Refusal
  faults_here = faults_by Some (is_tabled (tabled table)) is_extension t

  -- what is kept where no fault stands here, and where these do
  keeps : {X Y : Type 0} (r : Result X Y) (fault : Option Refusal) → faults_here ≡ [] → OnOk r (fault ≡ option_or fault (first_of faults_here))
  keeps (Ok x) fault none = sym (or-None fault) ∙ ap (λ fs. option_or fault (first_of fs)) (sym none)
  keeps (Err e) fault none = tt

  notes : {X Y : Type 0} (r : Result X Y) (old new : Option Refusal) (fs : List Refusal) → faults_here ≡ fs → OnOk r (new ≡ option_or old (first_of fs)) → OnOk r (new ≡ option_or old (first_of faults_here))
  notes (Ok x) old new fs these is = is ∙ ap (λ fs. option_or old (first_of fs)) (sym these)
  notes (Err e) old new fs these is = tt

  module _ (found : Option Nested) (has : Some found ≡ get internal_cmp table name) where
    is_there : is_tabled (tabled table) (components name) ≡ true
    is_there = ap is_some (table_has table name (Some found) has)

    -- a name that the table has is no fault
    pub either-known : {X Y : Type 0} (r : Result X Y) (fault : Option Refusal) → t ≡ EntityOrCommon (components name) → OnOk r (fault ≡ option_or fault (first_of faults_here))
    either-known r fault head = keeps r fault (ap (faults_by Some (is_tabled (tabled table)) is_extension) head ∙ ap (λ b. either_fault b (components name)) is_there)

    pub common-known : {X Y : Type 0} (r : Result X Y) (fault : Option Refusal) → t ≡ CommonTypeRef (components name) → OnOk r (fault ≡ option_or fault (first_of faults_here))
    common-known r fault head = keeps r fault (ap (faults_by Some (is_tabled (tabled table)) is_extension) head ∙ ap (λ b. common_fault b (components name)) is_there)

  module _ (lacks : None ≡ get internal_cmp table name) where
    is_absent : is_tabled (tabled table) (components name) ≡ false
    is_absent = ap is_some (table_has table name None lacks)

    -- another is that of an entity type
    pub either-unknown : {X Y : Type 0} (r : Result X Y) (old new : Option Refusal) → t ≡ EntityOrCommon (components name) → OnOk r (new ≡ option_or old (first_of (entity_fault (components name)))) → OnOk r (new ≡ option_or old (first_of faults_here))
    either-unknown r old new head is = notes r old new (entity_fault (components name)) (ap (faults_by Some (is_tabled (tabled table)) is_extension) head ∙ ap (λ b. either_fault b (components name)) is_absent) is

    -- or that of no common type
    pub common-unknown : (old new : Option Refusal) → t ≡ CommonTypeRef (components name) → new ≡ option_or old (Some (CommonTypeInvariantViolation (components name))) → new ≡ option_or old (first_of faults_here)
    common-unknown old new head is = is ∙ ap (λ fs. option_or old (first_of fs)) (sym (ap (faults_by Some (is_tabled (tabled table)) is_extension) head ∙ ap (λ b. common_fault b (components name)) is_absent))
