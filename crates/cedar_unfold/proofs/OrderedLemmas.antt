-- SPDX-License-Identifier: Apache-2.0
-- From rows and the first fault to what is asked of definitions, or why they are refused.
use Rattle.std.proofs.Common.{◌≡◌, ℕ, inl, inr, Bool, List, [], Option, Some, None, get_or, sym, ap, ◌∙◌, subst}
use Rattle.std.specs.List.{flat_map}
use Rattle.std.specs.List.Sorted.{IsStrictlySortedBy}
use Rattle.std.specs.Map.{keys_of}
use Rattle.cedar_types.specs.of_closure.Chains.{Reaches}
use Rattle.cedar_types.specs.of_closure.Marks.{Leads, LeadWithin}
use Rattle.cedar_names.specs.Extensions.{extension_words}
use Rattle.cedar_names.specs.Names.{internal_cmp}
use Rattle.cedar_names.specs.Order.{words_cmp}
use Rattle.cedar_names.specs.declared.extensions.Extensions.{Extensions}
use Rattle.cedar_names.specs.declared.internal_name.InternalName.{InternalName}
use Rattle.cedar_schema_error.specs.FullNames.{FullName}
use Rattle.cedar_schema_error.specs.Refusals.{Refusal, CycleInCommonTypeReferences}
use Rattle.cedar_sorting.specs.Orders.{IsLeastOnCycle, Sorts}
use Rattle.cedar_sorting.specs.declared.sort.Sorting.{Sorting}
use Rattle.cedar_sorting.specs.declared.sort.Sorting.TheVariants.{Order, Cycle}
use Rattle.cedar_names.specs.of_text.Words.{has_word}
use Rattle.cedar_unfolding.specs.Faults.{faults, faults_by}
use Rattle.cedar_unfold.specs.Following.{first_of}
use Rattle.cedar_unfold.specs.Full.{meanings_of}
use Rattle.cedar_unfolding.specs.Meanings.{Meanings}
use Rattle.cedar_unfold.specs.Passing.{DefinitionsPass, DefinitionsRefuse, TellsSorting}
use Rattle.cedar_unfold.specs.Rows.{definition_rows, written_rows}
use Rattle.cedar_unfold.specs.Tables.{by_name, is_among, names_of}
use Rattle.cedar_unfolding.specs.Written.{Written}
use Rattle.cedar_unfold.proofs.Cycling.{none_circular, least_circular}
use Rattle.cedar_unfold.proofs.FillSteps.{names-in_order, names-same}
use Rattle.cedar_unfold.proofs.Positions.{rows_within}
use Rattle.cedar_unfold.proofs.Ready.{known-same}
use Rattle.cedar_unfold.proofs.Whole.{first-refused, none-refused}

module _ {V : Type 0} (w : V → Written FullName) (defs : List (InternalName × V)) (keys : List InternalName) (is_keys : keys ≡ keys_of defs) (sorted : IsStrictlySortedBy internal_cmp keys) (extensions : Extensions) where
  abbrev definitions : List (FullName × Written FullName)
  definitions = by_name w defs

  abbrev m : Meanings FullName
  m = meanings_of definitions extensions

  abbrev is_extension : List ℕ → Bool
  is_extension = has_word (extension_words extensions)

  in_order : IsStrictlySortedBy words_cmp (keys_of definitions)
  in_order = names-in_order w defs keys is_keys sorted

  module _ (rows : List (List ℕ)) (rows_are : rows ≡ written_rows (names_of keys) definitions) where
    pub rows-same : rows ≡ definition_rows definitions
    rows-same = rows_are ∙ ap (λ names. written_rows names definitions) (names-same w defs keys is_keys)

    pub rows-lead : LeadWithin rows
    rows-lead = subst LeadWithin (sym rows-same) (rows_within definitions)

    module _ (fault : Option Refusal) (first : fault ≡ first_of (flat_map (λ e. faults_by Some (is_among (names_of keys)) is_extension e.1) definitions)) where
      first-same : fault ≡ first_of (flat_map (λ c. faults m c.1) definitions)
      first-same =
          first
          ∙ ap (λ names. first_of (flat_map (λ e. faults_by Some (is_among names) is_extension e.1) definitions)) (names-same w defs keys is_keys)
          ∙ ap (λ known. first_of (flat_map (λ e. faults_by Some known is_extension e.1) definitions)) (known-same definitions is_extension in_order)

      pub definitions-pass : ((i : ℕ) → Reaches (Leads rows) i i → ⊥) → fault ≡ None → DefinitionsPass definitions extensions
      definitions-pass acyclic none =
          (none_circular definitions is_extension in_order (subst (λ rs. (i : ℕ) → Reaches (Leads rs) i i → ⊥) rows-same acyclic), none-refused m definitions (sym none ∙ first-same))

      pub definitions-refuse : (sorting : Sorting) → Sorts rows sorting → (e : Refusal) → TellsSorting (names_of keys) sorting fault e → DefinitionsRefuse definitions extensions e
      definitions-refuse (Order order) sorts e is =
          inr (none_circular definitions is_extension in_order (subst (λ rs. (i : ℕ) → Reaches (Leads rs) i i → ⊥) rows-same sorts.1), first-refused m definitions e (sym is ∙ first-same))
      definitions-refuse (Cycle least) sorts e is =
          inl (get_or (keys_of definitions) least [], is ∙ ap (λ names. CycleInCommonTypeReferences (get_or names least [])) (names-same w defs keys is_keys), least_circular definitions is_extension in_order least (subst (λ rs. IsLeastOnCycle rs least) rows-same sorts))
