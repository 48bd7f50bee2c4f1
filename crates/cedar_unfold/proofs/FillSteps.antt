-- SPDX-License-Identifier: Apache-2.0
-- The definition and the name at a step of the loop that finishes the common types.
use Rattle.std.proofs.Common.{◌≡◌, ◌<◌, ℕ, None, Some, List, [], length, get_or, option_map, sym, ap, ◌∙◌, subst, arith}
use Rattle.std.proofs.lemmas.List.{get_or-map, length-map}
use Rattle.std.proofs.lemmas.Option.{none-some}
use Rattle.std.specs.List.Sorted.{IsStrictlySortedBy}
use Rattle.std.specs.Map.{keys_of}
use Rattle.cedar_data.specs.Maps.{get}
use Rattle.cedar_names.specs.Components.{components}
use Rattle.cedar_names.specs.Names.{internal_cmp}
use Rattle.cedar_names.specs.Order.{words_cmp}
use Rattle.cedar_names.specs.declared.internal_name.InternalName.{InternalName}
use Rattle.cedar_schema_error.specs.FullNames.{FullName}
use Rattle.cedar_sorting.specs.Orders.{IsOrder}
use Rattle.cedar_unfold.specs.Full.{nodes_at}
use Rattle.cedar_unfold.specs.Rows.{definition_rows}
use Rattle.cedar_unfold.specs.Tables.{by_name, names_of}
use Rattle.cedar_unfolding.specs.Written.{Written, nodes}
use Rattle.cedar_unfold.proofs.FollowingLemmas.{same_inside}
use Rattle.cedar_unfold.proofs.NameTables.{get-by_name, keys_of-by_name, names-sorted}
use Rattle.cedar_unfold.proofs.Positions.{value_at, length_names, length_rows, no_definition}

module _ {V : Type 0} (w : V → Written FullName) (defs : List (InternalName × V)) (keys : List InternalName) (is_keys : keys ≡ keys_of defs) where
  abbrev definitions : List (FullName × Written FullName)
  definitions = by_name w defs

  pub names-same : names_of keys ≡ keys_of definitions
  names-same = ap names_of is_keys ∙ sym (keys_of-by_name w defs)

  pub names-in_order : IsStrictlySortedBy internal_cmp keys → IsStrictlySortedBy words_cmp (keys_of definitions)
  names-in_order sorted = subst (IsStrictlySortedBy words_cmp) names-same (names-sorted keys sorted)

  module _ {order : List ℕ} (ordered : IsOrder (definition_rows definitions) order) (k : ℕ) (inside : k < length order) where
    below : get_or order k 0 < length definitions
    below = subst (λ n. get_or order k 0 < n) (length_rows definitions (keys_of definitions)) (ordered.within k 0 inside)

    below_names : get_or order k 0 < length (keys_of definitions)
    below_names = omega (arith, below, length_names definitions)

    below_keys : get_or order k 0 < length keys
    below_keys =
        let same = ap length names-same in
        let long = length-map keys components in
        omega (arith, below_names, same, long)

    module _ (key : InternalName) (read : key ≡ get_or keys (get_or order k 0) key) where
      -- the name at the position
      pub key-is : components key ≡ get_or (keys_of definitions) (get_or order k 0) []
      key-is = ap components read ∙ sym (get_or-map components keys (get_or order k 0) key [] below_keys) ∙ ap (λ ks. get_or ks (get_or order k 0) []) names-same

      module _ (sorted : IsStrictlySortedBy internal_cmp keys) where
        here : get words_cmp definitions (components key) ≡ Some (get_or definitions (get_or order k 0) no_definition).1
        here = ap (get words_cmp definitions) key-is ∙ value_at definitions (names-in_order sorted) (get_or order k 0) below_names

        -- it is defined
        pub key-defined : None ≡ get internal_cmp defs key → ⊥
        key-defined missing = none-some (get_or definitions (get_or order k 0) no_definition).1 (sym (get-by_name w defs key ∙ ap (option_map w) (sym missing)) ∙ here)

        module _ (ty : V) (found : Some ty ≡ get internal_cmp defs key) where
          pub definition-is : get words_cmp definitions (components key) ≡ Some (w ty)
          definition-is = get-by_name w defs key ∙ ap (option_map w) (sym found)

          -- how many types are written in its definition
          pub nodes-here : nodes_at definitions (get_or order k 0) ≡ nodes (w ty)
          nodes-here = get_or-map (λ c. nodes c.1) definitions (get_or order k 0) no_definition 0 below ∙ ap nodes (same_inside (get_or definitions (get_or order k 0) no_definition).1 (w ty) (sym here ∙ definition-is))
