-- SPDX-License-Identifier: Apache-2.0
-- Loops over the actions of a namespace.
use Rattle.std.proofs.Common.{◌≡◌, ℕ, List, [], ◌∷◌, Option, Some, map, ap, ◌∙◌}
use Rattle.std.proofs.lemmas.Cmp.{nat_list_cmp_total}
use Rattle.std.specs.BTreeMap.{insert_entry}
use Rattle.std.specs.Cmp.{IsTotalOrder, on_total, then_total}
use Rattle.cedar_data.specs.Maps.{IsSortedMap}
use Rattle.cedar_names.specs.Components.{components}
use Rattle.cedar_names.specs.Order.{word_cmp}
use Rattle.cedar_names.specs.OrderLaws.{words-total}
use Rattle.cedar_names.specs.declared.entity_uid.EntityUID.{EntityUID}
use Rattle.cedar_names.specs.declared.internal_name.InternalName.{InternalName}
use Rattle.cedar_text.specs.declared.location.Loc.{Loc}
use Rattle.cedar_written.specs.declared.conditional_name.ConditionalName.{ConditionalName}
use Rattle.cedar_written.specs.declared.raw_name.RawName.{RawName}
use Rattle.cedar_fragment.specs.ActionUids.{over_conditional, over_raw}
use Rattle.cedar_fragment.specs.declared.definitions.ActionType.{ActionType}
use Rattle.cedar_schema_error.specs.FullNames.{Uid, uid_in}
use Rattle.cedar_definitions.specs.declared.structures.ActionFragment.{ActionFragment}
use Rattle.cedar_namespace_definitions.specs.Definitions.{action_in, with_keys}
use Rattle.cedar_namespace_definitions.specs.Faults.{action_uid_in}
use Rattle.cedar_namespace_definitions.specs.NamesIn.{ActionKey, action_at, action_key, action_key_cmp}
use Rattle.cedar_namespace_definitions.proofs.Defines.{Defines, Defines-start, Defines-next, Defines-end, one_entry}
use Rattle.cedar_namespace_definitions.proofs.NameOrders.{actions_in_order}
use Rattle.cedar_namespace_definitions.proofs.Sorting.{entry}

-- an action, as refusals tell it
abbrev told_key : ActionKey → Uid
told_key k = record { ty = components k.ty; id = k.id }

pub uid_is : (ns : Option InternalName) (id : List ℕ) (loc : Option Loc) (uid : EntityUID) → action_key uid ≡ action_at ns id loc → uid_in uid ≡ action_uid_in ns id
uid_is ns id loc uid is = ap told_key is

pub ruleset ids = (uid_is)

keys_total : IsTotalOrder action_key_cmp
keys_total = then_total (words-total (λ (k : ActionKey). components k.ty)) (on_total (λ (k : ActionKey). k.id) nat_list_cmp_total)

module _ (ns : Option InternalName) where
  -- of the actions of a namespace, those before `left` are defined
  pub record Actions (whole left : List (List ℕ × ActionType RawName over_raw)) (made : List (EntityUID × ActionFragment ConditionalName ConditionalName over_conditional)) : Type 0 where
    pub defs : Defines action_key_cmp action_key (entry action_key_cmp (λ a. (action_in ns a).0) (λ a. Some (action_in ns a).1)) whole left made

  pub Actions-start : (whole left : List (List ℕ × ActionType RawName over_raw)) (made : List (EntityUID × ActionFragment ConditionalName ConditionalName over_conditional)) → left ≡ whole → made ≡ [] → Actions whole left made
  Actions-start whole left made all none = record {
    defs = Defines-start action_key_cmp action_key (entry action_key_cmp (λ a. (action_in ns a).0) (λ a. Some (action_in ns a).1)) whole left made all none;
  }

  pub Actions-next : {whole left rest : List (List ℕ × ActionType RawName over_raw)} {made more : List (EntityUID × ActionFragment ConditionalName ConditionalName over_conditional)} (item : List ℕ × ActionType RawName over_raw)
      → Actions whole left made → left ≡ item ∷ rest → with_keys action_key more ≡ insert_entry action_key_cmp (with_keys action_key made) (action_in ns item).0 (action_in ns item).1 → Actions whole rest more
  Actions-next item sofar first put = record { defs = Defines-next item sofar.defs first put }

  pub Actions-end : {whole left : List (List ℕ × ActionType RawName over_raw)} {made : List (EntityUID × ActionFragment ConditionalName ConditionalName over_conditional)} → Actions whole left made → left ≡ [] → IsSortedMap word_cmp whole → with_keys action_key made ≡ map (action_in ns) whole
  Actions-end {whole} sofar none sorted =
      Defines-end keys_total word_cmp (λ a. (action_in ns a).0) (λ a. Some (action_in ns a).1) (λ x y. actions_in_order ns x.0 y.0 x.1.loc y.1.loc) sofar.defs none sorted
      ∙ one_entry (λ a. (action_in ns a).0) (λ a. (action_in ns a).1) whole

pub ruleset actions = (Actions-start, Actions-next, Actions-end)
