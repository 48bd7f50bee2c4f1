-- SPDX-License-Identifier: Apache-2.0
-- The first declaration that stands a second time.
use Rattle.std.specs.Prelude.{◌≡◌, ◌++◌, Bool, false, List, [], map}
use Rattle.std.specs.BTreeMap.{is_at}
use Rattle.std.specs.List.{flat_map}
use Rattle.cedar_data.specs.Firsts.{FirstAgain, NoneAgain}
use Rattle.cedar_names.specs.Components.{components}
use Rattle.cedar_names.specs.Names.{entity_words}
use Rattle.cedar_names.specs.Order.{words_cmp}
use Rattle.cedar_written.specs.declared.ref_name.RefName as ref_name
use Rattle.cedar_schema_error.specs.FullNames.{FullName, Uid, uid_cmp, uid_in}
use Rattle.cedar_schema_error.specs.Refusals.{Refusal, DuplicateAction, DuplicateCommonType, DuplicateEntityType}
use Rattle.cedar_definitions.specs.declared.structures.ValidatorNamespaceDef.{ValidatorNamespaceDef}

-- what is declared
pub data Declared : Type 0 where
  CommonType : FullName → Declared
  EntityType : FullName → Declared
  Action : Uid → Declared

-- whether two are one name of one kind
abbrev pub same_declared : Declared → Declared → Bool
same_declared (CommonType a) (CommonType b) = is_at (words_cmp b) a
same_declared (EntityType a) (EntityType b) = is_at (words_cmp b) a
same_declared (Action a) (Action b) = is_at (uid_cmp b) a
same_declared a b = false

-- the refusal of what stands twice
abbrev pub duplicate : Declared → Refusal
duplicate (CommonType name) = DuplicateCommonType name
duplicate (EntityType name) = DuplicateEntityType name
duplicate (Action uid) = DuplicateAction uid

module _ {N A : Type 0} {R : ref_name.Ghosts N} where
  -- what a definition declares: common types, entity types, actions, each in order
  abbrev pub declared_in : ValidatorNamespaceDef N A R → List Declared
  declared_in d =
      map (λ e. CommonType (components e.0)) d.common_types.defs
      ++ (map (λ e. EntityType (entity_words e.0)) d.entity_types.defs ++ map (λ e. Action (uid_in e.0)) d.actions.actions)

  -- what definitions declare, in order
  abbrev pub all_declared : List (ValidatorNamespaceDef N A R) → List Declared
  all_declared ds = flat_map declared_in ds

  -- nothing stands twice
  abbrev pub AreOnce : List (ValidatorNamespaceDef N A R) → Type 0
  AreOnce ds = NoneAgain same_declared [] (all_declared ds)

  -- the refusal is that of the first that stands a second time
  abbrev pub IsTwice : List (ValidatorNamespaceDef N A R) → Refusal → Type 0
  IsTwice ds e = (d : Declared) × (e ≡ duplicate d) × FirstAgain same_declared [] (all_declared ds) d
