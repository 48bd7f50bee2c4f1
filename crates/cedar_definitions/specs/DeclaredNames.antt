-- SPDX-License-Identifier: Apache-2.0
-- The names that definitions declare, as they are kept, places and all.
use Rattle.std.specs.Prelude.{◌++◌, List, map}
use Rattle.std.specs.List.{flat_map}
use Rattle.cedar_definitions.specs.declared.structures.ValidatorNamespaceDef.{ValidatorNamespaceDef}
use Rattle.cedar_names.specs.Names.{internal_of, name_of}
use Rattle.cedar_names.specs.declared.entity_uid.EntityUID.{EntityUID}
use Rattle.cedar_names.specs.declared.internal_name.InternalName.{InternalName}
use Rattle.cedar_written.specs.declared.ref_name.RefName as ref_name

module _ {N A : Type 0} {R : ref_name.Ghosts N} where
  -- those of a definition: common types and entity types
  abbrev pub types_of : ValidatorNamespaceDef N A R → List InternalName
  types_of d = map (λ e. e.0) d.common_types.defs ++ map (λ e. internal_of (name_of e.0)) d.entity_types.defs

  -- and actions
  abbrev pub actions_of : ValidatorNamespaceDef N A R → List EntityUID
  actions_of d = map (λ e. e.0) d.actions.actions

  -- those of definitions
  abbrev pub all_types : List (ValidatorNamespaceDef N A R) → List InternalName
  all_types ds = flat_map types_of ds

  abbrev pub all_actions : List (ValidatorNamespaceDef N A R) → List EntityUID
  all_actions ds = flat_map actions_of ds
