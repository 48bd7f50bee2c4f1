-- SPDX-License-Identifier: Apache-2.0
-- The names that are declared, and the targets of references among them.
use Rattle.std.specs.Prelude.{◌≡◌, ◌||◌, Bool, List, map, Option}
use Rattle.std.specs.List.{find, filter, filter_map}
use Rattle.std.specs.Option.{is_none}
use Rattle.cedar_data.specs.Sets.{contains}
use Rattle.cedar_names.specs.Components.{components}
use Rattle.cedar_names.specs.Order.{words_cmp}
use Rattle.cedar_names.specs.declared.entity_uid.EntityUID.{EntityUID}
use Rattle.cedar_names.specs.declared.internal_name.InternalName.{InternalName}
use Rattle.cedar_written.specs.declared.reference_type.ReferenceType.{ReferenceType}
use Rattle.cedar_written.specs.declared.reference_type.ReferenceType.TheVariants.{Common, Entity, CommonOrEntity}
use Rattle.cedar_schema_error.specs.FullNames.{FullName, Uid, uid_cmp, uid_in}
use Rattle.cedar_schema_error.specs.NameReferences.{NameReference, ActionReference}

-- the declared names, of each kind
pub record Names : Type 0 where
  pub entity_types : List FullName
  pub common_types : List FullName
  pub actions : List Uid

module _ (names : Names) where
  -- whether a name is declared as an entity type
  abbrev pub is_entity : FullName → Bool
  is_entity name = contains words_cmp names.entity_types name

  -- whether a name is declared as a common type
  abbrev pub is_common : FullName → Bool
  is_common name = contains words_cmp names.common_types name

  -- whether an action is declared
  abbrev pub is_action : Uid → Bool
  is_action uid = contains uid_cmp names.actions uid

  -- whether a name is declared as what a kind allows
  abbrev pub is_declared : ReferenceType → FullName → Bool
  is_declared Common name = is_common name
  is_declared Entity name = is_entity name
  is_declared CommonOrEntity name = is_common name || is_entity name

  -- the target of a reference: the first name that it may stand for and that is declared as what it may be
  abbrev pub target : NameReference → Option FullName
  target r = find (is_declared r.kind) r.possibilities

  -- the target of a reference to an action: the first id that it may stand for and that is a declared action
  abbrev pub action_target : ActionReference → Option Uid
  action_target r = find is_action (map (λ name. record { ty = name; id = r.id }) r.ty.possibilities)

  -- the targets of references
  abbrev pub targets : List NameReference → List FullName
  targets rs = filter_map target rs

  -- the references without target
  abbrev pub undefined : List NameReference → List NameReference
  undefined rs = filter (λ r. is_none (target r)) rs

  -- the references to actions without target
  abbrev pub undefined_actions : List ActionReference → List ActionReference
  undefined_actions rs = filter (λ r. is_none (action_target r)) rs

-- the same names are declared, as far as a name of a schema can tell
pub record SameNames (a b : Names) : Type 0 where
  pub entity : (name : InternalName) → is_entity a (components name) ≡ is_entity b (components name)
  pub common : (name : InternalName) → is_common a (components name) ≡ is_common b (components name)
  pub action : (uid : EntityUID) → is_action a (uid_in uid) ≡ is_action b (uid_in uid)
