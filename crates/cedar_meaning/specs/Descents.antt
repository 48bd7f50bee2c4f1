-- SPDX-License-Identifier: Apache-2.0
-- What descends from what.
use Rattle.std.specs.Prelude.{◌≡◌, Some}
use Rattle.cedar_unfolding.specs.of_closure.Chains.{Reaches}
use Rattle.cedar_data.specs.Firsts.{SomePasses}
use Rattle.cedar_data.specs.Maps.{get}
use Rattle.cedar_declared.specs.Names.{action_target, target}
use Rattle.cedar_names.specs.Order.{words_cmp}
use Rattle.cedar_unfolding.specs.of_schema_error.FullNames.{FullName, Uid, uid_cmp}
use Rattle.cedar_unfolding.specs.of_schema_error.NameReferences.{ActionReference, NameReference}
use Rattle.cedar_meaning.specs.Definitions.{ActionDefinition, EntityDefinition, parents_of}
use Rattle.cedar_meaning.specs.Worlds.{World, actions, entity_types, names}

module _ (W : World) where
  -- an entity type, and the target of one of its parents
  pub record Member (name parent : FullName) : Type 0 where
    pub definition : EntityDefinition NameReference
    pub declared : get words_cmp (entity_types W) name ≡ Some definition
    pub targeted : SomePasses (λ r. target (names W) r ≡ Some parent) (parents_of definition)

  -- an action, and the target of one of its parents
  pub record ActionMember (uid parent : Uid) : Type 0 where
    pub definition : ActionDefinition NameReference ActionReference
    pub declared : get uid_cmp (actions W) uid ≡ Some definition
    pub targeted : SomePasses (λ r. action_target (names W) r ≡ Some parent) definition.parents

  -- an entity type descends from another: a chain of one or more memberships leads up to it
  abbrev pub DescendsFrom : FullName → FullName → Type 0
  DescendsFrom high low = Reaches Member low high

  -- the same of actions
  abbrev pub ActionDescendsFrom : Uid → Uid → Type 0
  ActionDescendsFrom high low = Reaches ActionMember low high
