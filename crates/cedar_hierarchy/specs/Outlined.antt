-- SPDX-License-Identifier: Apache-2.0
-- What descends from what, among the outlines of entity types and of actions.
use Rattle.std.specs.Prelude.{List}
use Rattle.cedar_closure.specs.Chains.{Reaches}
use Rattle.cedar_outlines.specs.of_declared.Names.{Names, action_target, target}
use Rattle.cedar_hierarchy.specs.Members.{IsMember}
use Rattle.cedar_names.specs.Order.{words_cmp}
use Rattle.cedar_schema_error.specs.FullNames.{FullName, Uid, uid_cmp}
use Rattle.cedar_outlines.specs.Outlines.{ActionParts, EntityParts}

module _ (names : Names) (os : List (FullName × EntityParts)) where
  -- an entity type, and the target of one of its parents
  abbrev pub OutlineMember : FullName → FullName → Type 0
  OutlineMember name parent = IsMember words_cmp (target names) (λ (p : EntityParts). p.parents) os name parent

  -- an entity type descends from another: a chain of one or more memberships leads up to it
  abbrev pub OutlineDescends : FullName → FullName → Type 0
  OutlineDescends high low = Reaches OutlineMember low high

module _ (names : Names) (os : List (Uid × ActionParts)) where
  -- an action, and the target of one of its parents
  abbrev pub ActionOutlineMember : Uid → Uid → Type 0
  ActionOutlineMember uid parent = IsMember uid_cmp (action_target names) (λ (p : ActionParts). p.parents) os uid parent

  -- the same of actions
  abbrev pub ActionOutlineDescends : Uid → Uid → Type 0
  ActionOutlineDescends high low = Reaches ActionOutlineMember low high
