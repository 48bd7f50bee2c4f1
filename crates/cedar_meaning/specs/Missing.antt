-- SPDX-License-Identifier: Apache-2.0
-- What namespaces refer to in vain, and what they refer to that no one may refer to.
use Rattle.std.specs.Prelude.{◌++◌, List, [], ◌∷◌, map}
use Rattle.std.specs.List.{filter, filter_map, flat_map}
use Rattle.cedar_declared.specs.Names.{Names, action_target, targets, undefined, undefined_actions}
use Rattle.cedar_names.specs.Components.{has_cedar}
use Rattle.cedar_unfolding.specs.of_schema_error.FullNames.{FullName}
use Rattle.cedar_unfolding.specs.of_schema_error.NameReferences.{ActionReference, NameReference}
use Rattle.cedar_unfolding.specs.Written.{Written, references}
use Rattle.cedar_meaning.specs.Definitions.{ActionDefinition, EntityDefinition, Namespace, parents_of, shape_of, tags_of}

-- the first list, or the second where the first is empty
abbrev pub or_else : {A : Type 0} → List A → List A → List A
or_else [] ys = ys
or_else (x ∷ xs) ys = x ∷ xs

-- the first of a list, alone
abbrev pub first_alone : {A : Type 0} → List A → List A
first_alone [] = []
first_alone (x ∷ xs) = x ∷ []

module _ (names : Names) where
  -- the first reference of a type that has no target
  abbrev pub missing_in : Written NameReference → List NameReference
  missing_in t = first_alone (undefined names (references t))

  -- of an entity type: all such parents; where there are none, the first of its shape and the first of its tags
  abbrev pub missing_in_entity : EntityDefinition NameReference → List NameReference
  missing_in_entity e = or_else (undefined names (parents_of e)) (flat_map missing_in (shape_of e) ++ flat_map missing_in (tags_of e))

  -- of an action: the first of its context; where there is none, all such principals, and then all such resources
  abbrev pub missing_in_action : ActionDefinition NameReference ActionReference → List NameReference
  missing_in_action a = or_else (missing_in a.context) (undefined names a.principals ++ undefined names a.resources)

  -- of a namespace: its common types, its entity types, its actions, each in order
  abbrev pub missing_in_namespace : Namespace → List NameReference
  missing_in_namespace ns =
      flat_map (λ c. missing_in c.1) ns.common_types ++ flat_map (λ e. missing_in_entity e.1) ns.entity_types ++ flat_map (λ a. missing_in_action a.1) ns.actions

  -- of namespaces, in order
  abbrev pub missing_types : List Namespace → List NameReference
  missing_types all = flat_map missing_in_namespace all

  -- the parents of actions that are no declared actions
  abbrev pub missing_actions : List Namespace → List ActionReference
  missing_actions all = flat_map (λ ns. flat_map (λ a. undefined_actions names a.1.parents) ns.actions) all

  -- the types of the actions that these references mean
  abbrev pub parent_types : List ActionReference → List FullName
  parent_types rs = map (λ uid. uid.ty) (filter_map (action_target names) rs)

  -- what the parents of an entity type mean
  abbrev pub entity_memberships : EntityDefinition NameReference → List FullName
  entity_memberships e = targets names (parents_of e)

  -- what the principals, the resources and the parents of an action mean
  abbrev pub action_memberships : ActionDefinition NameReference ActionReference → List FullName
  action_memberships a = targets names a.principals ++ targets names a.resources ++ parent_types a.parents

  -- both, of a namespace
  abbrev pub memberships : Namespace → List FullName
  memberships ns = flat_map (λ e. entity_memberships e.1) ns.entity_types ++ flat_map (λ a. action_memberships a.1) ns.actions

  -- those that have `__cedar`
  abbrev pub reserved_targets : List Namespace → List FullName
  reserved_targets all = filter has_cedar (flat_map memberships all)
