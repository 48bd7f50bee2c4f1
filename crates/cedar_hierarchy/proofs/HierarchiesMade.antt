-- SPDX-License-Identifier: Apache-2.0
-- Entity types and actions after their closure.
use Rattle.std.proofs.Common.{◌≡◌, List, [], map, sym, ap, ◌∙◌, subst}
use Rattle.std.specs.List.{AllZip, filter_map}
use Rattle.cedar_closure.specs.Chains.{Reaches}
use Rattle.cedar_closure.specs.Closure.{IsClosure, IsLeastOnCycle}
use Rattle.cedar_closure.specs.Closure as closure
use Rattle.cedar_data.specs.Firsts.{IsLeast}
use Rattle.cedar_data.specs.Maps.{IsSortedMap}
use Rattle.cedar_data.specs.Sets.{contains, IsSetOf}
use Rattle.cedar_outlines.specs.of_declared.Names.{Names, action_target, target}
use Rattle.cedar_hierarchy.specs.Children.{has_parent, is_child}
use Rattle.cedar_hierarchy.specs.Made.{MakesAction, MakesEntity}
use Rattle.cedar_hierarchy.specs.Nodes.{IsActionNode, IsEntityNode}
use Rattle.cedar_hierarchy.specs.Outlined.{ActionOutlineDescends, ActionOutlineMember}
use Rattle.cedar_hierarchy.specs.Parents.{is_action_parent, is_type_parent}
use Rattle.cedar_hierarchy.specs.Targets.{AreMeant}
use Rattle.cedar_hierarchy.specs.Uses.{Uses}
use Rattle.cedar_hierarchy.proofs.Hierarchies.{closed_nodes, least_below_itself, none_below_itself}
use Rattle.cedar_hierarchy.proofs.Meant.{any_meant}
use Rattle.cedar_hierarchy.proofs.NamesSeen.{types_seen, uids_seen}
use Rattle.cedar_names.specs.Names.{entity_cmp, entity_words}
use Rattle.cedar_names.specs.Order.{words_cmp}
use Rattle.cedar_names.specs.declared.entity_uid.EntityUID.{EntityUID}
use Rattle.cedar_names.specs.declared.name.EntityType.{EntityType}
use Rattle.cedar_resolved.specs.Schemas.{action_attribute_types, action_attributes, action_context, action_descendants, action_loc, action_name, action_principals, action_resources, action_with, type_attributes, type_name, type_with}
use Rattle.cedar_resolved.specs.Schemas as resolved
use Rattle.cedar_resolved.specs.declared.action.ValidatorActionId.{ValidatorActionId}
use Rattle.cedar_resolved.specs.declared.entity_type.ValidatorEntityType.{ValidatorEntityType}
use Rattle.cedar_schema_error.specs.FullNames.{Uid, uid_cmp, uid_in}
use Rattle.cedar_schema_error.specs.NameReferences.{action_reference_of, reference_of}
use Rattle.cedar_outlines.specs.Outlines.{ActionParts, EntityParts, action_outline_in, entity_outline_in, parts_of_action, parts_of_entity}
use Rattle.cedar_outlines.specs.declared.outlines.ActionOutline.{ActionOutline}
use Rattle.cedar_outlines.specs.declared.outlines.EntityOutline.{EntityOutline}

module _ (names : Names) (uses : Uses) where
  pub entity_types_made : (outlines : List (EntityType × EntityOutline)) (children : List (EntityType × List EntityType)) (nodes closed : List (EntityType × ValidatorEntityType))
      → IsSortedMap entity_cmp outlines → ((parent child : EntityType) → is_child entity_cmp children parent child ≡ has_parent entity_cmp (is_type_parent names) outlines parent child)
      → AllZip (IsEntityNode children uses) outlines nodes → IsClosure entity_cmp type_name (λ ty. ty.descendants) (type_with []) nodes closed
      → AllZip (MakesEntity names (map entity_outline_in outlines) uses) outlines closed
  entity_types_made outlines children nodes closed sorted gathered each closure =
      closed_nodes types_seen (is_type_parent names) parts_of_entity (target names) (λ (p : EntityParts). p.parents)
      (λ o parent. any_meant words_cmp (target names) reference_of o.parents (entity_words parent)) type_name (λ ty. ty.descendants) (type_with []) outlines sorted children gathered
      (IsEntityNode children uses) (MakesEntity names (map entity_outline_in outlines) uses) (λ o e n. record { key_is = n.described.key; children_are = n.children_are })
      (λ o e c n place same_key same_rest below. record {
        described = record {
          key = place ∙ n.described.key;
          named = same_key ∙ n.described.named;
          attributes = ap type_attributes same_rest ∙ n.described.attributes;
          kind = ap (λ (ty : ValidatorEntityType). ty.kind) same_rest ∙ n.described.kind;
          loc = ap (λ (ty : ValidatorEntityType). ty.loc) same_rest ∙ n.described.loc;
        };
        descendants = below;
      }) nodes each closed closure

  module _ (outlines : List (EntityUID × ActionOutline)) (children : List (EntityUID × List EntityUID)) (nodes : List (EntityUID × ValidatorActionId)) (sorted : IsSortedMap resolved.uid_cmp outlines)
      (gathered : (parent child : EntityUID) → is_child resolved.uid_cmp children parent child ≡ has_parent resolved.uid_cmp (is_action_parent names) outlines parent child)
      (each : AllZip (IsActionNode names children uses) outlines nodes) where
    action_told : (o : ActionOutline) (parent : EntityUID) → is_action_parent names o parent ≡ contains uid_cmp (filter_map (action_target names) (parts_of_action o).parents) (uid_in parent)
    action_told o parent = any_meant uid_cmp (action_target names) action_reference_of o.parents (uid_in parent)

    action_made : (o : EntityUID × ActionOutline) (e c : EntityUID × ValidatorActionId) → IsActionNode names children uses o e → c.0 ≡ e.0 → action_name c.1 ≡ action_name e.1 → action_with [] c.1 ≡ action_with [] e.1
        → IsSetOf uid_cmp (λ low. Reaches (ActionOutlineMember names (map action_outline_in outlines)) low (uid_in o.0)) (map uid_in (action_descendants c.1)) → MakesAction names (map action_outline_in outlines) uses o c
    action_made o e c n place same_key same_rest below = record {
      described = record {
        key = place ∙ n.described.key;
        named = same_key ∙ n.described.named;
        principals = subst (AreMeant names o.1.applies_to.principal_apply_spec) (sym (ap action_principals same_rest)) n.described.principals;
        resources = subst (AreMeant names o.1.applies_to.resource_apply_spec) (sym (ap action_resources same_rest)) n.described.resources;
        context = ap action_context same_rest ∙ n.described.context;
        attribute_types = ap action_attribute_types same_rest ∙ n.described.attribute_types;
        attributes = ap action_attributes same_rest ∙ n.described.attributes;
        loc = ap action_loc same_rest ∙ n.described.loc;
      };
      descendants = below;
    }

    pub actions_made : (closed : List (EntityUID × ValidatorActionId)) → IsClosure resolved.uid_cmp action_name action_descendants (action_with []) nodes closed
        → AllZip (MakesAction names (map action_outline_in outlines) uses) outlines closed
    actions_made closed closure =
        closed_nodes uids_seen (is_action_parent names) parts_of_action (action_target names) (λ (p : ActionParts). p.parents) action_told action_name action_descendants (action_with []) outlines sorted children gathered
        (IsActionNode names children uses) (MakesAction names (map action_outline_in outlines) uses) (λ o e n. record { key_is = n.described.key; children_are = n.children_are }) action_made nodes each closed closure

    pub actions_acyclic : closure.IsAcyclic resolved.uid_cmp action_descendants nodes → (uid : Uid) → ActionOutlineDescends names (map action_outline_in outlines) uid uid → ⊥
    actions_acyclic none uid below =
        none_below_itself uids_seen (is_action_parent names) parts_of_action (action_target names) (λ (p : ActionParts). p.parents) action_told action_name action_descendants (action_with []) outlines sorted children gathered
        (IsActionNode names children uses) (MakesAction names (map action_outline_in outlines) uses) (λ o e n. record { key_is = n.described.key; children_are = n.children_are }) action_made nodes each none uid below

    pub least_action : (vertex : EntityUID) → IsLeastOnCycle resolved.uid_cmp action_descendants nodes vertex → IsLeast uid_cmp (λ u. ActionOutlineDescends names (map action_outline_in outlines) u u) (uid_in vertex)
    least_action vertex least =
        least_below_itself uids_seen (is_action_parent names) parts_of_action (action_target names) (λ (p : ActionParts). p.parents) action_told action_name action_descendants (action_with []) outlines sorted children gathered
        (IsActionNode names children uses) (MakesAction names (map action_outline_in outlines) uses) (λ o e n. record { key_is = n.described.key; children_are = n.children_are }) action_made nodes each vertex least
