-- SPDX-License-Identifier: Apache-2.0
-- Where the references of a world have the kinds of their places, and its declared names are free: no cause is one of wrong kinds.
use Rattle.std.proofs.Common.{◌≡◌, ◌++◌, ◌&&◌, Bool, true, false, not, IsTrue, List, [], Some, map, refl}
use Rattle.std.specs.List.{filter_map, flat_map}
use Rattle.cedar_data.proofs.Judging.{none_first}
use Rattle.cedar_data.specs.Firsts.{AllPass}
use Rattle.cedar_data.specs.Sets.{contains}
use Rattle.cedar_names.specs.Components.{has_cedar}
use Rattle.cedar_names.specs.Order.{words_cmp}
use Rattle.cedar_written.specs.declared.reference_type.ReferenceType.TheVariants as kind
use Rattle.cedar_sound.proofs.NameOrders.{names_exact, uids_exact}
use Rattle.cedar_sound.proofs.NothingMissed.{pass_append, pass_flat, pass_map, pass_weaker}
use Rattle.cedar_sound.specs.Sound.{Cause}
use Rattle.cedar_sound.specs.of_duplicates.Duplicates.{Action, CommonType, Declared, EntityType, duplicate}
use Rattle.cedar_world.specs.of_declared.Names.{action_target, is_action, is_entity, target, targets}
use Rattle.cedar_schema_error.specs.FullNames.{FullName, Uid}
use Rattle.cedar_schema_error.specs.NameReferences.{ActionReference, NameReference}
use Rattle.cedar_schema_error.specs.Refusals.{Refusal}
use Rattle.cedar_world.specs.of_unfold.Faults.{faults}
use Rattle.cedar_world.specs.Definitions.{ActionDefinition, Namespace, parents_of}
use Rattle.cedar_world.specs.Missing.{action_memberships, entity_memberships, memberships, parent_types, reserved_targets}
use Rattle.cedar_world.specs.Undeclared.{IsUndeclared, references_to_entities}
use Rattle.cedar_world.specs.Worlds.{World, all_namespaces, common_types, meanings, names, own, uses}
use Rattle.cedar_refusal_laws.specs.Kinds.{ActionHasKinds, AreOf, DeclareFree, EntityHasKinds, HasItsKinds, HaveTheirKinds, IsFree, NamespaceHasKinds}
use Rattle.cedar_refusal_laws.specs.NeverComing.{never_comes}
use Rattle.cedar_refusal_laws.proofs.Causes.{cause_fails}
use Rattle.cedar_refusal_laws.proofs.Faultless.{IsOther, entity_found, entity_free, type_right}
use Rattle.cedar_refusal_laws.proofs.KindsKept.{all_free, commons_have, entities_named, namespaces_have, uses_have}
use Rattle.cedar_refusal_laws.proofs.Members.{found_passes, none_kept, of_member, pass_each_item, pass_filter_map}

duplicate_other : (d : Declared) → IsOther (duplicate d)
duplicate_other (CommonType name) = refl
duplicate_other (EntityType name) = refl
duplicate_other (Action uid) = refl

both_true : (a b : Bool) → IsTrue (a && b) → IsTrue a × IsTrue b
both_true true b is = (refl, is)
both_true false b is = absurd (cc)

not_both : (b : Bool) → IsTrue b → IsTrue (not b) → ⊥
not_both true is isnt = cc
not_both false is isnt = cc

module _ (W : World) (kinds : HaveTheirKinds W.namespaces) (free : DeclareFree (own W)) where
  -- ---- targets

  -- what references to entity types mean
  targets_free : (rs : List NameReference) → AreOf kind.Entity rs → AllPass IsFree (targets (names W) rs)
  targets_free rs h = pass_filter_map (λ r. r.kind ≡ kind.Entity) IsFree (target (names W)) (λ r name is found. entity_free W free name (entity_found W free r name is found)) rs h

  -- what references to actions mean
  parents_free : (rs : List ActionReference) → AllPass IsFree (parent_types (names W) rs)
  parents_free rs = pass_map IsFree (λ (uid : Uid). uid.ty) (filter_map (action_target (names W)) rs)
      (pass_filter_map (λ r. Unit {0}) (λ (uid : Uid). IsFree uid.ty) (action_target (names W)) each rs (pass_each_item (λ r. Unit {0}) (λ r. tt) rs))
    where
      each : (r : ActionReference) (uid : Uid) → Unit {0} → action_target (names W) r ≡ Some uid → IsFree uid.ty
      each r uid u found =
          of_member uids_exact (λ (uid : Uid). IsFree uid.ty) (names W).actions uid (all_free W free).actions
          (found_passes (is_action (names W)) (map (λ name. record { ty = name; id = r.id }) r.ty.possibilities) uid found)

  action_free : (a : ActionDefinition NameReference ActionReference) → ActionHasKinds a → AllPass IsFree (action_memberships (names W) a)
  action_free a h = pass_append IsFree (targets (names W) a.principals ++ targets (names W) a.resources) (parent_types (names W) a.parents)
      (pass_append IsFree (targets (names W) a.principals) (targets (names W) a.resources) (targets_free a.principals h.principals) (targets_free a.resources h.resources)) (parents_free a.parents)

  memberships_free : (ns : Namespace) → NamespaceHasKinds ns → AllPass IsFree (memberships (names W) ns)
  memberships_free ns h = pass_append IsFree (flat_map (λ e. entity_memberships (names W) e.1) ns.entity_types) (flat_map (λ a. action_memberships (names W) a.1) ns.actions)
      (pass_flat IsFree (λ e. entity_memberships (names W) e.1) ns.entity_types
      (pass_weaker (λ e. EntityHasKinds e.1) (λ e. AllPass IsFree (entity_memberships (names W) e.1)) (λ e k. targets_free (parents_of e.1) k.parents) ns.entity_types h.entity_types))
      (pass_flat IsFree (λ a. action_memberships (names W) a.1) ns.actions
      (pass_weaker (λ a. ActionHasKinds a.1) (λ a. AllPass IsFree (action_memberships (names W) a.1)) (λ a k. action_free a.1 k) ns.actions h.actions))

  none_reserved : reserved_targets (names W) (all_namespaces W) ≡ []
  none_reserved = none_kept has_cedar (flat_map (memberships (names W)) (all_namespaces W))
      (pass_flat IsFree (memberships (names W)) (all_namespaces W) (pass_weaker NamespaceHasKinds (λ ns. AllPass IsFree (memberships (names W) ns)) memberships_free (all_namespaces W) (namespaces_have W kinds)))

  -- ---- entity types that aren't declared

  none_undeclared : (name : FullName) → IsUndeclared W name → ⊥
  none_undeclared name is =
      let both = both_true (contains words_cmp (targets (names W) (references_to_entities W)) name) (not (is_entity (names W) name)) is in
      not_both (is_entity (names W) name)
      (of_member names_exact (λ n. IsTrue (is_entity (names W) n)) (targets (names W) (references_to_entities W)) name
      (pass_filter_map (λ r. r.kind ≡ kind.Entity) (λ n. IsTrue (is_entity (names W) n)) (target (names W)) (entity_found W free) (references_to_entities W) (entities_named W kinds)) both.0) both.1

  -- ---- all phases

  -- no cause is one of wrong kinds
  pub ruled_out : (e : Refusal) → Cause W e → never_comes e ≡ false
  ruled_out = cause_fails W never_comes (record {
    type_shadows = λ a b. refl;
    action_shadows = λ a b. refl;
    no_type = λ r rs. refl;
    no_action = λ r rs. refl;
    circular_type = λ name. refl;
    too_deep = λ place. refl;
    no_record = λ place. refl;
    circular_action = λ uid. refl;
  }) (record {
    reserved = λ name first. absurd (none_first (reserved_targets (names W) (all_namespaces W)) name none_reserved first);
    twice = λ d again. duplicate_other d;
    common_faults = pass_weaker (λ c. HasItsKinds c.1) (λ c. AllPass IsOther (faults (meanings W) c.1)) (λ c. type_right W free c.1) (common_types W) (commons_have W kinds);
    use_faults = pass_weaker (λ u. HasItsKinds u.1) (λ u. AllPass IsOther (faults (meanings W) u.1)) (λ u. type_right W free u.1) (uses W) (uses_have W kinds);
    undeclared = λ name others is. absurd (none_undeclared name is);
  })
