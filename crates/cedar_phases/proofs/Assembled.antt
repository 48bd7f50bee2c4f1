-- SPDX-License-Identifier: Apache-2.0
-- From the pieces of a schema to what is said of the world.
use Rattle.std.proofs.Common.{◌≡◌, ◌++◌, List, Some, None, map, sym, subst}
use Rattle.std.specs.List.{AllZip, filter, flat_map}
use Rattle.cedar_data.specs.Firsts.{AllPass, IsLeast}
use Rattle.cedar_declared.specs.Held.{names_of}
use Rattle.cedar_declared.specs.Names.{action_target}
use Rattle.cedar_declared.specs.declared.all_defs.AllDefs.{AllDefs}
use Rattle.cedar_hierarchy.specs.Made.{MakesAction, MakesEntity}
use Rattle.cedar_hierarchy.specs.Outlined.{ActionOutlineDescends}
use Rattle.cedar_names.specs.Components.{components}
use Rattle.cedar_names.specs.declared.entity_uid.EntityUID.{EntityUID}
use Rattle.cedar_names.specs.declared.internal_name.InternalName.{InternalName}
use Rattle.cedar_names.specs.declared.name.EntityType.{EntityType}
use Rattle.cedar_phases.specs.Holding.{HoldsUnfolded}
use Rattle.cedar_phases.specs.NotDeclared.{AreNotDeclared, other_targets}
use Rattle.cedar_checks.specs.SchemaViews.{IsConsistent, action_in, schema_in, types_of}
use Rattle.cedar_phases.proofs.Agreeing.{same_action_target}
use Rattle.cedar_phases.proofs.Composing.{least_there}
use Rattle.cedar_phases.proofs.Descending.{action_descends_back, action_descends_there}
use Rattle.cedar_phases.proofs.Making.{actions_denoted, actions_named, entities_denoted, types_fit, types_named}
use Rattle.cedar_phases.proofs.Undeclaring.{undeclared_passes, undeclared_refuses}
use Rattle.cedar_phases.proofs.UnfoldedWorld.{uses_pass}
use Rattle.cedar_resolved.specs.Schemas.{action_name, action_types}
use Rattle.cedar_resolved.specs.declared.action.ValidatorActionId.{ValidatorActionId}
use Rattle.cedar_resolved.specs.declared.schema.ValidatorSchema.{ValidatorSchema}
use Rattle.cedar_schema_error.specs.FullNames.{FullName, Uid, uid_cmp}
use Rattle.cedar_schema_error.specs.Refusals.{CycleInActionHierarchy, Refusal}
use Rattle.cedar_schema_error.specs.declared.use_place.UsePlace.{UsePlace}
use Rattle.cedar_sound.specs.Sound.{ActionCycles, Passes, RefusesAt, UndeclaredTypes}
use Rattle.cedar_sound.proofs.NothingMissed.{applications_free}
use Rattle.cedar_hierarchy.specs.of_outlines.Outlines.{action_outline_in, entity_outline_in}
use Rattle.cedar_hierarchy.specs.of_outlines.declared.outlines.ActionOutline.{ActionOutline}
use Rattle.cedar_hierarchy.specs.of_outlines.declared.outlines.EntityOutline.{EntityOutline}
use Rattle.cedar_types.specs.declared.ty.ResolvedType.{ResolvedType}
use Rattle.cedar_undeclared.specs.Undeclared.{is_free, undeclared_refusal}
use Rattle.cedar_qualified.specs.of_world.Denotes.{Denotes, DenotesAction}
use Rattle.cedar_qualified.specs.of_world.Descents.{ActionDescendsFrom}
use Rattle.cedar_qualified.specs.of_world.Worlds.{World, actions, all_namespaces, names}
use Rattle.cedar_written.specs.declared.ty.SchemaType.{SchemaType}

module _ (W : World) (all_defs : AllDefs) (full : List (InternalName × SchemaType InternalName)) (full_uses : List (UsePlace × SchemaType InternalName)) (used : List (UsePlace × ResolvedType))
    (types : List (EntityType × EntityOutline)) (acts : List (EntityUID × ActionOutline)) (h : HoldsUnfolded W all_defs full full_uses used types acts) where
  abbrev Below : Uid → Type 0
  Below u = ActionOutlineDescends (names_of all_defs) (map action_outline_in acts) u u

  same : action_target (names_of all_defs) ≡ action_target (names W)
  same = same_action_target (names_of all_defs) (names W) h.holds.names_agree

  there : (u : Uid) → Below u → ActionDescendsFrom W u u
  there u chain = action_descends_there W (names_of all_defs) same (map action_outline_in acts) h.actions_are u u chain

  back : (u : Uid) → ActionDescendsFrom W u u → Below u
  back u chain = action_descends_back W (names_of all_defs) same (map action_outline_in acts) h.actions_are u u chain

  -- no action descends from itself, or the least that does is told
  pub no_cycles : ((u : Uid) → Below u → ⊥) → Passes W ActionCycles
  no_cycles none = λ u chain. none u (back u chain)

  pub cycle_told : (e : Refusal) → (u : Uid) × (e ≡ CycleInActionHierarchy u) × IsLeast uid_cmp Below u → RefusesAt W ActionCycles e
  cycle_told e r = (r.0, r.1, least_there Below (λ u. ActionDescendsFrom W u u) there back r.0 r.2)

  module _ (others : List InternalName)
      (members_are : map components others ≡ other_targets (names_of all_defs) (flat_map (λ e. e.1.parents) (map entity_outline_in types)) ++ other_targets (names_of all_defs) (flat_map (λ a. a.1.principals ++ a.1.resources) (map action_outline_in acts))) where
    -- each name that must be an entity type is one, or all that aren't are told
    pub all_are_declared : (ns : List FullName) → AreNotDeclared (names_of all_defs) full full_uses others ns → undeclared_refusal (filter is_free ns) ≡ None → Passes W UndeclaredTypes
    all_are_declared ns are none =
        undeclared_passes W all_defs h.definitions h.extensions h.holds full full_uses others h.qualifies types acts h.entity_types_are h.actions_are members_are ns are h.references h.unfolding_passes none

    pub undeclared_told : (e : Refusal) (ns : List FullName) → AreNotDeclared (names_of all_defs) full full_uses others ns → undeclared_refusal (filter is_free ns) ≡ Some e → RefusesAt W UndeclaredTypes e
    undeclared_told e ns are some =
        undeclared_refuses W all_defs h.definitions h.extensions h.holds full full_uses others h.qualifies types acts h.entity_types_are h.actions_are members_are ns are h.references h.unfolding_passes e some

  -- the schema is that which is denoted
  pub denoted : (S : ValidatorSchema) (made : List (EntityUID × ValidatorActionId)) → AllZip (MakesEntity (names_of all_defs) (map entity_outline_in types) used) types (types_of S)
      → AllZip (MakesAction (names_of all_defs) (map action_outline_in acts) used) acts made → action_types S ≡ made → Denotes W (schema_in S)
  denoted S made zip acts_zip is = record {
    entity_types = entities_denoted W all_defs h.definitions h.extensions h.holds used h.unfolded (uses_pass W h.unfolding_passes) types h.entity_types_are (types_of S) zip;
    actions = subst (λ (l : List (EntityUID × ValidatorActionId)). AllZip (DenotesAction W) (actions W) (map action_in l)) (sym is)
        (actions_denoted W all_defs h.definitions h.extensions h.holds used h.unfolded (uses_pass W h.unfolding_passes) acts h.actions_are
        (applications_free (names W) (all_namespaces W) h.references.1.1.0) made acts_zip);
  }

-- each stands under its name, and fits its kind
pub consistent : (all_defs : AllDefs) (used : List (UsePlace × ResolvedType)) (types : List (EntityType × EntityOutline)) (acts : List (EntityUID × ActionOutline)) (S : ValidatorSchema) (made : List (EntityUID × ValidatorActionId))
    → AllZip (MakesEntity (names_of all_defs) (map entity_outline_in types) used) types (types_of S) → AllZip (MakesAction (names_of all_defs) (map action_outline_in acts) used) acts made → action_types S ≡ made → IsConsistent S
consistent all_defs used types acts S made zip acts_zip is = record {
  entity_types = types_named (names_of all_defs) (map entity_outline_in types) used types (types_of S) zip;
  attributes = types_fit (names_of all_defs) (map entity_outline_in types) used types (types_of S) zip;
  actions = subst (λ (l : List (EntityUID × ValidatorActionId)). AllPass (λ a. action_name a.1 ≡ a.0) l) (sym is) (actions_named (names_of all_defs) (map action_outline_in acts) used acts made acts_zip);
}
