-- SPDX-License-Identifier: Apache-2.0
use Rattle.cedar_names.specs.Components.{components}
use Rattle.cedar_names.specs.declared.entity_uid.EntityUID.{EntityUID}
use Rattle.cedar_resolved.specs.declared.action.ValidatorActionId.{ValidatorActionId}
use Rattle.cedar_resolved.specs.declared.schema.ValidatorSchema.{ValidatorSchema}
use Rattle.std.proofs.Common.{◌≡◌, List, [], None, Some, inl, inr, map}
use Rattle.std.specs.List.{AllZip, filter}
use Rattle.std.specs.Map.{keys_of}
use Rattle.cedar_data.specs.Firsts.{IsLeast}
use Rattle.cedar_declared.specs.Held.{names_of}
use Rattle.cedar_hierarchy.specs.Made.{MakesEntity}
use Rattle.cedar_hierarchy.specs.Outlined.{ActionOutlineDescends}
use Rattle.cedar_phases.specs.Holding.{AllPassed, HoldsUnfolded, OneRefuses, last_phases}
use Rattle.cedar_checks.specs.SchemaViews.{IsConsistent, schema_in, types_of}
use Rattle.cedar_phases.proofs.Assembled.{all_are_declared, consistent, cycle_told, denoted, no_cycles, undeclared_told}
use Rattle.cedar_phases.specs.Places.{IsPlaced, places_outlined}
use Rattle.cedar_phases.proofs.Carried.{carried_text, passed, passed_both, refused}
use Rattle.cedar_phases.proofs.KeptDeclarations.{keeps_none, undeclared_other}
use Rattle.cedar_phases.proofs.Placing.{placed}
use Rattle.cedar_phases.proofs.assembling.assemble.Goals as goal
use Rattle.cedar_resolved.specs.Schemas.{action_types}
use Rattle.cedar_schema_error.specs.FullNames.{Uid, uid_cmp}
use Rattle.cedar_schema_error.specs.KeptDeclarations.{KeepsAmong, placed_action}
use Rattle.cedar_schema_error.specs.Refusals.{CycleInActionHierarchy}
use Rattle.cedar_schema_error.specs.Told.{told}
use Rattle.cedar_hierarchy.specs.of_outlines.Outlines.{action_outline_in, entity_outline_in}
use Rattle.cedar_undeclared.specs.Undeclared.{is_free, undeclared_refusal}
use Rattle.cedar_qualified.specs.of_world.Denotes.{Denotes}
use Rattle.cedar_qualified.specs.of_world.Worlds.{World}

pub returns-in-Ok-clause-passes : goal.returns-in-Ok-clause-passes
returns-in-Ok-clause-passes c =
    passed (λ _. undeclared_refusal (filter is_free (map components c.in_ok-undeclared.undeclared)) ≡ None) (λ _. (W : World) → HoldsUnfolded W c.args.all_defs.now c.args.types.full.common_types c.args.types.full.uses c.args.types.uses c.args.entity_types c.args.actions → AllPassed W last_phases)
    (λ _ d W h. (no_cycles W c.args.all_defs.now c.args.types.full.common_types c.args.types.full.uses c.args.types.uses c.args.entity_types c.args.actions h c.in-Ok.ensures.acyclic, (all_are_declared W c.args.all_defs.now c.args.types.full.common_types c.args.types.full.uses c.args.types.uses c.args.entity_types c.args.actions h c.in_ok-memberships.memberships.items c.in_ok-memberships.ensures (map components c.in_ok-undeclared.undeclared) c.in_ok-undeclared.ensures d, tt))) c.finish.result c.finish.ensures.declared

pub returns-in-Ok-clause-denotes : goal.returns-in-Ok-clause-denotes
returns-in-Ok-clause-denotes c =
    passed_both (λ S. AllZip (MakesEntity (names_of c.args.all_defs.now) (map entity_outline_in c.args.entity_types) c.args.types.uses) c.args.entity_types (types_of S)) (λ S. action_types S ≡ c.in-Ok.actions) (λ S. (W : World) → HoldsUnfolded W c.args.all_defs.now c.args.types.full.common_types c.args.types.full.uses c.args.types.uses c.args.entity_types c.args.actions → Denotes W (schema_in S))
    (λ S zip is W h. denoted W c.args.all_defs.now c.args.types.full.common_types c.args.types.full.uses c.args.types.uses c.args.entity_types c.args.actions h S c.in-Ok.actions zip c.in-Ok.ensures.made is) c.finish.result c.finish.ensures.entity_types c.finish.ensures.actions

pub returns-in-Ok-clause-consistent : goal.returns-in-Ok-clause-consistent
returns-in-Ok-clause-consistent c =
    passed_both (λ S. AllZip (MakesEntity (names_of c.args.all_defs.now) (map entity_outline_in c.args.entity_types) c.args.types.uses) c.args.entity_types (types_of S)) (λ S. action_types S ≡ c.in-Ok.actions) IsConsistent
    (λ S zip is. consistent c.args.all_defs.now c.args.types.uses c.args.entity_types c.args.actions S c.in-Ok.actions zip c.in-Ok.ensures.made is) c.finish.result c.finish.ensures.entity_types c.finish.ensures.actions

pub returns-in-Ok-clause-placed : goal.returns-in-Ok-clause-placed
returns-in-Ok-clause-placed c =
    passed_both (λ S. AllZip (MakesEntity (names_of c.args.all_defs.now) (map entity_outline_in c.args.entity_types) c.args.types.uses) c.args.entity_types (types_of S)) (λ S. action_types S ≡ c.in-Ok.actions) (IsPlaced (places_outlined c.args.entity_types c.args.actions))
    (λ S zip is. placed (names_of c.args.all_defs.now) c.args.types.uses c.args.entity_types c.args.actions (map entity_outline_in c.args.entity_types) (map action_outline_in c.args.actions) S c.in-Ok.actions zip c.in-Ok.ensures.made is) c.finish.result c.finish.ensures.entity_types c.finish.ensures.actions

pub returns-in-Ok-clause-refused : goal.returns-in-Ok-clause-refused
returns-in-Ok-clause-refused c =
    refused (λ e. undeclared_refusal (filter is_free (map components c.in_ok-undeclared.undeclared)) ≡ Some (told e)) (λ e. (W : World) → HoldsUnfolded W c.args.all_defs.now c.args.types.full.common_types c.args.types.full.uses c.args.types.uses c.args.entity_types c.args.actions → OneRefuses W last_phases (told e))
    (λ e d W h. inr (no_cycles W c.args.all_defs.now c.args.types.full.common_types c.args.types.full.uses c.args.types.uses c.args.entity_types c.args.actions h c.in-Ok.ensures.acyclic, inl (undeclared_told W c.args.all_defs.now c.args.types.full.common_types c.args.types.full.uses c.args.types.uses c.args.entity_types c.args.actions h c.in_ok-memberships.memberships.items c.in_ok-memberships.ensures (told e) (map components c.in_ok-undeclared.undeclared) c.in_ok-undeclared.ensures d))) c.finish.result c.finish.ensures.refused

pub returns-in-Err-clause-refused : goal.returns-in-Err-clause-refused
returns-in-Err-clause-refused c =
    carried_text (List (EntityUID × ValidatorActionId)) ValidatorSchema (λ e. (uid : Uid) × (told e ≡ CycleInActionHierarchy uid) × IsLeast uid_cmp (λ u. ActionOutlineDescends (names_of c.args.all_defs.now) (map action_outline_in c.args.actions) u u) uid)
    (λ e. (W : World) → HoldsUnfolded W c.args.all_defs.now c.args.types.full.common_types c.args.types.full.uses c.args.types.uses c.args.entity_types c.args.actions → OneRefuses W last_phases (told e)) (λ e d W h. inl (cycle_told W c.args.all_defs.now c.args.types.full.common_types c.args.types.full.uses c.args.types.uses c.args.entity_types c.args.actions h (told e) d)) c.in-Err.failure c.in-Err.ensures.refused

pub returns-in-Ok-clause-as_declared : goal.returns-in-Ok-clause-as_declared
returns-in-Ok-clause-as_declared c =
    refused (λ e. undeclared_refusal (filter is_free (map components c.in_ok-undeclared.undeclared)) ≡ Some (told e)) (KeepsAmong [] (map placed_action (keys_of c.args.actions)))
    (λ e is. keeps_none [] (map placed_action (keys_of c.args.actions)) e (undeclared_other (filter is_free (map components c.in_ok-undeclared.undeclared)) (told e) is)) c.finish.result c.finish.ensures.refused

pub returns-in-Err-clause-as_declared : goal.returns-in-Err-clause-as_declared
returns-in-Err-clause-as_declared c =
    carried_text (List (EntityUID × ValidatorActionId)) ValidatorSchema (KeepsAmong [] (map placed_action (keys_of c.args.actions))) (KeepsAmong [] (map placed_action (keys_of c.args.actions))) (λ e kept. kept) c.in-Err.failure c.in-Err.ensures.kept
