-- SPDX-License-Identifier: Apache-2.0
use Rattle.std.proofs.Common.{◌≡◌, ◌++◌, true, IfOk, subst}
use Rattle.std.specs.List.{flat_map}
use Rattle.cedar_declared.specs.of_definitions.Structures.{definitions_of}
use Rattle.cedar_phases.specs.Holding.{AllPassed, Holds, OneRefuses, early_phases, later_phases, world_of}
use Rattle.cedar_phases.specs.Places.{IsPlaced}
use Rattle.cedar_checks.specs.SchemaViews.{schema_in}
use Rattle.cedar_phases.proofs.Carried.{carried, passed, passed_both, refused}
use Rattle.cedar_phases.specs.Kept.{KeepsDeclarations, KeepsDeclared, KeepsReferences, is_missing}
use Rattle.cedar_phases.proofs.KeptDeclarations.{keeps_all, keeps_own}
use Rattle.cedar_phases.proofs.KeptReferences.{Missed, keeps_references}
use Rattle.cedar_phases.proofs.OtherRefusals.{shadowing_other, true-false}
use Rattle.cedar_phases.proofs.Composing.{cause_first, cause_later, sound_by}
use Rattle.cedar_resolved.specs.declared.schema.ValidatorSchema.{ValidatorSchema}
use Rattle.cedar_schema_error.specs.Told.{told}
use Rattle.cedar_sound.specs.Sound.{Cause, RefusesAt, Shadowing, Sound}
use Rattle.cedar_qualified.specs.of_world.Denotes.{Denotes}
use Rattle.cedar_qualified.specs.of_world.Worlds.{World}
use Rattle.cedar_phases.specs.declared.declaring.Declarations.{Declarations}
use Rattle.cedar_phases.proofs.resolving.ValidatorSchemaFromSchemaFragments.from_schema_fragments.Goals as goal

pub returns-in-Ok-clause-sound : goal.returns-in-Ok-clause-sound
returns-in-Ok-clause-sound c =
    passed_both (λ _. (W : World) → Holds W c.in-Ok.declarations.all_defs (definitions_of c.in-Ok.declarations.definitions) c.args.extensions.now → AllPassed W early_phases) (λ _. (W : World) → Holds W c.in-Ok.declarations.all_defs (definitions_of c.in-Ok.declarations.definitions) c.args.extensions.now → AllPassed W later_phases) (λ _. Sound (world_of c.args.fragments.items c.args.extensions.now))
    (λ _ early later. sound_by (world_of c.args.fragments.items c.args.extensions.now) c.in-Ok.ensures.passes (early (world_of c.args.fragments.items c.args.extensions.now) c.in-Ok.ensures.holds) (later (world_of c.args.fragments.items c.args.extensions.now) c.in-Ok.ensures.holds)) c.resolve_declarations.result c.resolve_declarations.ensures.early c.resolve_declarations.ensures.later

pub returns-in-Ok-clause-denotes : goal.returns-in-Ok-clause-denotes
returns-in-Ok-clause-denotes c =
    passed (λ S. (W : World) → Holds W c.in-Ok.declarations.all_defs (definitions_of c.in-Ok.declarations.definitions) c.args.extensions.now → Denotes W (schema_in S)) (λ S. Denotes (world_of c.args.fragments.items c.args.extensions.now) (schema_in S))
    (λ S f. f (world_of c.args.fragments.items c.args.extensions.now) c.in-Ok.ensures.holds) c.resolve_declarations.result c.resolve_declarations.ensures.denotes

pub returns-in-Ok-clause-placed : goal.returns-in-Ok-clause-placed
returns-in-Ok-clause-placed c = subst (λ places. IfOk c.resolve_declarations.result (IsPlaced places)) c.in-Ok.ensures.places c.resolve_declarations.ensures.placed

pub returns-in-Ok-clause-refused : goal.returns-in-Ok-clause-refused
returns-in-Ok-clause-refused c =
    refused (λ e. (W : World) → Holds W c.in-Ok.declarations.all_defs (definitions_of c.in-Ok.declarations.definitions) c.args.extensions.now → OneRefuses W (early_phases ++ later_phases) (told e)) (λ e. Cause (world_of c.args.fragments.items c.args.extensions.now) (told e))
    (λ e f. cause_later (world_of c.args.fragments.items c.args.extensions.now) (told e) c.in-Ok.ensures.passes (f (world_of c.args.fragments.items c.args.extensions.now) c.in-Ok.ensures.holds)) c.resolve_declarations.result c.resolve_declarations.ensures.refused

pub returns-in-Err-clause-refused : goal.returns-in-Err-clause-refused
returns-in-Err-clause-refused c =
    carried Declarations ValidatorSchema (λ e. RefusesAt (world_of c.args.fragments.items c.args.extensions.now) Shadowing (told e)) (λ e. Cause (world_of c.args.fragments.items c.args.extensions.now) (told e))
    (λ e r. cause_first (world_of c.args.fragments.items c.args.extensions.now) (told e) r) c.in-Err.failure c.in-Err.ensures.refused

pub returns-in-Ok-clause-kept : goal.returns-in-Ok-clause-kept
returns-in-Ok-clause-kept c =
    refused (λ e. (W : World) → Holds W c.in-Ok.declarations.all_defs (definitions_of c.in-Ok.declarations.definitions) c.args.extensions.now → is_missing (told e) ≡ true → Missed c.in-Ok.declarations.all_defs c.in-Ok.declarations.definitions e)
    (λ e. is_missing (told e) ≡ true → KeepsReferences (world_of c.args.fragments.items c.args.extensions.now) (flat_map definitions_of c.args.fragments.items) e)
    (λ e f is. keeps_references (world_of c.args.fragments.items c.args.extensions.now) c.in-Ok.declarations.all_defs c.in-Ok.declarations.definitions c.args.extensions.now (flat_map definitions_of c.args.fragments.items) e
    c.in-Ok.ensures.holds c.in-Ok.ensures.behind (f (world_of c.args.fragments.items c.args.extensions.now) c.in-Ok.ensures.holds is))
    c.resolve_declarations.result c.resolve_declarations.ensures.kept

pub returns-in-Err-clause-kept : goal.returns-in-Err-clause-kept
returns-in-Err-clause-kept c =
    carried Declarations ValidatorSchema (λ e. RefusesAt (world_of c.args.fragments.items c.args.extensions.now) Shadowing (told e))
    (λ e. is_missing (told e) ≡ true → KeepsReferences (world_of c.args.fragments.items c.args.extensions.now) (flat_map definitions_of c.args.fragments.items) e)
    (λ e r is. absurd (true-false _ is (shadowing_other (world_of c.args.fragments.items c.args.extensions.now) (told e) r))) c.in-Err.failure c.in-Err.ensures.refused

pub returns-in-Ok-clause-as_declared : goal.returns-in-Ok-clause-as_declared
returns-in-Ok-clause-as_declared c =
    refused (λ e. (W : World) → Holds W c.in-Ok.declarations.all_defs (definitions_of c.in-Ok.declarations.definitions) c.args.extensions.now → KeepsDeclared (definitions_of c.in-Ok.declarations.definitions) e)
    (KeepsDeclarations (world_of c.args.fragments.items c.args.extensions.now) (flat_map definitions_of c.args.fragments.items))
    (λ e f. keeps_all c.args.fragments.items c.args.extensions.now c.in-Ok.declarations.all_defs c.in-Ok.declarations.definitions e c.in-Ok.ensures.holds c.in-Ok.ensures.behind
    (f (world_of c.args.fragments.items c.args.extensions.now) c.in-Ok.ensures.holds)) c.resolve_declarations.result c.resolve_declarations.ensures.as_declared

pub returns-in-Err-clause-as_declared : goal.returns-in-Err-clause-as_declared
returns-in-Err-clause-as_declared c =
    carried Declarations ValidatorSchema (KeepsDeclared (flat_map definitions_of c.args.fragments.items)) (KeepsDeclarations (world_of c.args.fragments.items c.args.extensions.now) (flat_map definitions_of c.args.fragments.items))
    (keeps_own (world_of c.args.fragments.items c.args.extensions.now) (flat_map definitions_of c.args.fragments.items)) c.in-Err.failure c.in-Err.ensures.as_declared
