-- SPDX-License-Identifier: Apache-2.0
use Rattle.cedar_phases.specs.declared.declaring.Declarations.{Declarations}
use Rattle.cedar_data.specs.Firsts.{FirstRefused}
use Rattle.cedar_declared.specs.Held.{names_of}
use Rattle.cedar_declared.specs.HeldPlaces.{actions_at, types_at}
use Rattle.cedar_declared.specs.of_definitions.Structures.{definitions_of}
use Rattle.cedar_phases.specs.Holding.{world_of}
use Rattle.cedar_phases.specs.Kept.{KeepsDeclared}
use Rattle.cedar_phases.proofs.KeptDeclarations.{held_keeps}
use Rattle.cedar_phases.proofs.Carried.{carried}
use Rattle.cedar_phases.proofs.DeclaredWorld.{shadowing_passes, shadowing_refuses}
use Rattle.cedar_phases.proofs.declaring.declare_with.Goals as goal
use Rattle.cedar_schema_error.specs.KeptDeclarations.{KeepsAmong}
use Rattle.cedar_schema_error.specs.Told.{told}
use Rattle.std.specs.List.{flat_map}
use Rattle.cedar_sound.specs.of_shadowing.Shadowing.{ShadowPasses, ShadowRefuses, shadow_phases}
use Rattle.cedar_sound.specs.Sound.{RefusesAt, Shadowing}

pub returns-in_ok-declarations-in-Ok-clause-passes : goal.returns-in_ok-declarations-in-Ok-clause-passes
returns-in_ok-declarations-in-Ok-clause-passes c = shadowing_passes c.args.fragments.items c.args.extensions.now c.args.own c.requires.names c.in-Ok.ensures.ok

pub returns-in-Err-clause-refused : goal.returns-in-Err-clause-refused
returns-in-Err-clause-refused c =
    carried (Unit {0}) Declarations (λ e. FirstRefused (ShadowPasses (names_of c.args.own)) (ShadowRefuses (names_of c.args.own)) shadow_phases (told e)) (λ e. RefusesAt (world_of c.args.fragments.items c.args.extensions.now) Shadowing (told e))
    (shadowing_refuses c.args.fragments.items c.args.extensions.now c.args.own c.requires.names) c.in-Err.failure c.in-Err.ensures.refused

pub returns-in-Err-clause-as_declared : goal.returns-in-Err-clause-as_declared
returns-in-Err-clause-as_declared c =
    carried (Unit {0}) Declarations (KeepsAmong (types_at c.args.own) (actions_at c.args.own)) (KeepsDeclared (flat_map definitions_of c.args.fragments.items))
    (held_keeps (flat_map definitions_of c.args.fragments.items) c.args.own c.requires.held) c.in-Err.failure c.in-Err.ensures.kept
