-- SPDX-License-Identifier: Apache-2.0
use Rattle.std.proofs.Common.{List, [], inl, inr, map}
use Rattle.std.specs.Map.{keys_of}
use Rattle.cedar_phases.specs.Holding.{AllPassed, AreTables, Definition, Holds, HoldsTypes, HoldsUnfolded, OneRefuses, last_phases, later_phases}
use Rattle.cedar_checks.specs.SchemaViews.{schema_in}
use Rattle.cedar_phases.proofs.Carried.{carried, passed, refused}
use Rattle.cedar_phases.proofs.KeptDeclarations.{keeps_more}
use Rattle.cedar_phases.specs.declared.unfolding.UnfoldedTypes.{UnfoldedTypes}
use Rattle.cedar_resolved.specs.declared.schema.ValidatorSchema.{ValidatorSchema}
use Rattle.cedar_schema_error.specs.KeptDeclarations.{KeepsAmong, placed, placed_action}
use Rattle.cedar_schema_error.specs.Told.{told}
use Rattle.cedar_sound.specs.Sound.{Passes, References, RefusesAt, Unfolding}
use Rattle.cedar_qualified.specs.of_world.Denotes.{Denotes}
use Rattle.cedar_qualified.specs.of_world.Worlds.{World}
use Rattle.cedar_phases.proofs.resolving.resolve_tables.Goals as goal

pub returns-in-Ok-clause-passes : goal.returns-in-Ok-clause-passes
returns-in-Ok-clause-passes c =
    passed (λ _. (W : World) → HoldsUnfolded W c.args.all_defs.now c.in-Ok.types.full.common_types c.in-Ok.types.full.uses c.in-Ok.types.uses c.args.tables.entity_types c.args.tables.actions → AllPassed W last_phases) (λ _. (W : World) (ds : List Definition) → Holds W c.args.all_defs.now ds c.args.extensions.now → AreTables W c.args.tables → Passes W References → AllPassed W later_phases)
    (λ _ f W ds h t p. (let held : HoldsTypes W c.args.all_defs.now c.args.extensions.now c.args.tables.common_types c.args.tables.uses = record { definitions = ds; holds = h; common_types_are = t.common_types_are; uses_are = t.uses_are; references = p } in c.in-Ok.ensures.passes W held, f W (let held : HoldsTypes W c.args.all_defs.now c.args.extensions.now c.args.tables.common_types c.args.tables.uses = record { definitions = ds; holds = h; common_types_are = t.common_types_are; uses_are = t.uses_are; references = p } in record { definitions = ds; extensions = c.args.extensions.now; holds = h; qualifies = c.in-Ok.ensures.qualifies W held; unfolded = c.in-Ok.ensures.unfolded W held; entity_types_are = t.entity_types_are; actions_are = t.actions_are; references = p; unfolding_passes = c.in-Ok.ensures.passes W held }))) c.assemble.result c.assemble.ensures.passes

pub returns-in-Ok-clause-denotes : goal.returns-in-Ok-clause-denotes
returns-in-Ok-clause-denotes c =
    passed (λ S. (W : World) → HoldsUnfolded W c.args.all_defs.now c.in-Ok.types.full.common_types c.in-Ok.types.full.uses c.in-Ok.types.uses c.args.tables.entity_types c.args.tables.actions → Denotes W (schema_in S)) (λ S. (W : World) (ds : List Definition) → Holds W c.args.all_defs.now ds c.args.extensions.now → AreTables W c.args.tables → Passes W References → Denotes W (schema_in S))
    (λ S f W ds h t p. f W (let held : HoldsTypes W c.args.all_defs.now c.args.extensions.now c.args.tables.common_types c.args.tables.uses = record { definitions = ds; holds = h; common_types_are = t.common_types_are; uses_are = t.uses_are; references = p } in record { definitions = ds; extensions = c.args.extensions.now; holds = h; qualifies = c.in-Ok.ensures.qualifies W held; unfolded = c.in-Ok.ensures.unfolded W held; entity_types_are = t.entity_types_are; actions_are = t.actions_are; references = p; unfolding_passes = c.in-Ok.ensures.passes W held })) c.assemble.result c.assemble.ensures.denotes

pub returns-in-Ok-clause-refused : goal.returns-in-Ok-clause-refused
returns-in-Ok-clause-refused c =
    refused (λ e. (W : World) → HoldsUnfolded W c.args.all_defs.now c.in-Ok.types.full.common_types c.in-Ok.types.full.uses c.in-Ok.types.uses c.args.tables.entity_types c.args.tables.actions → OneRefuses W last_phases (told e)) (λ e. (W : World) (ds : List Definition) → Holds W c.args.all_defs.now ds c.args.extensions.now → AreTables W c.args.tables → Passes W References → OneRefuses W later_phases (told e))
    (λ e f W ds h t p. inr (let held : HoldsTypes W c.args.all_defs.now c.args.extensions.now c.args.tables.common_types c.args.tables.uses = record { definitions = ds; holds = h; common_types_are = t.common_types_are; uses_are = t.uses_are; references = p } in c.in-Ok.ensures.passes W held, f W (let held : HoldsTypes W c.args.all_defs.now c.args.extensions.now c.args.tables.common_types c.args.tables.uses = record { definitions = ds; holds = h; common_types_are = t.common_types_are; uses_are = t.uses_are; references = p } in record { definitions = ds; extensions = c.args.extensions.now; holds = h; qualifies = c.in-Ok.ensures.qualifies W held; unfolded = c.in-Ok.ensures.unfolded W held; entity_types_are = t.entity_types_are; actions_are = t.actions_are; references = p; unfolding_passes = c.in-Ok.ensures.passes W held }))) c.assemble.result c.assemble.ensures.refused

pub returns-in-Err-clause-refused : goal.returns-in-Err-clause-refused
returns-in-Err-clause-refused c =
    carried UnfoldedTypes ValidatorSchema (λ e. (W : World) → HoldsTypes W c.args.all_defs.now c.args.extensions.now c.args.tables.common_types c.args.tables.uses → RefusesAt W Unfolding (told e)) (λ e. (W : World) (ds : List Definition) → Holds W c.args.all_defs.now ds c.args.extensions.now → AreTables W c.args.tables → Passes W References → OneRefuses W later_phases (told e))
    (λ e f W ds h t p. inl (f W record { definitions = ds; holds = h; common_types_are = t.common_types_are; uses_are = t.uses_are; references = p })) c.in-Err.failure c.in-Err.ensures.refused

pub returns-in-Ok-clause-as_declared : goal.returns-in-Ok-clause-as_declared
returns-in-Ok-clause-as_declared c =
    refused (KeepsAmong [] (map placed_action (keys_of c.args.tables.actions))) (λ e. (W : World) (ds : List Definition) → Holds W c.args.all_defs.now ds c.args.extensions.now → AreTables W c.args.tables → Passes W References → KeepsAmong (map placed (keys_of c.args.tables.common_types)) (map placed_action (keys_of c.args.tables.actions)) e)
    (λ e kept W ds h t p. keeps_more [] (map placed (keys_of c.args.tables.common_types)) (map placed_action (keys_of c.args.tables.actions)) (map placed_action (keys_of c.args.tables.actions)) (λ x none. absurd none) (λ x among. among) e kept)
    c.assemble.result c.assemble.ensures.as_declared

pub returns-in-Err-clause-as_declared : goal.returns-in-Err-clause-as_declared
returns-in-Err-clause-as_declared c =
    carried UnfoldedTypes ValidatorSchema (λ e. (W : World) → HoldsTypes W c.args.all_defs.now c.args.extensions.now c.args.tables.common_types c.args.tables.uses → KeepsAmong (map placed (keys_of c.args.tables.common_types)) [] e) (λ e. (W : World) (ds : List Definition) → Holds W c.args.all_defs.now ds c.args.extensions.now → AreTables W c.args.tables → Passes W References → KeepsAmong (map placed (keys_of c.args.tables.common_types)) (map placed_action (keys_of c.args.tables.actions)) e)
    (λ e f W ds h t p. keeps_more (map placed (keys_of c.args.tables.common_types)) (map placed (keys_of c.args.tables.common_types)) [] (map placed_action (keys_of c.args.tables.actions)) (λ x among. among) (λ x none. absurd none) e
    (f W record { definitions = ds; holds = h; common_types_are = t.common_types_are; uses_are = t.uses_are; references = p })) c.in-Err.failure c.in-Err.ensures.as_declared
