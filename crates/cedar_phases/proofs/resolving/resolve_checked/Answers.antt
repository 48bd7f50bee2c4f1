-- SPDX-License-Identifier: Apache-2.0
use Rattle.std.proofs.Common.{List, map, subst}
use Rattle.std.specs.Map.{keys_of}
use Rattle.cedar_declared.specs.of_definitions.Structures.{definitions_of}
use Rattle.cedar_phases.specs.Holding.{AllPassed, AreTables, Definition, Holds, OneRefuses, later_phases}
use Rattle.cedar_phases.specs.Kept.{KeepsDeclared}
use Rattle.cedar_phases.specs.Places.{IsPlaced, places_in, places_outlined}
use Rattle.cedar_checks.specs.SchemaViews.{schema_in}
use Rattle.cedar_phases.proofs.Carried.{passed, refused}
use Rattle.cedar_schema_error.specs.KeptDeclarations.{KeepsAmong, placed, placed_action}
use Rattle.cedar_schema_error.specs.Told.{told}
use Rattle.cedar_sound.specs.Sound.{Passes, References}
use Rattle.cedar_qualified.specs.of_world.Denotes.{Denotes}
use Rattle.cedar_qualified.specs.of_world.Worlds.{World}
use Rattle.cedar_phases.proofs.DeclaredTables.{tables_held}
use Rattle.cedar_phases.proofs.KeptDeclarations.{tables_keep}
use Rattle.cedar_phases.proofs.Placing.{placed_there}
use Rattle.cedar_phases.proofs.resolving.resolve_checked.Goals as goal

pub returns-clause-passes : goal.returns-clause-passes
returns-clause-passes c =
    passed (λ _. (W : World) (ds : List Definition) → Holds W c.args.all_defs.now ds c.args.extensions.now → AreTables W c.in_ok-tables.tables → Passes W References → AllPassed W later_phases) (λ _. (W : World) → Holds W c.args.all_defs.now (definitions_of c.args.definitions) c.args.extensions.now → Passes W References → AllPassed W later_phases)
    (λ _ f W h p. f W (definitions_of c.args.definitions) h (tables_held W c.args.all_defs.now (definitions_of c.args.definitions) c.args.extensions.now h c.into_definitions.result.items c.into_definitions.ensures c.in_ok-tables.tables c.in_ok-tables.ensures.common_types c.in_ok-tables.ensures.uses c.in_ok-tables.ensures.entity_types c.in_ok-tables.ensures.actions) p) c.resolve_tables.result c.resolve_tables.ensures.passes

pub returns-clause-denotes : goal.returns-clause-denotes
returns-clause-denotes c =
    passed (λ S. (W : World) (ds : List Definition) → Holds W c.args.all_defs.now ds c.args.extensions.now → AreTables W c.in_ok-tables.tables → Passes W References → Denotes W (schema_in S)) (λ S. (W : World) → Holds W c.args.all_defs.now (definitions_of c.args.definitions) c.args.extensions.now → Passes W References → Denotes W (schema_in S))
    (λ _ f W h p. f W (definitions_of c.args.definitions) h (tables_held W c.args.all_defs.now (definitions_of c.args.definitions) c.args.extensions.now h c.into_definitions.result.items c.into_definitions.ensures c.in_ok-tables.tables c.in_ok-tables.ensures.common_types c.in_ok-tables.ensures.uses c.in_ok-tables.ensures.entity_types c.in_ok-tables.ensures.actions) p) c.resolve_tables.result c.resolve_tables.ensures.denotes

pub returns-clause-placed : goal.returns-clause-placed
returns-clause-placed c =
    passed (IsPlaced (places_outlined c.in_ok-tables.tables.entity_types c.in_ok-tables.tables.actions)) (IsPlaced (places_in (definitions_of c.args.definitions)))
    (λ S placed. subst (λ ds. IsPlaced (places_in ds) S) c.into_definitions.ensures (placed_there c.into_definitions.result.items c.in_ok-tables.tables.entity_types c.in_ok-tables.tables.actions c.in_ok-tables.ensures.entity_places c.in_ok-tables.ensures.action_places S placed))
    c.resolve_tables.result c.resolve_tables.ensures.placed

pub returns-clause-refused : goal.returns-clause-refused
returns-clause-refused c =
    refused (λ e. (W : World) (ds : List Definition) → Holds W c.args.all_defs.now ds c.args.extensions.now → AreTables W c.in_ok-tables.tables → Passes W References → OneRefuses W later_phases (told e)) (λ e. (W : World) → Holds W c.args.all_defs.now (definitions_of c.args.definitions) c.args.extensions.now → Passes W References → OneRefuses W later_phases (told e))
    (λ _ f W h p. f W (definitions_of c.args.definitions) h (tables_held W c.args.all_defs.now (definitions_of c.args.definitions) c.args.extensions.now h c.into_definitions.result.items c.into_definitions.ensures c.in_ok-tables.tables c.in_ok-tables.ensures.common_types c.in_ok-tables.ensures.uses c.in_ok-tables.ensures.entity_types c.in_ok-tables.ensures.actions) p) c.resolve_tables.result c.resolve_tables.ensures.refused

pub returns-clause-as_declared : goal.returns-clause-as_declared
returns-clause-as_declared c =
    refused (λ e. (W : World) (ds : List Definition) → Holds W c.args.all_defs.now ds c.args.extensions.now → AreTables W c.in_ok-tables.tables → Passes W References → KeepsAmong (map placed (keys_of c.in_ok-tables.tables.common_types)) (map placed_action (keys_of c.in_ok-tables.tables.actions)) e)
    (λ e. (W : World) → Holds W c.args.all_defs.now (definitions_of c.args.definitions) c.args.extensions.now → Passes W References → KeepsDeclared (definitions_of c.args.definitions) e)
    (λ e f W h p. subst (λ ds. KeepsDeclared ds e) c.into_definitions.ensures (tables_keep c.into_definitions.result.items c.in_ok-tables.tables c.in_ok-tables.ensures.kept_common_types c.in_ok-tables.ensures.action_places e
    (f W (definitions_of c.args.definitions) h (tables_held W c.args.all_defs.now (definitions_of c.args.definitions) c.args.extensions.now h c.into_definitions.result.items c.into_definitions.ensures c.in_ok-tables.tables c.in_ok-tables.ensures.common_types c.in_ok-tables.ensures.uses c.in_ok-tables.ensures.entity_types c.in_ok-tables.ensures.actions) p))) c.resolve_tables.result c.resolve_tables.ensures.as_declared
