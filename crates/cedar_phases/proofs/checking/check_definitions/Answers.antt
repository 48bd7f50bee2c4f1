-- SPDX-License-Identifier: Apache-2.0
use Rattle.std.proofs.Common.{◌≡◌, true, inl, inr, Some, map, subst}
use Rattle.cedar_declared.specs.Held.{names_of}
use Rattle.cedar_declared.specs.of_definitions.Structures.{definitions_of}
use Rattle.cedar_sound.specs.of_duplicates.Duplicates.{AreOnce, IsTwice}
use Rattle.cedar_qualified.specs.of_missing.Undeclared.{missing_in_definition, missing_in_each, refusal_of}
use Rattle.cedar_names.specs.declared.extensions.Extensions.{Extensions}
use Rattle.cedar_phases.specs.Holding.{AllPassed, Holds, OneRefuses, early_phases}
use Rattle.cedar_declared.specs.of_definitions.DeclaredNames.{all_actions, all_types}
use Rattle.cedar_phases.specs.Kept.{KeepsDeclared, is_missing}
use Rattle.cedar_phases.proofs.KeptDeclarations.{missed_keep_none}
use Rattle.cedar_phases.proofs.KeptReferences.{Missed}
use Rattle.cedar_phases.proofs.OtherRefusals.{true-false, twice_other}
use Rattle.cedar_phases.proofs.Carried.{as_written, carried, passed, refused}
use Rattle.cedar_phases.proofs.CheckedWorld.{duplicates_pass, duplicates_refuse, references_pass, references_refuse}
use Rattle.cedar_phases.proofs.checking.check_definitions.Goals as goal
use Rattle.cedar_schema_error.specs.KeptDeclarations.{placed, placed_action}
use Rattle.cedar_schema_error.specs.Told.{told}
use Rattle.cedar_qualified.specs.of_world.Worlds.{World}

pub returns-in-Ok-clause-passes : goal.returns-in-Ok-clause-passes
returns-in-Ok-clause-passes c =
    passed (λ _. AreOnce c.definitions.result.now) (λ _. (W : World) (X : Extensions) → Holds W c.args.all_defs.now (definitions_of c.args.definitions.now) X → AllPassed W early_phases)
    (λ _ once W X h. (
      references_pass W c.args.all_defs.now (definitions_of c.args.definitions.now) X h c.in-Ok.ensures.nothing,
      (duplicates_pass W c.args.all_defs.now (definitions_of c.args.definitions.now) X h (subst (λ ds. AreOnce ds) c.definitions.ensures once), tt),
    ))
    c.refuse_duplicates.result c.refuse_duplicates.ensures.once

pub returns-in-Ok-clause-refused : goal.returns-in-Ok-clause-refused
returns-in-Ok-clause-refused c =
    refused (λ e. IsTwice c.definitions.result.now (told e)) (λ e. (W : World) (X : Extensions) → Holds W c.args.all_defs.now (definitions_of c.args.definitions.now) X → OneRefuses W early_phases (told e))
    (λ e twice W X h. inr (
      references_pass W c.args.all_defs.now (definitions_of c.args.definitions.now) X h c.in-Ok.ensures.nothing,
      inl (duplicates_refuse W c.args.all_defs.now (definitions_of c.args.definitions.now) X h (told e) (subst (λ ds. IsTwice ds (told e)) c.definitions.ensures twice)),
    ))
    c.refuse_duplicates.result (as_written (λ e. IsTwice c.definitions.result.now (told e)) c.refuse_duplicates.result c.refuse_duplicates.ensures.twice)

pub returns-in-Err-clause-refused : goal.returns-in-Err-clause-refused
returns-in-Err-clause-refused c =
    carried (Unit {0}) (Unit {0}) (λ e. refusal_of (missing_in_each (missing_in_definition (names_of c.args.all_defs.now)) (definitions_of c.args.definitions.now)) ≡ Some e)
    (λ e. (W : World) (X : Extensions) → Holds W c.args.all_defs.now (definitions_of c.args.definitions.now) X → OneRefuses W early_phases (told e))
    (λ e is W X h. inl (references_refuse W c.args.all_defs.now (definitions_of c.args.definitions.now) X h e is)) c.in-Err.failure c.in-Err.ensures.refused

pub returns-in-Ok-clause-kept : goal.returns-in-Ok-clause-kept
returns-in-Ok-clause-kept c =
    refused (λ e. IsTwice c.definitions.result.now (told e)) (λ e. is_missing (told e) ≡ true → Missed c.args.all_defs.now c.args.definitions.now e)
    (λ e twice is. absurd (true-false _ is (twice_other twice.0 (told e) twice.1)))
    c.refuse_duplicates.result (as_written (λ e. IsTwice c.definitions.result.now (told e)) c.refuse_duplicates.result c.refuse_duplicates.ensures.twice)

pub returns-in-Err-clause-kept : goal.returns-in-Err-clause-kept
returns-in-Err-clause-kept c =
    carried (Unit {0}) (Unit {0}) (Missed c.args.all_defs.now c.args.definitions.now) (λ e. is_missing (told e) ≡ true → Missed c.args.all_defs.now c.args.definitions.now e)
    (λ e missed is. missed) c.in-Err.failure c.in-Err.ensures.refused

pub returns-in-Ok-clause-as_declared : goal.returns-in-Ok-clause-as_declared
returns-in-Ok-clause-as_declared c =
    refused (KeepsDeclared c.definitions.result.now) (KeepsDeclared (definitions_of c.args.definitions.now)) (λ e kept. subst (λ ds. KeepsDeclared ds e) c.definitions.ensures kept)
    c.refuse_duplicates.result (as_written (KeepsDeclared c.definitions.result.now) c.refuse_duplicates.result c.refuse_duplicates.ensures.kept)

pub returns-in-Err-clause-as_declared : goal.returns-in-Err-clause-as_declared
returns-in-Err-clause-as_declared c =
    carried (Unit {0}) (Unit {0}) (Missed c.args.all_defs.now c.args.definitions.now) (KeepsDeclared (definitions_of c.args.definitions.now))
    (missed_keep_none c.args.all_defs.now c.args.definitions.now (map placed (all_types (definitions_of c.args.definitions.now))) (map placed_action (all_actions (definitions_of c.args.definitions.now)))) c.in-Err.failure c.in-Err.ensures.refused
