-- SPDX-License-Identifier: Apache-2.0
use Rattle.std.proofs.Common.{◌≡◌, ◌++◌, true}
use Rattle.cedar_declared.specs.of_definitions.Structures.{definitions_of}
use Rattle.cedar_phases.specs.Holding.{AllPassed, Holds, OneRefuses, early_phases, later_phases}
use Rattle.cedar_checks.specs.SchemaViews.{schema_in}
use Rattle.cedar_phases.proofs.Carried.{carried, passed, refused}
use Rattle.cedar_phases.specs.Kept.{KeepsDeclared, is_missing}
use Rattle.cedar_phases.proofs.KeptReferences.{Missed}
use Rattle.cedar_phases.proofs.OtherRefusals.{later_other, true-false}
use Rattle.cedar_phases.proofs.Composing.{refused_first, refused_later}
use Rattle.cedar_resolved.specs.declared.schema.ValidatorSchema.{ValidatorSchema}
use Rattle.cedar_schema_error.specs.Told.{told}
use Rattle.cedar_sound.specs.Sound.{Passes, References, RefusesAt}
use Rattle.cedar_qualified.specs.of_world.Denotes.{Denotes}
use Rattle.cedar_qualified.specs.of_world.Worlds.{World}
use Rattle.cedar_names.specs.declared.extensions.Extensions.{Extensions}
use Rattle.cedar_phases.proofs.resolving.resolve_declarations.Goals as goal

pub returns-in-Ok-clause-early : goal.returns-in-Ok-clause-early
returns-in-Ok-clause-early c =
    passed (λ _. (W : World) → Holds W c.args.declarations.all_defs (definitions_of c.args.declarations.definitions) c.args.extensions.now → Passes W References → AllPassed W later_phases) (λ _. (W : World) → Holds W c.args.declarations.all_defs (definitions_of c.args.declarations.definitions) c.args.extensions.now → AllPassed W early_phases)
    (λ _ f W h. c.in-Ok.ensures.passes W c.args.extensions.now h) c.resolve_checked.result c.resolve_checked.ensures.passes

pub returns-in-Ok-clause-later : goal.returns-in-Ok-clause-later
returns-in-Ok-clause-later c =
    passed (λ _. (W : World) → Holds W c.args.declarations.all_defs (definitions_of c.args.declarations.definitions) c.args.extensions.now → Passes W References → AllPassed W later_phases) (λ _. (W : World) → Holds W c.args.declarations.all_defs (definitions_of c.args.declarations.definitions) c.args.extensions.now → AllPassed W later_phases)
    (λ _ f W h. f W h (c.in-Ok.ensures.passes W c.args.extensions.now h).0) c.resolve_checked.result c.resolve_checked.ensures.passes

pub returns-in-Ok-clause-denotes : goal.returns-in-Ok-clause-denotes
returns-in-Ok-clause-denotes c =
    passed (λ S. (W : World) → Holds W c.args.declarations.all_defs (definitions_of c.args.declarations.definitions) c.args.extensions.now → Passes W References → Denotes W (schema_in S)) (λ S. (W : World) → Holds W c.args.declarations.all_defs (definitions_of c.args.declarations.definitions) c.args.extensions.now → Denotes W (schema_in S))
    (λ _ f W h. f W h (c.in-Ok.ensures.passes W c.args.extensions.now h).0) c.resolve_checked.result c.resolve_checked.ensures.denotes

pub returns-in-Ok-clause-refused : goal.returns-in-Ok-clause-refused
returns-in-Ok-clause-refused c =
    refused (λ e. (W : World) → Holds W c.args.declarations.all_defs (definitions_of c.args.declarations.definitions) c.args.extensions.now → Passes W References → OneRefuses W later_phases (told e)) (λ e. (W : World) → Holds W c.args.declarations.all_defs (definitions_of c.args.declarations.definitions) c.args.extensions.now → OneRefuses W (early_phases ++ later_phases) (told e))
    (λ e f W h. refused_later (Passes W) (RefusesAt W) early_phases later_phases (told e) (c.in-Ok.ensures.passes W c.args.extensions.now h) (f W h (c.in-Ok.ensures.passes W c.args.extensions.now h).0))
    c.resolve_checked.result c.resolve_checked.ensures.refused

pub returns-clause-refused : goal.returns-clause-refused
returns-clause-refused c =
    carried (Unit {0}) ValidatorSchema (λ e. (W : World) (X : Extensions) → Holds W c.args.declarations.all_defs (definitions_of c.args.declarations.definitions) X → OneRefuses W early_phases (told e))
    (λ e. (W : World) → Holds W c.args.declarations.all_defs (definitions_of c.args.declarations.definitions) c.args.extensions.now → OneRefuses W (early_phases ++ later_phases) (told e))
    (λ e f W h. refused_first (Passes W) (RefusesAt W) early_phases later_phases (told e) (f W c.args.extensions.now h)) c.in-Err.failure c.in-Err.ensures.refused

pub returns-in-Ok-clause-kept : goal.returns-in-Ok-clause-kept
returns-in-Ok-clause-kept c =
    refused (λ e. (W : World) → Holds W c.args.declarations.all_defs (definitions_of c.args.declarations.definitions) c.args.extensions.now → Passes W References → OneRefuses W later_phases (told e))
    (λ e. (W : World) → Holds W c.args.declarations.all_defs (definitions_of c.args.declarations.definitions) c.args.extensions.now → is_missing (told e) ≡ true → Missed c.args.declarations.all_defs c.args.declarations.definitions e)
    (λ e f W h is. absurd (true-false _ is (later_other W (told e) (f W h (c.in-Ok.ensures.passes W c.args.extensions.now h).0))))
    c.resolve_checked.result c.resolve_checked.ensures.refused

pub returns-clause-kept : goal.returns-clause-kept
returns-clause-kept c =
    carried (Unit {0}) ValidatorSchema (λ e. is_missing (told e) ≡ true → Missed c.args.declarations.all_defs c.args.declarations.definitions e)
    (λ e. (W : World) → Holds W c.args.declarations.all_defs (definitions_of c.args.declarations.definitions) c.args.extensions.now → is_missing (told e) ≡ true → Missed c.args.declarations.all_defs c.args.declarations.definitions e)
    (λ e f W h. f) c.in-Err.failure c.in-Err.ensures.kept

pub returns-in-Ok-clause-as_declared : goal.returns-in-Ok-clause-as_declared
returns-in-Ok-clause-as_declared c =
    refused (λ e. (W : World) → Holds W c.args.declarations.all_defs (definitions_of c.args.declarations.definitions) c.args.extensions.now → Passes W References → KeepsDeclared (definitions_of c.args.declarations.definitions) e) (λ e. (W : World) → Holds W c.args.declarations.all_defs (definitions_of c.args.declarations.definitions) c.args.extensions.now → KeepsDeclared (definitions_of c.args.declarations.definitions) e)
    (λ e f W h. f W h (c.in-Ok.ensures.passes W c.args.extensions.now h).0) c.resolve_checked.result c.resolve_checked.ensures.as_declared

pub returns-clause-as_declared : goal.returns-clause-as_declared
returns-clause-as_declared c =
    carried (Unit {0}) ValidatorSchema (KeepsDeclared (definitions_of c.args.declarations.definitions)) (λ e. (W : World) → Holds W c.args.declarations.all_defs (definitions_of c.args.declarations.definitions) c.args.extensions.now → KeepsDeclared (definitions_of c.args.declarations.definitions) e)
    (λ e kept W h. kept) c.in-Err.failure c.in-Err.ensures.as_declared
