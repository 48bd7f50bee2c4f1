-- SPDX-License-Identifier: Apache-2.0
use Rattle.cedar_phases.specs.declared.unfolding.FullTypes.{FullTypes}
use Rattle.cedar_phases.specs.declared.unfolding.UnfoldedTypes.{UnfoldedTypes}
use Rattle.std.proofs.Common.{◌≡◌, ◌⊎◌, List, [], map, sym, subst}
use Rattle.std.specs.List.{AllZip}
use Rattle.std.specs.Map.{keys_of}
use Rattle.std.specs.declared.result.Result.TheVariants.{Err}
use Rattle.cedar_data.specs.Maps.{map_values}
use Rattle.cedar_declared.specs.Held.{names_of}
use Rattle.cedar_declared.specs.Targets.{resolving}
use Rattle.cedar_names.specs.Components.{components}
use Rattle.cedar_phases.specs.Holding.{HoldsTypes, uses_of}
use Rattle.cedar_phases.proofs.Carried.{carried, passed, refused}
use Rattle.cedar_phases.proofs.KeptDeclarations.{keys_kept}
use Rattle.cedar_phases.proofs.UnfoldedWorld.{never_refused, qualifies, unfolded, unfolding_passes, unfolding_refuses}
use Rattle.cedar_phases.proofs.unfolding.unfolded_types.Goals as goal
use Rattle.cedar_schema_error.specs.FullNames.{FullName}
use Rattle.cedar_schema_error.specs.KeptDeclarations.{KeepsAmong, placed}
use Rattle.cedar_schema_error.specs.Told.{told}
use Rattle.cedar_sound.specs.Sound.{Passes, RefusesAt, Unfolding}
use Rattle.cedar_unfold.specs.Full.{by_place, job_of}
use Rattle.cedar_unfold.specs.Resolved.{Resolved}
use Rattle.cedar_unfold.specs.ResolvedViews.{resolved}
use Rattle.cedar_unfold.specs.Tables.{by_name}
use Rattle.cedar_unfold.specs.UnfoldPhases.{IsUnfolded, Unfoldable, UnfoldsAt, WhyNotUnfoldable}
use Rattle.cedar_unfold.specs.WrittenViews.{written_type}
use Rattle.cedar_qualified.specs.of_world.Qualified.{QualifiesJob}
use Rattle.cedar_qualified.specs.of_world.Worlds.{World, job}
use Rattle.cedar_written.specs.Answers.{all_values}
use Rattle.cedar_written.specs.Through.{through_type}

pub returns-in-Ok-clause-passes : goal.returns-in-Ok-clause-passes
returns-in-Ok-clause-passes c =
    passed (λ _. Unfoldable (job_of (by_name (written_type components) c.in-Ok.full.common_types) (by_place (written_type components) c.in-Ok.full.uses) c.args.extensions.now)) (λ _. (W : World) → HoldsTypes W c.args.all_defs.now c.args.extensions.now c.args.common_types c.args.uses → Passes W Unfolding)
    (λ _ done W h. unfolding_passes W c.args.all_defs.now h.definitions c.args.extensions.now h.holds c.args.common_types c.args.uses h.common_types_are h.uses_are c.in-Ok.full.common_types c.in-Ok.full.uses c.in-Ok.ensures.common_types c.in-Ok.ensures.uses done) c.unfold_full.result c.unfold_full.ensures.done

pub returns-in-Ok-clause-qualifies : goal.returns-in-Ok-clause-qualifies
returns-in-Ok-clause-qualifies c =
    passed (λ u. u.full ≡ c.in-Ok.full) (λ u. (W : World) → HoldsTypes W c.args.all_defs.now c.args.extensions.now c.args.common_types c.args.uses → QualifiesJob (job W) (by_name (written_type components) u.full.common_types) (by_place (written_type components) u.full.uses))
    (λ u is W h. subst (λ f. QualifiesJob (job W) (by_name (written_type components) f.common_types) (by_place (written_type components) f.uses)) (sym is) (qualifies W c.args.all_defs.now h.definitions c.args.extensions.now h.holds c.args.common_types c.args.uses h.common_types_are h.uses_are c.in-Ok.full.common_types c.in-Ok.full.uses c.in-Ok.ensures.common_types c.in-Ok.ensures.uses)) c.unfold_full.result c.unfold_full.ensures.full

pub returns-in-Ok-clause-unfolded : goal.returns-in-Ok-clause-unfolded
returns-in-Ok-clause-unfolded c =
    passed (λ u. (cs : List (FullName × Resolved)) × IsUnfolded (job_of (by_name (written_type components) c.in-Ok.full.common_types) (by_place (written_type components) c.in-Ok.full.uses) c.args.extensions.now) cs (by_place resolved u.uses)) (λ u. (W : World) → HoldsTypes W c.args.all_defs.now c.args.extensions.now c.args.common_types c.args.uses → AllZip (UnfoldsAt (job W)) (uses_of W) (by_place resolved u.uses))
    (λ u done W h. (unfolded W c.args.all_defs.now h.definitions c.args.extensions.now h.holds c.args.common_types c.args.uses h.common_types_are h.uses_are c.in-Ok.full.common_types c.in-Ok.full.uses c.in-Ok.ensures.common_types c.in-Ok.ensures.uses done.0 (by_place resolved u.uses) done.1).uses_are) c.unfold_full.result c.unfold_full.ensures.unfolded

pub returns-in-Ok-clause-refused : goal.returns-in-Ok-clause-refused
returns-in-Ok-clause-refused c =
    refused (λ e. WhyNotUnfoldable (job_of (by_name (written_type components) c.in-Ok.full.common_types) (by_place (written_type components) c.in-Ok.full.uses) c.args.extensions.now) (told e)) (λ e. (W : World) → HoldsTypes W c.args.all_defs.now c.args.extensions.now c.args.common_types c.args.uses → RefusesAt W Unfolding (told e))
    (λ e why W h. unfolding_refuses W c.args.all_defs.now h.definitions c.args.extensions.now h.holds c.args.common_types c.args.uses h.common_types_are h.uses_are c.in-Ok.full.common_types c.in-Ok.full.uses c.in-Ok.ensures.common_types c.in-Ok.ensures.uses (told e) why) c.unfold_full.result c.unfold_full.ensures.refused

pub returns-in-Err-clause-refused : goal.returns-in-Err-clause-refused
returns-in-Err-clause-refused c =
    carried FullTypes UnfoldedTypes (λ e. (all_values (map_values (through_type (resolving (names_of c.args.all_defs.now))) c.args.common_types) ≡ Err e) ⊎ (all_values (map_values (through_type (resolving (names_of c.args.all_defs.now))) c.args.uses) ≡ Err e))
    (λ e. (W : World) → HoldsTypes W c.args.all_defs.now c.args.extensions.now c.args.common_types c.args.uses → RefusesAt W Unfolding (told e))
    (λ e which W h. absurd (never_refused W c.args.all_defs.now h.definitions c.args.extensions.now h.holds c.args.common_types c.args.uses h.common_types_are h.uses_are e h.references which)) c.in-Err.failure c.in-Err.ensures.refused

pub returns-in-Ok-clause-as_declared : goal.returns-in-Ok-clause-as_declared
returns-in-Ok-clause-as_declared c =
    refused (KeepsAmong (map placed (keys_of c.in-Ok.full.common_types)) []) (λ e. (W : World) → HoldsTypes W c.args.all_defs.now c.args.extensions.now c.args.common_types c.args.uses → KeepsAmong (map placed (keys_of c.args.common_types)) [] e)
    (λ e k W h. subst (λ names. KeepsAmong (map placed names) [] e) (keys_kept (through_type (resolving (names_of c.args.all_defs.now))) c.args.common_types c.in-Ok.full.common_types c.in-Ok.ensures.common_types) k) c.unfold_full.result c.unfold_full.ensures.as_declared

pub returns-in-Err-clause-as_declared : goal.returns-in-Err-clause-as_declared
returns-in-Err-clause-as_declared c =
    carried FullTypes UnfoldedTypes (λ e. (all_values (map_values (through_type (resolving (names_of c.args.all_defs.now))) c.args.common_types) ≡ Err e) ⊎ (all_values (map_values (through_type (resolving (names_of c.args.all_defs.now))) c.args.uses) ≡ Err e))
    (λ e. (W : World) → HoldsTypes W c.args.all_defs.now c.args.extensions.now c.args.common_types c.args.uses → KeepsAmong (map placed (keys_of c.args.common_types)) [] e)
    (λ e which W h. absurd (never_refused W c.args.all_defs.now h.definitions c.args.extensions.now h.holds c.args.common_types c.args.uses h.common_types_are h.uses_are e h.references which)) c.in-Err.failure c.in-Err.ensures.refused
