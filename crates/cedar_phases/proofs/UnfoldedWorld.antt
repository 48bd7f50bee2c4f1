-- SPDX-License-Identifier: Apache-2.0
-- From types over full names to the job of the world.
use Rattle.std.proofs.Common.{◌≡◌, ◌⊎◌, List, [], map, inl, inr, sym, ap, subst}
use Rattle.std.specs.List.{AllZip, filter}
use Rattle.std.specs.Option.{is_none}
use Rattle.std.specs.declared.result.Result.TheVariants.{Ok, Err}
use Rattle.cedar_data.specs.Firsts.{AllPass}
use Rattle.cedar_data.specs.Maps.{map_values}
use Rattle.cedar_declared.specs.Held.{names_of}
use Rattle.cedar_declared.specs.Names.{target}
use Rattle.cedar_declared.specs.Targets.{resolving}
use Rattle.cedar_declared.specs.declared.all_defs.AllDefs.{AllDefs}
use Rattle.cedar_names.specs.Components.{components}
use Rattle.cedar_names.specs.Extensions.{extension_words}
use Rattle.cedar_names.specs.declared.extensions.Extensions.{Extensions}
use Rattle.cedar_names.specs.declared.internal_name.InternalName.{InternalName}
use Rattle.cedar_phases.specs.Holding.{Definition, Holds}
use Rattle.cedar_phases.proofs.Agreeing.{same_target}
use Rattle.cedar_qualified.proofs.JobBridging.{cause_back, unfoldable_back, unfolded_back}
use Rattle.cedar_qualified.proofs.RefusedTypes.{one_misses}
use Rattle.cedar_qualified.proofs.WalkedTypes.{all_walked}
use Rattle.cedar_schema_error.specs.FullNames.{FullName}
use Rattle.cedar_schema_error.specs.NameReferences.{NameReference}
use Rattle.cedar_schema_error.specs.Refusals.{Refusal}
use Rattle.cedar_schema_error.specs.Told.{told_use}
use Rattle.cedar_schema_error.specs.declared.schema_error.SchemaError.{SchemaError}
use Rattle.cedar_schema_error.specs.declared.use_place.UsePlace.{UsePlace}
use Rattle.cedar_schema_error.specs.Refusals as refusal
use Rattle.cedar_sound.specs.Sound.{Passes, References, RefusesAt, Unfolding}
use Rattle.cedar_sound.proofs.NothingMissed.{IsWhole, commons_whole, none_of_all, pass_unmap, uses_whole}
use Rattle.cedar_hierarchy.specs.of_outlines.Outlines.{use_in}
use Rattle.cedar_text.specs.Words.{has_word}
use Rattle.cedar_unfold.specs.Full.{by_place, job_of}
use Rattle.cedar_unfold.specs.Resolved.{Resolved}
use Rattle.cedar_unfold.specs.Tables.{by_name}
use Rattle.cedar_unfold.specs.UnfoldPhases.{IsUnfolded, Unfoldable, UsePasses, WhyNotUnfoldable, full_job}
use Rattle.cedar_unfold.specs.Written.{Written, references}
use Rattle.cedar_unfold.specs.WrittenViews.{written_type}
use Rattle.cedar_qualified.specs.of_world.DefinitionViews.{common_type_in, type_in}
use Rattle.cedar_qualified.specs.of_world.Missing.{first_alone, missing_in}
use Rattle.cedar_qualified.specs.of_world.Qualified.{QualifiesAt, QualifiesJob}
use Rattle.cedar_qualified.specs.of_world.Worlds.{World, all_namespaces, common_types, job, meanings, names, uses}
use Rattle.cedar_written.specs.Answers.{all_values}
use Rattle.cedar_written.specs.Through.{through_type}
use Rattle.cedar_written.specs.declared.conditional_name.ConditionalName.{ConditionalName}
use Rattle.cedar_written.specs.declared.ty.SchemaType.{SchemaType}

-- full types as they are written
abbrev pub written_full : SchemaType InternalName → Written FullName
written_full t = written_type components t

module _ (W : World) (all_defs : AllDefs) (ds : List Definition) (X : Extensions) (h : Holds W all_defs ds X)
    (commons : List (InternalName × SchemaType ConditionalName)) (used : List (UsePlace × SchemaType ConditionalName))
    (commons_are : map common_type_in commons ≡ common_types W) (uses_are : map use_in used ≡ uses W) where
  same : target (names_of all_defs) ≡ target (names W)
  same = same_target (names_of all_defs) (names W) h.names_agree

  missed_alike : missing_in (names W) ≡ missing_in (names_of all_defs)
  missed_alike = λ i t. first_alone (filter (λ r. is_none (sym same i r)) (references t))

  -- where no reference is without target, no type is refused
  pub never_refused : (e : SchemaError) → Passes W References
      → (all_values (map_values (through_type (resolving (names_of all_defs))) commons) ≡ Err e) ⊎ (all_values (map_values (through_type (resolving (names_of all_defs))) used) ≡ Err e) → ⊥
  never_refused e passes (inl refused) = one_misses (names_of all_defs) commons e refused
      (none_of_all (λ c. missing_in (names_of all_defs) (type_in c.1)) commons
      (subst (λ (f : Written NameReference → List NameReference). AllPass (λ (c : InternalName × SchemaType ConditionalName). f (type_in c.1) ≡ []) commons) missed_alike
      (pass_unmap (λ c. IsWhole (names W) c.1) common_type_in commons (subst (AllPass (λ c. IsWhole (names W) c.1)) (sym commons_are) (commons_whole (names W) (all_namespaces W) passes.0)))))
  never_refused e passes (inr refused) = one_misses (names_of all_defs) used e refused
      (none_of_all (λ u. missing_in (names_of all_defs) (type_in u.1)) used
      (subst (λ (f : Written NameReference → List NameReference). AllPass (λ (u : UsePlace × SchemaType ConditionalName). f (type_in u.1) ≡ []) used) missed_alike
      (pass_unmap (λ u. IsWhole (names W) u.1) use_in used (subst (AllPass (λ u. IsWhole (names W) u.1)) (sym uses_are) (uses_whole (names W) (all_namespaces W) passes.0)))))

  module _ (full : List (InternalName × SchemaType InternalName)) (full_uses : List (UsePlace × SchemaType InternalName))
      (walked : all_values (map_values (through_type (resolving (names_of all_defs))) commons) ≡ Ok full)
      (walked_uses : all_values (map_values (through_type (resolving (names_of all_defs))) used) ≡ Ok full_uses) where
    -- the full types are those of the job
    pub qualifies : QualifiesJob (job W) (by_name written_full full) (by_place written_full full_uses)
    qualifies = record {
      commons_are = subst (λ ts. AllZip (QualifiesAt (target (names W))) ts (by_name written_full full)) commons_are
          (subst (λ t. AllZip (QualifiesAt t) (map common_type_in commons) (by_name written_full full)) same (all_walked (names_of all_defs) components commons full walked));
      uses_are = subst (λ ts. AllZip (QualifiesAt (target (names W))) ts (by_place written_full full_uses)) uses_are
          (subst (λ t. AllZip (QualifiesAt t) (map use_in used) (by_place written_full full_uses)) same (all_walked (names_of all_defs) told_use used full_uses walked_uses));
    }

    extensions_same : has_word (extension_words X) ≡ has_word W.extensions
    extensions_same = ap has_word h.extensions_are

    pub unfolding_passes : Unfoldable (job_of (by_name written_full full) (by_place written_full full_uses) X) → Passes W Unfolding
    unfolding_passes u = unfoldable_back (job W) (by_name written_full full) (by_place written_full full_uses) qualifies
        (subst (λ known. Unfoldable (full_job (by_name written_full full) (by_place written_full full_uses) known)) extensions_same u)

    pub unfolding_refuses : (e : Refusal) → WhyNotUnfoldable (job_of (by_name written_full full) (by_place written_full full_uses) X) e → RefusesAt W Unfolding e
    unfolding_refuses e why = cause_back (job W) (by_name written_full full) (by_place written_full full_uses) qualifies e
        (subst (λ known. WhyNotUnfoldable (full_job (by_name written_full full) (by_place written_full full_uses) known) e) extensions_same why)

    pub unfolded : (cs : List (FullName × Resolved)) (us : List (refusal.UsePlace × Resolved)) → IsUnfolded (job_of (by_name written_full full) (by_place written_full full_uses) X) cs us → IsUnfolded (job W) cs us
    unfolded cs us u = unfolded_back (job W) (by_name written_full full) (by_place written_full full_uses) qualifies cs us
        (subst (λ known. IsUnfolded (full_job (by_name written_full full) (by_place written_full full_uses) known) cs us) extensions_same u)

-- each use of an unfoldable world passes
pub uses_pass : (W : World) → Passes W Unfolding → AllPass (UsePasses (meanings W)) (uses W)
unfolding Unfoldable
uses_pass W h = h.1.1.1.0
