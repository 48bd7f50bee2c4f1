-- SPDX-License-Identifier: Apache-2.0
-- No text is refused for what only JSON or code comes to.
use Rattle.std.proofs.Common.{◌≡◌, ℕ, false, List, inl, inr, refl, sym, subst}
use Rattle.cedar_data.specs.Firsts.{AllPass}
use Rattle.cedar_fragment_world.specs.of_convert_fragment.Fragments.{Fragment}
use Rattle.cedar_fragment_world.specs.of_convert_faults.Gathering.{namespace_cmp, namespaces_of}
use Rattle.cedar_fragment_world.specs.FragmentFaults.{definition_faults, fragment_faults}
use Rattle.cedar_fragment_world.specs.FragmentWorlds.{world_of_fragment}
use Rattle.cedar_data.specs.Maps.{IsSortedMap}
use Rattle.cedar_schema.specs.Fragments.{FragmentCause}
use Rattle.cedar_schema.specs.Texts.{TextCause}
use Rattle.cedar_schema.specs.of_schema_errors.declared.schema_error.CedarSchemaError.TheVariants.{Schema}
use Rattle.cedar_schema_error.specs.Refusals.{Refusal}
use Rattle.cedar_schema_error.specs.Told.{told}
use Rattle.cedar_schema_error.specs.declared.action_behavior.ActionBehavior.TheVariants.{ProhibitAttributes}
use Rattle.cedar_schema_error.specs.declared.schema_error.SchemaError.{SchemaError}
use Rattle.cedar_sound.proofs.NothingMissed.{pass_flat, pass_weaker}
use Rattle.cedar_sound.specs.Sound.{Cause}
use Rattle.cedar_refusal_laws.specs.NotOfTexts.{never_of_texts}
use Rattle.cedar_refusal_laws.proofs.Causes.{Fails, cause_fails}
use Rattle.cedar_refusal_laws.proofs.DeclaredOnce.{DeclaresByMaps, declared_once}
use Rattle.cedar_refusal_laws.proofs.Members.{of_first}
use Rattle.cedar_refusal_laws.proofs.TextFaults.{commons_of_texts, definition_of_texts, uses_of_texts}
use Rattle.cedar_refusal_laws.proofs.TextNames.{fragment_ascends, read_of_maps}
use Rattle.cedar_refusal_laws.proofs.TextTypes.{IsWrittenOut, gathered_written}

module _ (extensions : List (List ℕ)) (F : Fragment) (written : AllPass (λ n. IsWrittenOut extensions n.1) F) (sorted : IsSortedMap namespace_cmp F) (maps : AllPass DeclaresByMaps F) where
  world_alone : (e : Refusal) → Cause (world_of_fragment F extensions) e → never_of_texts e ≡ false
  world_alone = cause_fails (world_of_fragment F extensions) never_of_texts (record {
    type_shadows = λ a b. refl;
    action_shadows = λ a b. refl;
    no_type = λ r rs. refl;
    no_action = λ r rs. refl;
    circular_type = λ name. refl;
    too_deep = λ place. refl;
    no_record = λ place. refl;
    circular_action = λ uid. refl;
  }) (record {
    reserved = λ name first. refl;
    twice = λ d again. absurd (declared_once F extensions sorted maps d again);
    common_faults = commons_of_texts F extensions written;
    use_faults = uses_of_texts F extensions written;
    undeclared = λ name others is. refl;
  })

  fragment_alone : (e : Refusal) → FragmentCause ProhibitAttributes extensions F e → never_of_texts e ≡ false
  fragment_alone e (inl first) = of_first (Fails never_of_texts) (fragment_faults ProhibitAttributes F) e (pass_flat (Fails never_of_texts) (definition_faults ProhibitAttributes) F
      (pass_weaker (λ n. IsWrittenOut extensions n.1) (λ n. AllPass (Fails never_of_texts) (definition_faults ProhibitAttributes n)) (definition_of_texts extensions) F written)) first
  fragment_alone e (inr later) = world_alone e later.1

pub text_alone : (text : List ℕ) (extensions : List (List ℕ)) (e : SchemaError) → TextCause text extensions (Schema e) → never_of_texts (told e) ≡ false
text_alone text extensions e cause =
    let gs = namespaces_of cause.2.tree in
    let is = sym cause.2.declares.fragment_is in
    fragment_alone extensions cause.0
    (subst (AllPass (λ n. IsWrittenOut extensions n.1)) is (gathered_written extensions gs))
    (subst (IsSortedMap namespace_cmp) is (fragment_ascends gs))
    (subst (AllPass DeclaresByMaps) is (read_of_maps cause.2.reads.tokens cause.2.tree cause.2.reads.reads))
    (told e) cause.3
