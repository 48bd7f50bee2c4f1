-- SPDX-License-Identifier: Apache-2.0
-- Each text is well formed, or there is a cause why it isn't.
use Rattle.std.proofs.Common.{◌≡◌, ◌⊎◌, inl, inr, ℕ, List, refl, subst}
use Rattle.std.specs.Prelude.{IsUtf8}
use Rattle.cedar_convert_fragment.specs.Fragments.{Fragment}
use Rattle.cedar_convert_text.specs.Texts.{DeclaresText, TellsText}
use Rattle.cedar_convert_text.specs.declared.parsing.CedarSchemaParseErrors.{CedarSchemaParseErrors}
use Rattle.cedar_convert_warnings.specs.declared.warnings.SchemaWarning.{SchemaWarning}
use Rattle.cedar_decided_laws.proofs.Fragments.{fragment_sound_or_caused}
use Rattle.cedar_schema.specs.Fragments.{FragmentCause, SoundFragment}
use Rattle.cedar_schema.specs.Texts.{DenotesSchema, IsWellFormed}
use Rattle.cedar_schema.specs.of_world.Schemas.{Schema}
use Rattle.cedar_schema_error.specs.Refusals.{Refusal}
use Rattle.cedar_schema_error.specs.declared.action_behavior.ActionBehavior.TheVariants.{ProhibitAttributes}
use Rattle.cedar_schema_errors.specs.Sources.{looks_like_json}
use Rattle.cedar_schema.proofs.Declaring.{declared_or_not, one_declared}
use Rattle.cedar_schema.proofs.Refusing.{sound_fragment_or_refused, some_schema_of_text}
use Rattle.cedar_text_laws.specs.Refused.{IsRefused, declares_none, unsound}
use Rattle.cedar_text_laws.proofs.Declaring.{declared_or_told}

module _ (text : List ℕ) (extensions : List (List ℕ)) where
  abbrev Judged : Type 0
  Judged = ((F : Fragment) × (warned : List SchemaWarning) × IsWellFormed text extensions F warned) ⊎ IsRefused text extensions

  by_soundness : (F : Fragment) (warned : List SchemaWarning) → DeclaresText text extensions F warned
      → SoundFragment ProhibitAttributes extensions F ⊎ ((e : Refusal) × FragmentCause ProhibitAttributes extensions F e) → Judged
  by_soundness F warned declares (inl sound) = inl (F, warned, record { declares = declares; sound = sound })
  by_soundness F warned declares (inr caused) = inr (unsound F warned caused.0 declares caused.1)

  by_declaring : ((F : Fragment) × (warned : List SchemaWarning) × DeclaresText text extensions F warned) ⊎ ((errors : CedarSchemaParseErrors) × TellsText text errors) → Judged
  by_declaring (inl declared) = by_soundness declared.0 declared.1 declared.2 (fragment_sound_or_caused ProhibitAttributes extensions declared.0)
  by_declaring (inr told) = inr (declares_none (record { errors = told.0; suspect_json_format = looks_like_json text }) (told.1, refl))

  -- a text is well formed, or there is a cause why it isn't
  pub well_formed_or_caused : IsUtf8 text → Judged
  well_formed_or_caused u = by_declaring (declared_or_told text extensions u)

  denoted_from : Judged → ((S : Schema) × (warned : List SchemaWarning) × DenotesSchema text extensions S warned) ⊎ IsRefused text extensions
  denoted_from (inl w) = let d = some_schema_of_text text extensions w.0 w.1 w.2 in inl (d.0, w.1, d.1)
  denoted_from (inr refused) = inr refused

  -- a text denotes a schema, or there is a cause why it denotes none
  pub denoted_or_caused : IsUtf8 text → ((S : Schema) × (warned : List SchemaWarning) × DenotesSchema text extensions S warned) ⊎ IsRefused text extensions
  denoted_or_caused u = denoted_from (well_formed_or_caused u)

  -- no text is both well formed and refused
  pub never_both : (F : Fragment) (warned : List SchemaWarning) → IsWellFormed text extensions F warned → IsRefused text extensions → ⊥
  never_both F warned w (declares_none e told) = declared_or_not text extensions F warned e.errors w.declares told.0
  never_both F warned w (unsound G others e declares cause) =
      let same : G ≡ F = (one_declared text extensions G F others warned declares w.declares).0 in
      sound_fragment_or_refused ProhibitAttributes extensions F e w.sound (subst (λ (H : Fragment). FragmentCause ProhibitAttributes extensions H e) same cause)
