-- SPDX-License-Identifier: Apache-2.0
-- From the fragment that a text declares to the schema that the text denotes.
use Rattle.std.proofs.Common.{◌≡◌, ℕ, List, Result, Ok, Err, IfOk, sym, subst}
use Rattle.cedar_fragment_world.specs.of_convert_fragment.Fragments.{Fragment}
use Rattle.cedar_schema_errors.specs.of_convert_text.Texts.{DeclaresText}
use Rattle.cedar_schema_errors.specs.of_convert_warnings.declared.warnings.SchemaWarning.{SchemaWarning}
use Rattle.cedar_data.specs.Answers.{Accepts, IfRefused}
use Rattle.cedar_data.specs.declared.memory.Failure.{Failure}
use Rattle.cedar_data.specs.declared.memory.Failure.TheVariants.{Refused, NoMemory}
use Rattle.cedar_fragment_world.specs.FragmentWorlds.{world_of_fragment}
use Rattle.cedar_schema.proofs.Declaring.{one_declared}
use Rattle.cedar_schema.proofs.Refusing.{well_formed_or_refused}
use Rattle.cedar_phases.specs.Places.{IsPlaced}
use Rattle.cedar_phases.specs.of_resolved.declared.schema.ValidatorSchema.{ValidatorSchema}
use Rattle.cedar_schema.specs.DeclaredPlaces.{IsPlacedBy, places_of}
use Rattle.cedar_schema.specs.Fragments.{SoundFragment}
use Rattle.cedar_schema.specs.Texts.{DenotesSchema, IsWellFormed, ParsingCause, SchemaCause, TextCause}
use Rattle.cedar_schema_error.specs.declared.action_behavior.ActionBehavior.TheVariants.{ProhibitAttributes}
use Rattle.cedar_schema_errors.specs.declared.schema_error.CedarSchemaError.{CedarSchemaError}
use Rattle.cedar_schema_errors.specs.declared.schema_error.CedarSchemaError.TheVariants.{Parsing, Schema}
use Rattle.cedar_fragment_world.specs.of_world.Denotes.{Denotes}
use Rattle.cedar_fragment_world.specs.of_world.Schemas as schemas

-- an answer gives a schema and warnings, however it holds them
module _ {M : Type 0} (seen : M → schemas.Schema) (given : M → List SchemaWarning) (text : List ℕ) (extensions : List (List ℕ)) where
  -- the text declares this fragment
  module _ (F : Fragment) (warned : List SchemaWarning) (declares : DeclaresText text extensions F warned) where
    -- so it denotes what the fragment does
    pub denotes_text : (r : Result M (Failure CedarSchemaError)) → IfOk r (λ _. SoundFragment ProhibitAttributes extensions F) → IfOk r (λ made. Denotes (world_of_fragment F extensions) (seen made)) → IfOk r (λ made. given made ≡ warned)
        → IfOk r (λ made. DenotesSchema text extensions (seen made) (given made))
    denotes_text (Ok made) sound denotes is = record {
      fragment = F;
      well_formed = record { declares = subst (DeclaresText text extensions F) (sym is) declares; sound = sound };
      denotes = denotes;
    }
    denotes_text (Err e) sound denotes is = tt

    -- and is refused for what the fragment is
    pub refused_text : (r : Result M (Failure CedarSchemaError)) → IfRefused r (SchemaCause extensions F) → IfRefused r (TextCause text extensions)
    refused_text (Ok made) cause = tt
    refused_text (Err NoMemory) cause = tt
    refused_text (Err (Refused (Parsing e))) cause = absurd cause
    refused_text (Err (Refused (Schema e))) cause = (F, warned, declares, cause)

  -- an answer to a well formed text accepts it
  pub accepts_text : (r : Result M (Failure CedarSchemaError)) → IfOk r (λ made. DenotesSchema text extensions (seen made) (given made)) → IfRefused r (TextCause text extensions) → (F : Fragment) (warned : List SchemaWarning) → IsWellFormed text extensions F warned
      → Accepts (λ made. Denotes (world_of_fragment F extensions) (seen made) × (given made ≡ warned)) r
  accepts_text (Ok made) denotes refused F warned well =
      let same = one_declared text extensions denotes.fragment F (given made) warned denotes.well_formed.declares well.declares in
      (subst (λ G. Denotes (world_of_fragment G extensions) (seen made)) same.0 denotes.denotes, same.1)
  accepts_text (Err (Refused e)) denotes refused F warned well = well_formed_or_refused text extensions F warned e well refused
  accepts_text (Err NoMemory) denotes refused F warned well = tt

-- what is placed by the fragment that a text declares is placed by the text
pub placed_text : {M : Type 0} (schema : M → ValidatorSchema) (text : List ℕ) (extensions : List (List ℕ)) (F : Fragment) (warned : List SchemaWarning) → DeclaresText text extensions F warned
    → (r : Result M (Failure CedarSchemaError)) → IfOk r (λ made. IsPlaced (places_of F) (schema made)) → IfOk r (λ made. IsPlacedBy text extensions (schema made))
placed_text schema text extensions F warned declares (Ok made) placed = record { fragment = F; warnings = warned; declares = declares; placed = placed }
placed_text schema text extensions F warned declares (Err e) placed = tt

-- a text that declares no fragment is refused
pub parsing_refused : (N M : Type 0) (text : List ℕ) (extensions : List (List ℕ)) (e : Failure CedarSchemaError) → IfRefused {T = N} (Err e) (ParsingCause text) → IfRefused {T = M} (Err e) (TextCause text extensions)
parsing_refused N M text extensions NoMemory cause = tt
parsing_refused N M text extensions (Refused (Parsing e)) cause = cause
parsing_refused N M text extensions (Refused (Schema e)) cause = absurd cause

-- a text that is refused is not well formed
pub refused_accepts : (N M : Type 0) (Gives : M → Type 0) (text : List ℕ) (extensions : List (List ℕ)) (e : Failure CedarSchemaError) → IfRefused {T = N} (Err e) (TextCause text extensions)
    → (F : Fragment) (warned : List SchemaWarning) → IsWellFormed text extensions F warned → Accepts {T = M} Gives (Err e)
refused_accepts N M Gives text extensions NoMemory cause F warned well = tt
refused_accepts N M Gives text extensions (Refused e) cause F warned well = well_formed_or_refused text extensions F warned e well cause

-- a text that is well formed with some extension types is so with the same
pub well_formed_with : (text : List ℕ) (xs ys : List (List ℕ)) → xs ≡ ys → (F : Fragment) (warned : List SchemaWarning) → IsWellFormed text ys F warned → IsWellFormed text xs F warned
well_formed_with text xs ys same F warned well = subst (λ extensions. IsWellFormed text extensions F warned) (sym same) well
