-- SPDX-License-Identifier: Apache-2.0
-- From the fragment whose shape a schema in JSON has to what the schema denotes, over anything that has the shapes of
-- fragments and a first fault.
use Rattle.std.proofs.Common.{◌≡◌, inl, inr, ℕ, List, Some, None, Result, Ok, Err, IfOk, refl, ap, sym, ◌∙◌, subst}
use Rattle.cedar_convert_fragment.specs.Views.{fragment_seen}
use Rattle.cedar_data.specs.Answers.{Accepts, IfRefused}
use Rattle.cedar_data.specs.declared.memory.Failure.{Failure}
use Rattle.cedar_data.specs.declared.memory.Failure.TheVariants.{Refused, NoMemory}
use Rattle.cedar_fragment.specs.ActionUids.{over_raw}
use Rattle.cedar_fragment.specs.declared.definitions.Fragment.{Fragment}
use Rattle.cedar_schema.specs.of_fragment_world.FragmentWorlds.{world_of_fragment}
use Rattle.cedar_json_fault.specs.declared.json_error.JsonDeserializationError.{JsonDeserializationError}
use Rattle.cedar_json_laws.proofs.OnceParts.{same_inside}
use Rattle.cedar_json_types.specs.Faults.{Fault}
use Rattle.cedar_schema.proofs.Refusing.{one_fragment_cause, sound_fragment_or_refused}
use Rattle.cedar_schema.specs.Fragments.{FragmentCause, SoundFragment}
use Rattle.cedar_schema_error.specs.Told.{told}
use Rattle.cedar_schema_error.specs.declared.action_behavior.ActionBehavior.TheVariants.{ProhibitAttributes}
use Rattle.cedar_schema_error.specs.declared.schema_error.SchemaError.{SchemaError}
use Rattle.cedar_schema_error.specs.declared.schema_error.SchemaError.TheVariants.{JsonDeserialization}
use Rattle.cedar_schema_json.specs.JsonSchemas.{DenotesSchema, IsWellFormed, JsonCause, unread}
use Rattle.cedar_schema.proofs.OneSchema.{one_schema}
use Rattle.cedar_schema.proofs.SomeSchema.{sound_denotes}
use Rattle.cedar_schema.specs.of_world.Denotes.{Denotes}
use Rattle.cedar_schema.specs.of_world.Schemas.{Schema}
use Rattle.cedar_written.specs.declared.raw_name.RawName.{RawName}

module _ (Shapes : Fragment RawName over_raw → Type 0) (fault : Fault) (extensions : List (List ℕ)) where
  -- it has the shape of this fragment
  module _ {M : Type 0} (seen : M → Schema) (F : Fragment RawName over_raw) (shape : Shapes F) where
    -- so it denotes what the fragment does
    pub denotes_read : (r : Result M (Failure SchemaError)) → IfOk r (λ _. SoundFragment ProhibitAttributes extensions (fragment_seen F)) → IfOk r (λ made. Denotes (world_of_fragment (fragment_seen F) extensions) (seen made))
        → IfOk r (λ made. DenotesSchema Shapes extensions (seen made))
    denotes_read (Ok made) sound denotes = record { fragment = F; well_formed = record { shape = shape; sound = sound }; denotes = denotes }
    denotes_read (Err e) sound denotes = tt

    -- and is refused for what the fragment is
    pub refused_read : (r : Result M (Failure SchemaError)) → IfRefused r (λ e. FragmentCause ProhibitAttributes extensions (fragment_seen F) (told e)) → IfRefused r (JsonCause Shapes fault extensions)
    refused_read (Ok made) cause = tt
    refused_read (Err NoMemory) cause = tt
    refused_read (Err (Refused e)) cause = inr (record { fragment = F; shape = shape; cause = cause })

  -- where it has the shape of none, it is refused with its first fault
  pub refused_unread : (N M : Type 0) (failure : Failure JsonDeserializationError) → IfRefused {T = N} (Err failure) (λ e. fault ≡ Some e) → IfRefused {T = M} (Err (unread failure)) (JsonCause Shapes fault extensions)
  refused_unread N M (Refused e) first = inl (record { kept = e; first = first; is = refl })
  refused_unread N M NoMemory first = tt

  -- one fragment at most has its shape, and where one has, there is no fault
  module _ (once : (F G : Fragment RawName over_raw) → Shapes F → Shapes G → F ≡ G) (clean : (F : Fragment RawName over_raw) → Shapes F → fault ≡ None) where
    none_at_fault : {A : Type 0} (F : Fragment RawName over_raw) (kept : JsonDeserializationError) → Shapes F → fault ≡ Some kept → A
    none_at_fault F kept shape first = let none = clean F shape in absurd (cc)

    pub well_formed_or_refused : (F : Fragment RawName over_raw) (e : SchemaError) → IsWellFormed Shapes extensions F → JsonCause Shapes fault extensions e → ⊥
    well_formed_or_refused F e well (inl p) = none_at_fault F p.kept well.shape p.first
    well_formed_or_refused F e well (inr p) =
        sound_fragment_or_refused ProhibitAttributes extensions (fragment_seen F) (told e) well.sound
        (subst (λ G. FragmentCause ProhibitAttributes extensions (fragment_seen G) (told e)) (once p.fragment F p.shape well.shape) p.cause)

    pub one_cause : (e e' : SchemaError) → JsonCause Shapes fault extensions e → JsonCause Shapes fault extensions e' → told e ≡ told e'
    one_cause e e' (inl p) (inl q) =
        let same = same_inside p.kept q.kept (sym p.first ∙ q.first) in
        ap told (p.is ∙ ap JsonDeserialization same ∙ sym q.is)
    one_cause e e' (inl p) (inr q) = none_at_fault q.fragment p.kept q.shape p.first
    one_cause e e' (inr p) (inl q) = none_at_fault p.fragment q.kept p.shape q.first
    one_cause e e' (inr p) (inr q) =
        one_fragment_cause ProhibitAttributes extensions (fragment_seen q.fragment) (told e) (told e')
        (subst (λ G. FragmentCause ProhibitAttributes extensions (fragment_seen G) (told e)) (once p.fragment q.fragment p.shape q.shape) p.cause) q.cause

    pub one_schema_at_most : (S T : Schema) → DenotesSchema Shapes extensions S → DenotesSchema Shapes extensions T → S ≡ T
    one_schema_at_most S T p q =
        let same = once p.fragment q.fragment p.well_formed.shape q.well_formed.shape in
        one_schema (world_of_fragment (fragment_seen q.fragment) extensions) S T (subst (λ F. Denotes (world_of_fragment (fragment_seen F) extensions) S) same p.denotes) q.denotes

    -- an answer to what is well formed accepts it
    pub accepts_read : {M : Type 0} (seen : M → Schema) (r : Result M (Failure SchemaError)) → IfOk r (λ made. DenotesSchema Shapes extensions (seen made)) → IfRefused r (JsonCause Shapes fault extensions)
        → (F : Fragment RawName over_raw) → IsWellFormed Shapes extensions F → Accepts (λ made. Denotes (world_of_fragment (fragment_seen F) extensions) (seen made)) r
    accepts_read seen (Ok made) denotes refused F well =
        subst (λ G. Denotes (world_of_fragment (fragment_seen G) extensions) (seen made)) (once denotes.fragment F denotes.well_formed.shape well.shape) denotes.denotes
    accepts_read seen (Err (Refused e)) denotes refused F well = well_formed_or_refused F e well refused
    accepts_read seen (Err NoMemory) denotes refused F well = tt

    -- nor is it refused for having no shape
    pub accepts_unread : (N M : Type 0) (Accepted : M → Type 0) (failure : Failure JsonDeserializationError) (made : Failure SchemaError) → made ≡ unread failure → IfRefused {T = N} (Err failure) (λ e. fault ≡ Some e)
        → (F : Fragment RawName over_raw) → IsWellFormed Shapes extensions F → Accepts {T = M} Accepted (Err made)
    accepts_unread N M Accepted (Refused e) made is first F well = none_at_fault F e well.shape first
    accepts_unread N M Accepted NoMemory made is first F well = subst (λ x. Accepts {T = M} Accepted (Err x)) (sym is) tt

-- what is well formed denotes a schema
pub some_schema : (Shapes : Fragment RawName over_raw → Type 0) (extensions : List (List ℕ)) (F : Fragment RawName over_raw) → IsWellFormed Shapes extensions F → (S : Schema) × DenotesSchema Shapes extensions S
some_schema Shapes extensions F well =
    let some = sound_denotes (world_of_fragment (fragment_seen F) extensions) well.sound.sound in
    (some.0, record { fragment = F; well_formed = well; denotes = some.1 })
