-- SPDX-License-Identifier: Apache-2.0
-- A fragment or a text is sound or refused, not both; what refuses it tells one thing; and it denotes one schema.
use Rattle.std.proofs.Common.{◌≡◌, inl, inr, ℕ, List, ap, sym, ◌∙◌, subst}
use Rattle.cedar_fragment_world.specs.of_convert_fragment.Fragments.{Fragment}
use Rattle.cedar_schema_errors.specs.of_convert_text.Texts.{DeclaresText, TellsText}
use Rattle.cedar_schema_errors.specs.of_convert_text.declared.parsing.CedarSchemaParseErrors.{CedarSchemaParseErrors}
use Rattle.cedar_schema_errors.specs.of_convert_text.declared.parsing.CedarSchemaParseErrors.TheVariants.{SyntaxError, JsonError}
use Rattle.cedar_schema_errors.specs.of_convert_warnings.declared.warnings.SchemaWarning.{SchemaWarning}
use Rattle.cedar_fragment_world.specs.of_convert_faults.Faults.{schema_faults}
use Rattle.cedar_grammar.proofs.Viability.{viable_as_completable}
use Rattle.cedar_grammar.proofs.Wholes as grammar
use Rattle.cedar_schema_errors.proofs.of_syntax.OneCause.{one_at_most}
use Rattle.cedar_schema_errors.specs.of_syntax.Causes.{Explains}
use Rattle.cedar_text.specs.Lists.{elements}
use Rattle.cedar_text.specs.declared.non_empty.NonEmpty.{NonEmpty}
use Rattle.cedar_tokens.proofs.Lexed.{not_both, one_list, one_stray}
use Rattle.cedar_tree.specs.declared.parse_error.ParseErrors.{ParseErrors}
use Rattle.cedar_data.proofs.Judging.{none_first, one_first}
use Rattle.cedar_fragment_world.specs.FragmentFaults.{fragment_faults}
use Rattle.cedar_fragment_world.specs.FragmentWorlds.{world_of_fragment}
use Rattle.cedar_schema.proofs.Declaring.{declared_or_not, no_cause, one_declared, one_tree}
use Rattle.cedar_schema.specs.Fragments.{FragmentCause, SoundFragment}
use Rattle.cedar_schema.specs.Texts.{DenotesSchema, IsWellFormed, TellSame, TextCause}
use Rattle.cedar_schema_error.specs.Refusals.{Refusal}
use Rattle.cedar_schema_error.specs.Told.{told}
use Rattle.cedar_schema_error.specs.declared.action_behavior.ActionBehavior.{ActionBehavior}
use Rattle.cedar_schema_error.specs.declared.action_behavior.ActionBehavior.TheVariants.{ProhibitAttributes}
use Rattle.cedar_schema_errors.specs.declared.schema_error.CedarSchemaError.{CedarSchemaError}
use Rattle.cedar_schema_errors.specs.declared.schema_error.CedarSchemaError.TheVariants.{Parsing, Schema}
use Rattle.cedar_phases.proofs.OneSchema.{one_schema}
use Rattle.cedar_phases.proofs.SomeSchema.{sound_denotes}
use Rattle.cedar_phases.proofs.Refusing.{one_cause, sound_or_refused}
use Rattle.cedar_fragment_world.specs.of_world.Denotes.{Denotes}
use Rattle.cedar_fragment_world.specs.of_world.Schemas as schemas

-- a sound fragment is not refused
pub sound_fragment_or_refused : (behavior : ActionBehavior) (extensions : List (List ℕ)) (F : Fragment) (e : Refusal)
    → SoundFragment behavior extensions F → FragmentCause behavior extensions F e → ⊥
sound_fragment_or_refused behavior extensions F e s (inl first) = none_first (fragment_faults behavior F) e s.faultless first
sound_fragment_or_refused behavior extensions F e s (inr later) = sound_or_refused (world_of_fragment F extensions) e s.sound later.1

-- a fragment is refused in one way at most
pub one_fragment_cause : (behavior : ActionBehavior) (extensions : List (List ℕ)) (F : Fragment) (e e' : Refusal)
    → FragmentCause behavior extensions F e → FragmentCause behavior extensions F e' → e ≡ e'
one_fragment_cause behavior extensions F e e' (inl first) (inl first') = one_first (fragment_faults behavior F) e e' first first'
one_fragment_cause behavior extensions F e e' (inl first) (inr later') = absurd (none_first (fragment_faults behavior F) e later'.0 first)
one_fragment_cause behavior extensions F e e' (inr later) (inl first') = absurd (none_first (fragment_faults behavior F) e' later.0 first')
one_fragment_cause behavior extensions F e e' (inr later) (inr later') = one_cause (world_of_fragment F extensions) e e' later.1 later'.1

-- the cause of a fragment that a text declares is that of any other that it declares
module _ (text : List ℕ) (extensions : List (List ℕ)) (F G : Fragment) (fs gs : List SchemaWarning) (p : DeclaresText text extensions F fs) (q : DeclaresText text extensions G gs) where
  pub cause_too : (e : Refusal) → FragmentCause ProhibitAttributes extensions F e → FragmentCause ProhibitAttributes extensions G e
  cause_too e cause = subst (λ H. FragmentCause ProhibitAttributes extensions H e) (one_declared text extensions F G fs gs p q).0 cause

-- a well formed text is not refused
pub well_formed_or_refused : (text : List ℕ) (extensions : List (List ℕ)) (F : Fragment) (warned : List SchemaWarning) (e : CedarSchemaError)
    → IsWellFormed text extensions F warned → TextCause text extensions e → ⊥
well_formed_or_refused text extensions F warned (Parsing e) well cause = declared_or_not text extensions F warned e.errors well.declares cause.0
well_formed_or_refused text extensions F warned (Schema e) well (G, gs, declares, cause) =
    sound_fragment_or_refused ProhibitAttributes extensions F (told e) well.sound (cause_too text extensions G F gs warned declares well.declares (told e) cause)

-- what is wrong with a text that is no schema is one thing
same_errors : (text : List ℕ) (a b : ParseErrors) → Explains text a → Explains text b → a ≡ b
same_errors text a b p q =
    let kinds : a.errors.head.kind ≡ b.errors.head.kind = one_at_most one_list one_stray not_both viable_as_completable grammar.one_schema text a.errors.head.kind b.errors.head.kind p.cause q.cause in
    let sources : a.errors.head.src ≡ b.errors.head.src = p.source ∙ sym q.source in
    let others : a.errors.tail ≡ b.errors.tail = p.one ∙ sym q.one in
    λ i. record { errors = record { head = record { kind = kinds i; src = sources i }; tail = others i } }

-- a list is kept in one way
same_elements : {A : Type 0} (a b : NonEmpty A) → elements a ≡ elements b → a ≡ b
same_elements a b e =
    let heads : a.head ≡ b.head = cc in
    let tails : a.tail ≡ b.tail = cc in
    λ i. record { head = heads i; tail = tails i }

-- why a text declares no fragment is one thing
tells_one : (text : List ℕ) (a b : CedarSchemaParseErrors) → TellsText text a → TellsText text b → a ≡ b
tells_one text (SyntaxError a) (SyntaxError b) p q = ap SyntaxError (same_errors text a b p q)
tells_one text (SyntaxError a) (JsonError b) p q = absurd (no_cause text q.tree q.reads a.errors.head.kind p.cause)
tells_one text (JsonError a) (SyntaxError b) p q = absurd (no_cause text p.tree p.reads b.errors.head.kind q.cause)
tells_one text (JsonError a) (JsonError b) p q =
    let faults = same_elements a.faults b.faults (p.faults_are ∙ ap schema_faults (one_tree text p.tree q.tree p.reads q.reads) ∙ sym q.faults_are) in
    λ i. JsonError (record { faults = faults i })

-- the errors with which a text is refused tell the same
pub one_text_cause : (text : List ℕ) (extensions : List (List ℕ)) (e e' : CedarSchemaError)
    → TextCause text extensions e → TextCause text extensions e' → TellSame e e'
one_text_cause text extensions (Parsing e) (Parsing e') p q =
    let errors = tells_one text e.errors e'.errors p.0 q.0 in
    let suspect : e.suspect_json_format ≡ e'.suspect_json_format = p.1 ∙ sym q.1 in
    λ i. record { errors = errors i; suspect_json_format = suspect i }
one_text_cause text extensions (Parsing e) (Schema e') p (G, gs, declares, cause) = declared_or_not text extensions G gs e.errors declares p.0
one_text_cause text extensions (Schema e) (Parsing e') (F, fs, declares, cause) q = declared_or_not text extensions F fs e'.errors declares q.0
one_text_cause text extensions (Schema e) (Schema e') (F, fs, declares, cause) (G, gs, declares', cause') =
    one_fragment_cause ProhibitAttributes extensions G (told e) (told e') (cause_too text extensions F G fs gs declares declares' (told e) cause) cause'

-- a text denotes one schema at most
pub one_schema_of_text : (text : List ℕ) (extensions : List (List ℕ)) (S T : schemas.Schema) (ss ts : List SchemaWarning)
    → DenotesSchema text extensions S ss → DenotesSchema text extensions T ts → (S ≡ T) × (ss ≡ ts)
one_schema_of_text text extensions S T ss ts p q =
    let same = one_declared text extensions p.fragment q.fragment ss ts p.well_formed.declares q.well_formed.declares in
    (one_schema (world_of_fragment q.fragment extensions) S T (subst (λ F. Denotes (world_of_fragment F extensions) S) same.0 p.denotes) q.denotes, same.1)

-- a well formed text denotes a schema
pub some_schema_of_text : (text : List ℕ) (extensions : List (List ℕ)) (F : Fragment) (warned : List SchemaWarning) → IsWellFormed text extensions F warned → (S : schemas.Schema) × DenotesSchema text extensions S warned
some_schema_of_text text extensions F warned well =
    let some = sound_denotes (world_of_fragment F extensions) well.sound.sound in
    (some.0, record { fragment = F; well_formed = well; denotes = some.1 })
