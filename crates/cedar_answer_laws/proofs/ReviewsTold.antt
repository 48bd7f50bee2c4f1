-- SPDX-License-Identifier: Apache-2.0
-- What a review tells of an input that it refuses is one text: of entities, of requests, and of two schemas.
use Rattle.std.proofs.Common.{◌≡◌, inl, inr, ℕ, List, [], ◌∷◌, ◌++◌, codes, Result, Err, sym, ap, ◌∙◌, subst}
use Rattle.serde_json.specs.Data.{Data}
use Rattle.cedar_answers.specs.Making.{Tells}
use Rattle.cedar_commands.specs.declared.command.Command.TheVariants.{Review}
use Rattle.cedar_commands.specs.declared.command.Review.TheVariants.{Compat, Conform, Request}
use Rattle.cedar_compat.specs.Changes.{type_break}
use Rattle.cedar_conform_fault.specs.Flaws.{misfit}
use Rattle.cedar_request.specs.RequestFlaws.{request_flaw}
use Rattle.cedar_envelope.specs.Envelopes.{HasEnvelope}
use Rattle.cedar_envelope.proofs.FaultLemmas.{one_envelope}
use Rattle.cedar_listing_laws.proofs.Denoted.{alike_of_text}
use Rattle.cedar_schema.proofs.Refusing.{one_schema_of_text, well_formed_or_refused}
use Rattle.cedar_schema.specs.Texts.{TextCause}
use Rattle.cedar_schema_errors.specs.declared.schema_error.CedarSchemaError.{CedarSchemaError}
use Rattle.cedar_world.specs.Schemas.{Schema}
use Rattle.cedar_reviews.specs.Comparing.{HoldsTexts, TellsBreak, TellsComparison, TellsIncompatible, TellsNew, schema_keys}
use Rattle.cedar_reviews.specs.Holding.{Denotes, TellsLabelled}
use Rattle.cedar_reviews.specs.Judging.{TellsFault, TellsJudgement, TellsWrong, judged_key}
use Rattle.cedar_reviews.specs.Refusal.{error_line, help_line}
use Rattle.cedar_reviews.specs.Reviewing.{TellsReview}
use Rattle.cedar_reviews.specs.declared.judged.Judged.{Judged}
use Rattle.cedar_reviews.specs.declared.judged.Judged.TheVariants.{Entities, Requests}
use Rattle.cedar_answer_laws.specs.Single.{AtMostOne}
use Rattle.cedar_answer_laws.proofs.FaultsTold.{breaks_alike, misfits_alike, requests_alike}
use Rattle.cedar_answer_laws.proofs.Inputs.{fault_or_envelope, held_in, one_envelope_told, one_held, one_text}
use Rattle.cedar_answer_laws.proofs.Told.{one_schema_told}

-- ---- schemas of texts

pub one_denoted : (text : List ℕ) (extensions : List (List ℕ)) (S T : Schema) → Denotes text extensions S → Denotes text extensions T → S ≡ T
one_denoted text extensions S T (ws, p) (vs, q) = (one_schema_of_text text extensions S T ws vs p q).0

denoted_or_refused : (text : List ℕ) (extensions : List (List ℕ)) (S : Schema) (e : CedarSchemaError) → Denotes text extensions S → TextCause text extensions e → ⊥
denoted_or_refused text extensions S e (ws, p) cause = well_formed_or_refused text extensions p.fragment ws e p.well_formed cause

same_err : {A E : Type 0} (e e' : E) → ◌≡◌ {A = Result A E} (Err e) (Err e') → e ≡ e'
same_err e e' same = cc

-- ---- entities and requests

one_fault_told : (judged : Judged) (S : Schema) (d : Data) → AtMostOne (TellsFault judged S d)
one_fault_told Entities S d due due' (f, fault, is) (f', fault', is') =
    is ∙ ap error_line (misfits_alike f f' (same_err (misfit f) (misfit f') (sym fault ∙ fault'))) ∙ sym is'
one_fault_told Requests S d due due' (f, fault, is) (f', fault', is') =
    is ∙ ap error_line (requests_alike f f' (same_err (request_flaw f) (request_flaw f') (sym fault ∙ fault'))) ∙ sym is'

one_wrong_told : (judged : Judged) (text : List ℕ) (extensions : List (List ℕ)) (d : Data) → AtMostOne (TellsWrong judged text extensions d)
one_wrong_told judged text extensions d due due' (inl p) (inl q) = one_schema_told text extensions due due' p q
one_wrong_told judged text extensions d due due' (inl (e, cause, is)) (inr (S, denotes, fault)) = absurd (denoted_or_refused text extensions S e denotes cause)
one_wrong_told judged text extensions d due due' (inr (S, denotes, fault)) (inl (e, cause, is)) = absurd (denoted_or_refused text extensions S e denotes cause)
one_wrong_told judged text extensions d due due' (inr (S, denotes, fault)) (inr (T, denotes', fault')) =
    one_fault_told judged S d due due' fault (subst (λ R. TellsFault judged R d due') (sym (one_denoted text extensions S T denotes denotes')) fault')

one_judgement_told : (judged : Judged) (input : List ℕ) (extensions : List (List ℕ)) → AtMostOne (TellsJudgement judged input extensions)
one_judgement_told judged input extensions due due' (inl p) (inl q) = one_envelope_told (codes "schema" ∷ []) (judged_key judged ∷ []) input due due' p q
one_judgement_told judged input extensions due due' (inl p) (inr (t, d, holds, wrong)) =
    absurd (fault_or_envelope (codes "schema" ∷ []) (judged_key judged ∷ []) input due p (held_in (codes "schema") (judged_key judged) input t d holds))
one_judgement_told judged input extensions due due' (inr (t, d, holds, wrong)) (inl q) =
    absurd (fault_or_envelope (codes "schema" ∷ []) (judged_key judged ∷ []) input due' q (held_in (codes "schema") (judged_key judged) input t d holds))
one_judgement_told judged input extensions due due' (inr (t, d, holds, wrong)) (inr (u, e, holds', wrong')) =
    let same = one_held (codes "schema") (judged_key judged) input t u d e holds holds' in
    let other : TellsWrong judged t extensions d due' = subst (λ x. TellsWrong judged x extensions d due') (sym same.0) (subst (λ x. TellsWrong judged u extensions x due') (sym same.1) wrong') in
    one_wrong_told judged t extensions d due due' wrong other

pub one_conform_told : (text : List ℕ) (extensions : List (List ℕ)) → AtMostOne (Tells (Review Conform) text extensions)
unfolding Tells TellsReview
one_conform_told text extensions = one_judgement_told Entities text extensions

pub one_request_told : (text : List ℕ) (extensions : List (List ℕ)) → AtMostOne (Tells (Review Request) text extensions)
unfolding Tells TellsReview
one_request_told text extensions = one_judgement_told Requests text extensions

-- ---- two schemas

one_labelled_told : (label text : List ℕ) (extensions : List (List ℕ)) → AtMostOne (TellsLabelled label text extensions)
one_labelled_told label text extensions due due' (e, cause, is) (e', cause', is') =
    let same = alike_of_text text extensions e e' cause cause' in
    is ∙ (λ i. error_line (label ++ same.0 i) ++ help_line (same.1 i)) ∙ sym is'

one_break_told : (S R : Schema) → AtMostOne (TellsBreak S R)
one_break_told S R due due' (f, fault, is) (f', fault', is') =
    is ∙ ap error_line (breaks_alike f f' (same_err (type_break f) (type_break f') (sym fault ∙ fault'))) ∙ sym is'

one_new_told : (S : Schema) (new : List ℕ) (extensions : List (List ℕ)) → AtMostOne (TellsNew S new extensions)
one_new_told S new extensions due due' (inl p) (inl q) = one_labelled_told (codes "new: ") new extensions due due' p q
one_new_told S new extensions due due' (inl (e, cause, is)) (inr (R, denotes, fault)) = absurd (denoted_or_refused new extensions R e denotes cause)
one_new_told S new extensions due due' (inr (R, denotes, fault)) (inl (e, cause, is)) = absurd (denoted_or_refused new extensions R e denotes cause)
one_new_told S new extensions due due' (inr (R, denotes, fault)) (inr (T, denotes', fault')) =
    one_break_told S R due due' fault (subst (λ x. TellsBreak S x due') (sym (one_denoted new extensions R T denotes denotes')) fault')

one_incompatible_told : (old new : List ℕ) (extensions : List (List ℕ)) → AtMostOne (TellsIncompatible old new extensions)
one_incompatible_told old new extensions due due' (inl p) (inl q) = one_labelled_told (codes "old: ") old extensions due due' p q
one_incompatible_told old new extensions due due' (inl (e, cause, is)) (inr (S, denotes, told)) = absurd (denoted_or_refused old extensions S e denotes cause)
one_incompatible_told old new extensions due due' (inr (S, denotes, told)) (inl (e, cause, is)) = absurd (denoted_or_refused old extensions S e denotes cause)
one_incompatible_told old new extensions due due' (inr (S, denotes, told)) (inr (T, denotes', told')) =
    one_new_told S new extensions due due' told (subst (λ x. TellsNew x new extensions due') (sym (one_denoted old extensions S T denotes denotes')) told')

texts_in : (input old new : List ℕ) → HoldsTexts input old new → HasEnvelope input schema_keys []
texts_in input old new (c, is, text, text') = (c, is)

one_pair : (input old new older newer : List ℕ) → HoldsTexts input old new → HoldsTexts input older newer → (old ≡ older) × (new ≡ newer)
one_pair input old new older newer (c, is, o, n) (e, is', o', n') =
    let same = one_envelope input schema_keys [] c e is is' in
    (one_text c e same (codes "old") old older o o', one_text c e same (codes "new") new newer n n')

one_comparison_told : (input : List ℕ) (extensions : List (List ℕ)) → AtMostOne (TellsComparison input extensions)
one_comparison_told input extensions due due' (inl p) (inl q) = one_envelope_told schema_keys [] input due due' p q
one_comparison_told input extensions due due' (inl p) (inr (old, new, holds, told)) = absurd (fault_or_envelope schema_keys [] input due p (texts_in input old new holds))
one_comparison_told input extensions due due' (inr (old, new, holds, told)) (inl q) = absurd (fault_or_envelope schema_keys [] input due' q (texts_in input old new holds))
one_comparison_told input extensions due due' (inr (old, new, holds, told)) (inr (older, newer, holds', told')) =
    let same = one_pair input old new older newer holds holds' in
    let other : TellsIncompatible old new extensions due' = subst (λ x. TellsIncompatible x new extensions due') (sym same.0) (subst (λ x. TellsIncompatible older x extensions due') (sym same.1) told') in
    one_incompatible_told old new extensions due due' told other

pub one_compat_told : (text : List ℕ) (extensions : List (List ℕ)) → AtMostOne (Tells (Review Compat) text extensions)
unfolding Tells TellsReview
one_compat_told text extensions = one_comparison_told text extensions
