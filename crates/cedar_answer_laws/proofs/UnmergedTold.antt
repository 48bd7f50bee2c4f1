-- SPDX-License-Identifier: Apache-2.0
-- What is told of a list of schemas that has no merged one is one text.
use Rattle.std.proofs.Common.{◌≡◌, ◌⊎◌, inl, inr, ℕ, List, [], ◌∷◌, ◌++◌, codes, map, Some, None, option_map, refl, sym, ap, ◌∙◌, subst}
use Rattle.serde_json.specs.Data.{Data}
use Rattle.cedar_answers.specs.Making.{Tells}
use Rattle.cedar_commands.specs.declared.command.Command.TheVariants.{Review}
use Rattle.cedar_commands.specs.declared.command.Review.TheVariants.{Merge}
use Rattle.cedar_convert_fragment.specs.Views.{fragment_seen}
use Rattle.cedar_envelope.specs.Envelopes.{HasEnvelope}
use Rattle.cedar_fmt.specs.Texts.{kept_names, names_text}
use Rattle.cedar_fmt.specs.declared.errors.ToCedarSchemaSyntaxError.{ToCedarSchemaSyntaxError}
use Rattle.cedar_fmt.specs.declared.errors.ToCedarSchemaSyntaxError.TheVariants.{NameCollisions}
use Rattle.cedar_merge_laws.proofs.SaidAlike.{alike_said}
use Rattle.cedar_schema_errors.specs.declared.schema_error.CedarSchemaError.{CedarSchemaError}
use Rattle.cedar_schema_errors.specs.declared.schema_error.CedarSchemaError.TheVariants.{Parsing, Schema}
use Rattle.cedar_schema_json.proofs.Declaring.{declared_or_not}
use Rattle.cedar_schema_json.specs.Texts.{ParsingCause}
use Rattle.cedar_reviews.specs.Holding.{TellsNoDeclaration}
use Rattle.cedar_reviews.specs.Merging.{AreTexts, Declares, EachDeclares, Held, HoldsSchemas, TellsCollided, TellsMerging, TellsOther, TellsUndeclared, TellsUnlisted, TellsUnmerged, other_value}
use Rattle.cedar_reviews.specs.Refusal.{collisions_refusal, error_line}
use Rattle.cedar_reviews.specs.Reviewing.{TellsReview}
use Rattle.cedar_answer_laws.specs.Single.{AtMostOne}
use Rattle.cedar_answer_laws.proofs.Collided.{collisions_said}
use Rattle.cedar_answer_laws.proofs.Inputs.{fault_or_envelope, one_envelope_told}
use Rattle.cedar_answer_laws.proofs.Merges.{each_alike, one_schemas, one_texts}
use Rattle.cedar_answer_laws.proofs.MergesTold.{merge_error_or_agree, one_merge_error}
use Rattle.cedar_answer_laws.proofs.Told.{one_parsing_told}

-- ---- fragments that can't be merged, or be written when they are

abbrev line_of : List ℕ → List ℕ
line_of names = error_line (codes "There are name collisions: [" ++ (names ++ codes "]"))

names_line : (e : ToCedarSchemaSyntaxError) → collisions_refusal e ≡ line_of (names_text (kept_names e))
names_line (NameCollisions e) = refl

module _ (L M : List Held) (lists : map fragment_seen L ≡ map fragment_seen M) where
  one_collided_told : (due due' : List ℕ) → TellsCollided L due → TellsCollided M due' → due ≡ due'
  one_collided_told due due' (agree, (F, merged, (e, kept, is))) (agree', (G, merged', (e', kept', is'))) =
      let names = ap names_text kept ∙ collisions_said F G (alike_said L M lists F G merged merged') ∙ sym (ap names_text kept') in
      is ∙ names_line e ∙ ap line_of names ∙ sym (names_line e') ∙ sym is'

  one_unmerged_told : (due due' : List ℕ) → TellsUnmerged L due → TellsUnmerged M due' → due ≡ due'
  one_unmerged_told due due' (inl p) (inl q) = one_merge_error L M lists due due' p q
  one_unmerged_told due due' (inl p) (inr q) = absurd (merge_error_or_agree L M lists due p q.0)
  one_unmerged_told due due' (inr p) (inl q) = absurd (merge_error_or_agree M L (sym lists) due' q p.0)
  one_unmerged_told due due' (inr p) (inr q) = one_collided_told due due' p q

-- ---- texts that declare nothing

declared_or_told : (extensions : List (List ℕ)) (t due : List ℕ) (F : Held) → TellsNoDeclaration t due → Declares extensions t F → ⊥
declared_or_told extensions t due F (e, cause, is) (ws, declares) = by e cause
  where
    by : (e : CedarSchemaError) → ParsingCause t e → ⊥
    by (Parsing e) cause = declared_or_not t extensions (fragment_seen F) ws e.errors declares cause.0
    by (Schema e) cause = cause

module _ (extensions : List (List ℕ)) where
  one_undeclared_told : (ts : List (List ℕ)) → AtMostOne (TellsUndeclared extensions ts)
  one_undeclared_told [] due due' p q = absurd p
  one_undeclared_told (t ∷ ts) due due' (inl p) (inl q) = one_parsing_told t due due' p q
  one_undeclared_told (t ∷ ts) due due' (inl p) (inr ((F, declares), later)) = absurd (declared_or_told extensions t due F p declares)
  one_undeclared_told (t ∷ ts) due due' (inr ((F, declares), later)) (inl q) = absurd (declared_or_told extensions t due' F q declares)
  one_undeclared_told (t ∷ ts) due due' (inr p) (inr q) = one_undeclared_told ts due due' p.1 q.1

  undeclared_or_each : (ts : List (List ℕ)) (Fs : List Held) (due : List ℕ) → TellsUndeclared extensions ts due → EachDeclares extensions ts Fs → ⊥
  undeclared_or_each [] Fs due told each = told
  undeclared_or_each (t ∷ ts) [] due told each = each
  undeclared_or_each (t ∷ ts) (F ∷ Fs) due (inl p) each = declared_or_told extensions t due F p each.0
  undeclared_or_each (t ∷ ts) (F ∷ Fs) due (inr p) each = undeclared_or_each ts Fs due p.1 each.1

  -- ---- values

  other_or_texts : (d : Data) (ts : List (List ℕ)) (due : List ℕ) → TellsOther d due → AreTexts d ts → ⊥
  other_or_texts d ts due (e, at, is) (ds, listed, none, are) =
      let nothing : other_value d ≡ None = ap other_value listed ∙ ap (option_map Some) none in
      absurd (cc)

  -- what is told of a list of these texts
  abbrev TellsTexts : List (List ℕ) → List ℕ → Type 0
  TellsTexts ts told = TellsUndeclared extensions ts told ⊎ ((Fs : List Held) × EachDeclares extensions ts Fs × TellsUnmerged Fs told)

  one_texts_told : (ts : List (List ℕ)) → AtMostOne (TellsTexts ts)
  one_texts_told ts due due' (inl p) (inl q) = one_undeclared_told ts due due' p q
  one_texts_told ts due due' (inl p) (inr (Fs, each, told)) = absurd (undeclared_or_each ts Fs due p each)
  one_texts_told ts due due' (inr (Fs, each, told)) (inl q) = absurd (undeclared_or_each ts Fs due' q each)
  one_texts_told ts due due' (inr (Fs, each, told)) (inr (Gs, each', told')) = one_unmerged_told Fs Gs (each_alike extensions ts Fs Gs each each') due due' told told'

  one_unlisted_told : (d : Data) → AtMostOne (TellsUnlisted extensions d)
  one_unlisted_told d due due' (inl p) (inl q) = p.2 ∙ sym q.2
  one_unlisted_told d due due' (inl p) (inr (ts, are, told)) = absurd (other_or_texts d ts due p are)
  one_unlisted_told d due due' (inr (ts, are, told)) (inl q) = absurd (other_or_texts d ts due' q are)
  one_unlisted_told d due due' (inr (ts, are, told)) (inr (us, are', told')) =
      one_texts_told ts due due' told (subst (λ x. TellsTexts x due') (sym (one_texts d ts us are are')) told')

-- ---- of an input

listed_in : (input : List ℕ) (d : Data) → HoldsSchemas input d → HasEnvelope input [] (codes "schemas" ∷ [])
listed_in input d (c, is, holds) = (c, is)

one_merging_told : (input : List ℕ) (extensions : List (List ℕ)) → AtMostOne (TellsMerging input extensions)
one_merging_told input extensions due due' (inl p) (inl q) = one_envelope_told [] (codes "schemas" ∷ []) input due due' p q
one_merging_told input extensions due due' (inl p) (inr (d, holds, told)) = absurd (fault_or_envelope [] (codes "schemas" ∷ []) input due p (listed_in input d holds))
one_merging_told input extensions due due' (inr (d, holds, told)) (inl q) = absurd (fault_or_envelope [] (codes "schemas" ∷ []) input due' q (listed_in input d holds))
one_merging_told input extensions due due' (inr (d, holds, told)) (inr (e, holds', told')) =
    one_unlisted_told extensions d due due' told (subst (λ x. TellsUnlisted extensions x due') (sym (one_schemas input d e holds holds')) told')

pub one_merge_told : (text : List ℕ) (extensions : List (List ℕ)) → AtMostOne (Tells (Review Merge) text extensions)
unfolding Tells TellsReview
one_merge_told text extensions = one_merging_told text extensions
