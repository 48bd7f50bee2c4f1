-- SPDX-License-Identifier: Apache-2.0
-- What is told of a text is one text.
use Rattle.std.proofs.Common.{◌≡◌, inl, inr, ℕ, List, [], ◌++◌, codes, sym, ap, ◌∙◌}
use Rattle.cedar_answers.specs.Making.{Tells, TellsCollisions, TellsJsonFault, TellsNoJsonSchema}
use Rattle.cedar_commands.specs.declared.command.Command.TheVariants.{Resolve, ResolveJson, Check, ToJson, ToCedar, Bench}
use Rattle.cedar_fmt.specs.Collisions.{collisions}
use Rattle.cedar_fmt.specs.Texts.{kept_names, names_text}
use Rattle.cedar_fmt.specs.declared.errors.ToCedarSchemaSyntaxError.{ToCedarSchemaSyntaxError}
use Rattle.cedar_fmt.specs.declared.errors.ToCedarSchemaSyntaxError.TheVariants.{NameCollisions}
use Rattle.cedar_json_laws.proofs.OnceParts.{same_inside}
use Rattle.cedar_schema_json.specs.of_json.TextFaults.{IsFragmentText, advised_fault}
use Rattle.cedar_reviews.specs.Holding.{TellsNoDeclaration, TellsNoSchema}
use Rattle.cedar_reviews.specs.Refusal.{collisions_refusal, error_line, help_line, refusal_text}
use Rattle.cedar_schema_json.specs.Texts.{ParsingCause}
use Rattle.cedar_schema_json.proofs.OneShape.{text_clean, text_once}
use Rattle.cedar_schema_json.proofs.Reading.{one_cause}
use Rattle.cedar_schema_error.specs.declared.schema_error.SchemaError.TheVariants.{JsonDeserialization}
use Rattle.cedar_schema_errors.specs.declared.schema_error.CedarSchemaError.{CedarSchemaError}
use Rattle.cedar_schema_errors.specs.declared.schema_error.CedarSchemaError.TheVariants.{Parsing, Schema}
use Rattle.cedar_listing_laws.proofs.Denoted.{AreAlike, alike_of_text, told_alike}
use Rattle.cedar_answer_laws.specs.Single.{AtMostOne}

-- what is printed of errors of which the same is said
printed_alike : (e e' : CedarSchemaError) → AreAlike e e' → refusal_text e ≡ refusal_text e'
printed_alike e e' same = λ i. error_line (same.0 i) ++ help_line (same.1 i)

pub one_schema_told : (text : List ℕ) (extensions : List (List ℕ)) → AtMostOne (TellsNoSchema text extensions)
one_schema_told text extensions due due' (e, cause, is) (e', cause', is') =
    is ∙ printed_alike e e' (alike_of_text text extensions e e' cause cause') ∙ sym is'

one_json_told : (text : List ℕ) (extensions : List (List ℕ)) → AtMostOne (TellsNoJsonSchema text extensions)
one_json_told text extensions due due' (e, cause, is) (e', cause', is') =
    is ∙ printed_alike (Schema e) (Schema e') (told_alike e e' (one_cause (IsFragmentText text) (advised_fault text) extensions (text_once text) (text_clean text) e e' cause cause')) ∙ sym is'

pub one_resolve_told : (text : List ℕ) (extensions : List (List ℕ)) → AtMostOne (Tells Resolve text extensions)
unfolding Tells
one_resolve_told = one_schema_told

pub one_check_told : (text : List ℕ) (extensions : List (List ℕ)) → AtMostOne (Tells Check text extensions)
unfolding Tells
one_check_told = one_schema_told

pub one_bench_told : (n : ℕ) (text : List ℕ) (extensions : List (List ℕ)) → AtMostOne (Tells (Bench n) text extensions)
unfolding Tells
one_bench_told n = one_schema_told

pub one_resolve_json_told : (text : List ℕ) (extensions : List (List ℕ)) → AtMostOne (Tells ResolveJson text extensions)
unfolding Tells
one_resolve_json_told = one_json_told

-- a text that declares nothing
pub one_parsing_told : (text : List ℕ) → AtMostOne (TellsNoDeclaration text)
one_parsing_told text due due' (e, cause, is) (e', cause', is') = is ∙ printed_alike e e' (by e e' cause cause') ∙ sym is'
  where
    by : (e e' : CedarSchemaError) → ParsingCause text e → ParsingCause text e' → AreAlike e e'
    by (Parsing e) (Parsing e') p q = alike_of_text text [] (Parsing e) (Parsing e') p q
    by (Parsing e) (Schema e') p q = absurd q
    by (Schema e) e' p q = absurd p

pub one_to_json_told : (text : List ℕ) (extensions : List (List ℕ)) → AtMostOne (Tells ToJson text extensions)
unfolding Tells
one_to_json_told text extensions = one_parsing_told text

-- a text that is no fragment in JSON, or one that can't be printed
one_fault_told : (text : List ℕ) → AtMostOne (TellsJsonFault text)
one_fault_told text due due' (e, fault, is) (e', fault', is') =
    let same : e ≡ e' = same_inside e e' (sym fault ∙ fault') in
    is ∙ ap (λ x. refusal_text (Schema (JsonDeserialization x))) same ∙ sym is'

collisions_alike : (e e' : ToCedarSchemaSyntaxError) → kept_names e ≡ kept_names e' → collisions_refusal e ≡ collisions_refusal e'
collisions_alike (NameCollisions e) (NameCollisions e') same = ap (λ names. error_line (codes "There are name collisions: [" ++ (names_text names ++ codes "]"))) same

one_collisions_told : (text : List ℕ) → AtMostOne (TellsCollisions text)
one_collisions_told text due due' (F, e, shape, kept, is) (G, e', shape', kept', is') =
    is ∙ collisions_alike e e' (kept ∙ ap collisions (text_once text F G shape shape') ∙ sym kept') ∙ sym is'

fault_or_collisions : (text due due' : List ℕ) → TellsJsonFault text due → TellsCollisions text due' → ⊥
fault_or_collisions text due due' (e, fault, made) (F, e', shape, kept, is) = let none = text_clean text F shape in absurd (cc)

pub one_to_cedar_told : (text : List ℕ) (extensions : List (List ℕ)) → AtMostOne (Tells ToCedar text extensions)
unfolding Tells
one_to_cedar_told text extensions due due' (inl p) (inl q) = one_fault_told text due due' p q
one_to_cedar_told text extensions due due' (inl p) (inr q) = absurd (fault_or_collisions text due due' p q)
one_to_cedar_told text extensions due due' (inr p) (inl q) = absurd (fault_or_collisions text due' due q p)
one_to_cedar_told text extensions due due' (inr p) (inr q) = one_collisions_told text due due' p q
