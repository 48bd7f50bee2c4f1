-- SPDX-License-Identifier: Apache-2.0
-- What commands make of a text is one text.
use Rattle.std.proofs.Common.{◌≡◌, ℕ, List, [], ◌++◌, codes, Option, Some, sym, ap, ◌∙◌}
use Rattle.cedar_answers.specs.Making.{IsSchemaOf, Makes, MakesCedar, MakesJson, MakesJsonListing}
use Rattle.cedar_commands.specs.declared.command.Command.TheVariants.{Resolve, ResolveJson, Check, ToJson, ToCedar, Review, Bench}
use Rattle.cedar_commands.specs.declared.command.Review.TheVariants.{Conform, Compat}
use Rattle.serde_json.specs.Written.{compact_text}
use Rattle.cedar_convert_fragment.specs.Views.{fragment_seen}
use Rattle.cedar_seen_laws.proofs.JsonDeclarations.{json_alike}
use Rattle.cedar_schema_json.proofs.Declaring.{one_declared}
use Rattle.cedar_convert_warnings.specs.declared.warnings.SchemaWarning.{SchemaWarning}
use Rattle.cedar_fragment.specs.Printed.{print}
use Rattle.cedar_schema_json.specs.of_json.TextFaults.{IsFragmentText, advised_fault}
use Rattle.cedar_listing.specs.Counts.{counts}
use Rattle.cedar_listing.specs.Listing.{listing}
use Rattle.cedar_print.specs.Pieces.{text_of}
use Rattle.cedar_resolved.specs.declared.schema.ValidatorSchema.{ValidatorSchema}
use Rattle.cedar_reviews.specs.Reviewing.{MakesReview}
use Rattle.cedar_reviews.specs.RawNames.{raw_text}
use Rattle.cedar_schema_json.proofs.OneShape.{text_clean, text_once}
use Rattle.cedar_schema_json.proofs.Reading.{one_schema_at_most}
use Rattle.cedar_schema_json.specs.SchemaViews.{schema_in}
use Rattle.cedar_listing_laws.proofs.Denoted.{counts_of_text, listing_of_text}
use Rattle.cedar_listing_laws.proofs.Lines.{one_listing}
use Rattle.cedar_answer_laws.specs.Single.{AtMostOne}

one_listed : (text : List ℕ) (extensions : List (List ℕ))
    → AtMostOne (λ due. (schema : ValidatorSchema) × (warnings : List SchemaWarning) × IsSchemaOf text extensions schema warnings × (due ≡ listing schema warnings))
one_listed text extensions due due' (S, ws, is, made) (T, vs, is', made') =
    made ∙ listing_of_text text extensions S T ws vs is.consistent is'.consistent is.denotes is'.denotes ∙ sym made'

one_counted : (text : List ℕ) (extensions : List (List ℕ))
    → AtMostOne (λ due. (schema : ValidatorSchema) × (warnings : List SchemaWarning) × IsSchemaOf text extensions schema warnings × (due ≡ counts schema warnings))
one_counted text extensions due due' (S, ws, is, made) (T, vs, is', made') =
    made ∙ counts_of_text text extensions S T ws vs is.consistent is'.consistent is.denotes is'.denotes ∙ sym made'

one_json_listing : (text : List ℕ) (extensions : List (List ℕ)) → AtMostOne (MakesJsonListing text extensions)
one_json_listing text extensions due due' (S, is, made) (T, is', made') =
    let same = one_schema_at_most (IsFragmentText text) (advised_fault text) extensions (text_once text) (text_clean text) (schema_in S) (schema_in T) is.denotes is'.denotes in
    made ∙ one_listing S T is.consistent is'.consistent same [] ∙ sym made'

one_json : (text : List ℕ) (extensions : List (List ℕ)) → AtMostOne (MakesJson text extensions)
one_json text extensions due due' (F, ws, declares, made) (G, vs, declares', made') =
    let same = (one_declared text extensions (fragment_seen F) (fragment_seen G) ws vs declares declares').0 in
    made ∙ ap (λ d. compact_text d ++ codes "\n") (json_alike F G same) ∙ sym made'

-- what is kept is one
pub one_kept : {o : Option (List ℕ)} {due due' : List ℕ} → o ≡ Some due → o ≡ Some due' → due ≡ due'
one_kept p q = cc

one_cedar : (text : List ℕ) → AtMostOne (MakesCedar text)
one_cedar text due due' (F, can, prints) (G, can', prints') =
    one_kept (ap (λ H. text_of raw_text (print H)) (sym (text_once text F G can.shape can'.shape)) ∙ prints) prints'

pub one_resolved : (text : List ℕ) (extensions : List (List ℕ)) → AtMostOne (Makes Resolve text extensions)
unfolding Makes
one_resolved = one_listed

pub one_checked : (text : List ℕ) (extensions : List (List ℕ)) → AtMostOne (Makes Check text extensions)
unfolding Makes
one_checked = one_counted

pub one_bench : (n : ℕ) (text : List ℕ) (extensions : List (List ℕ)) → AtMostOne (Makes (Bench n) text extensions)
unfolding Makes
one_bench n = one_counted

pub one_resolved_json : (text : List ℕ) (extensions : List (List ℕ)) → AtMostOne (Makes ResolveJson text extensions)
unfolding Makes
one_resolved_json = one_json_listing

pub one_to_json : (text : List ℕ) (extensions : List (List ℕ)) → AtMostOne (Makes ToJson text extensions)
unfolding Makes
one_to_json = one_json

pub one_to_cedar : (text : List ℕ) (extensions : List (List ℕ)) → AtMostOne (Makes ToCedar text extensions)
unfolding Makes
one_to_cedar text extensions = one_cedar text

-- a review that writes a word alone
pub one_conform : (text : List ℕ) (extensions : List (List ℕ)) → AtMostOne (Makes (Review Conform) text extensions)
unfolding Makes MakesReview
one_conform text extensions due due' (t, d, holds, (S, denotes, (are, is))) (t', d', holds', (S', denotes', (are', is'))) = is ∙ sym is'

pub one_compat : (text : List ℕ) (extensions : List (List ℕ)) → AtMostOne (Makes (Review Compat) text extensions)
unfolding Makes MakesReview
one_compat text extensions due due' p q = p.1 ∙ sym q.1
