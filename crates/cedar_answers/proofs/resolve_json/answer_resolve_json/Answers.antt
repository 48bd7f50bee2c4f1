-- SPDX-License-Identifier: Apache-2.0
use Rattle.std.specs.Prelude.{⊤, []}
use Rattle.cedar_listing.specs.Listing.{listing}
use Rattle.cedar_names.specs.Extensions.{extension_words}
use Rattle.cedar_answers.proofs.ByMade.{made-accepts, made-answers}
use Rattle.cedar_answers.proofs.Schemas.{json_schema-due, json_schema-told}
use Rattle.cedar_answers.specs.Making.{MakesJsonListing, TellsNoJsonSchema}
use Rattle.cedar_reviews.specs.Refusal.{refusal_text}
use Rattle.cedar_answers.proofs.resolve_json.answer_resolve_json.Goals as goal

pub returns-clause-answers : goal.returns-clause-answers
returns-clause-answers g c =
    made-answers g.K.Sink.written g.K.Sink.faults g.E.Sink.written g.E.Sink.faults c.args.out.now c.answer_json_listing-status.new.out c.args.err.now c.answer_json_listing-status.new.err c.answer_json_listing-status.result
    (λ schema. listing schema []) refusal_text (MakesJsonListing c.args.text.now (extension_words c.args.extensions.now)) (TellsNoJsonSchema c.args.text.now (extension_words c.args.extensions.now)) c.json_schema-made.result
    (json_schema-due c.args.text.now (extension_words c.args.extensions.now) c.json_schema-made.result c.json_schema-made.ensures.schema)
    (json_schema-told c.args.text.now (extension_words c.args.extensions.now) c.json_schema-made.result c.json_schema-made.ensures.refused)
    c.answer_json_listing-status.ensures

pub returns-clause-accepts : goal.returns-clause-accepts
returns-clause-accepts g c =
    λ given. made-accepts g.K.Sink.written g.K.Sink.faults g.E.Sink.written g.E.Sink.faults c.args.out.now c.answer_json_listing-status.new.out c.args.err.now c.answer_json_listing-status.new.err c.answer_json_listing-status.result
    (λ schema. listing schema []) refusal_text (λ _. ⊤) c.json_schema-made.result (c.json_schema-made.ensures.accepts given) c.answer_json_listing-status.ensures
