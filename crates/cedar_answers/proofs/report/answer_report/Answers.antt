-- SPDX-License-Identifier: Apache-2.0
use Rattle.std.proofs.Common.{◌≡◌, Global, Vec}
use Rattle.cedar_convert_warnings.specs.declared.warnings.SchemaWarning.{SchemaWarning}
use Rattle.cedar_fragment_world.specs.FragmentWorlds.{world_of_fragment}
use Rattle.cedar_names.specs.Extensions.{extension_words}
use Rattle.cedar_schema_json.specs.SchemaViews.{schema_in}
use Rattle.cedar_resolved.specs.declared.schema.ValidatorSchema.{ValidatorSchema}
use Rattle.cedar_world.specs.Denotes.{Denotes}
use Rattle.cedar_answers.proofs.ByMade.{made-accepts, made-answers}
use Rattle.cedar_answers.proofs.Schemas.{schema-due, schema-told}
use Rattle.cedar_answers.specs.Making.{MakesReport, report_text}
use Rattle.cedar_reviews.specs.Holding.{TellsNoSchema}
use Rattle.cedar_reviews.specs.Refusal.{refusal_text}
use Rattle.cedar_answers.proofs.report.answer_report.Goals as goal

-- what is made of a text: a schema with warnings
abbrev Made : Type 0
Made = ValidatorSchema × Vec SchemaWarning Global

pub returns-clause-answers : goal.returns-clause-answers
returns-clause-answers g c =
    made-answers g.K.Sink.written g.K.Sink.faults g.E.Sink.written g.E.Sink.faults c.args.out.now c.report_made-status.new.out c.args.err.now c.report_made-status.new.err c.report_made-status.result
    {T = Made} (λ made. report_text c.args.report made.0 made.1.items) refusal_text (MakesReport c.args.report c.args.text.now (extension_words c.args.extensions.now)) (TellsNoSchema c.args.text.now (extension_words c.args.extensions.now)) c.from_cedarschema_str-made.result
    (schema-due c.args.text.now (extension_words c.args.extensions.now) {T = Made} (λ made. made.0) (λ made. made.1.items) (report_text c.args.report) c.from_cedarschema_str-made.result c.from_cedarschema_str-made.ensures.denotes c.from_cedarschema_str-made.ensures.consistent)
    (schema-told c.args.text.now (extension_words c.args.extensions.now) {T = Made} c.from_cedarschema_str-made.result c.from_cedarschema_str-made.ensures.refused)
    c.report_made-status.ensures

pub returns-clause-accepts : goal.returns-clause-accepts
returns-clause-accepts g c =
    λ given. made-accepts g.K.Sink.written g.K.Sink.faults g.E.Sink.written g.E.Sink.faults c.args.out.now c.report_made-status.new.out c.args.err.now c.report_made-status.new.err c.report_made-status.result
    {T = Made} (λ made. report_text c.args.report made.0 made.1.items) refusal_text (λ made. Denotes (world_of_fragment given.0 (extension_words c.args.extensions.now)) (schema_in made.0) × (made.1.items ≡ given.1)) c.from_cedarschema_str-made.result
    (c.from_cedarschema_str-made.ensures.accepts given.0 given.1 given.2) c.report_made-status.ensures
