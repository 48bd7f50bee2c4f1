-- SPDX-License-Identifier: Apache-2.0
use Rattle.cedar_names.specs.Extensions.{extension_words}
use Rattle.cedar_schema_tool.proofs.Answering.{text-accepts, text-answers}
use Rattle.cedar_schema_tool.proofs.running.answer_bytes.Goals as goal

pub returns-in-Ok-clause-answers : goal.returns-in-Ok-clause-answers
returns-in-Ok-clause-answers g c =
    text-answers c.args.command c.args.bytes.now c.in-Ok.text.now (extension_words c.args.extensions.now) _ _ _ _ c.answer_text.result
    c.in-Ok.ensures.cases.0 c.in-Ok.ensures.cases.1 c.answer_text.ensures.answers

pub returns-in-Ok-clause-accepts : goal.returns-in-Ok-clause-accepts
returns-in-Ok-clause-accepts g c =
    text-accepts c.args.command c.args.bytes.now c.in-Ok.text.now (extension_words c.args.extensions.now) c.answer_text.result c.in-Ok.ensures.cases.0 c.answer_text.ensures.accepts
