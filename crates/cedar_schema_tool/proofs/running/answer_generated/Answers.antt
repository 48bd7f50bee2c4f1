-- SPDX-License-Identifier: Apache-2.0
use Rattle.std.proofs.Common.{◌∙◌}
use Rattle.cedar_commands.specs.declared.command.Command.TheVariants.{Bench}
use Rattle.cedar_generator.specs.Generated.{generated}
use Rattle.cedar_names.specs.Extensions.{extension_words}
use Rattle.cedar_schema_tool.proofs.Answering.{same-accepts, same-answers}
use Rattle.cedar_schema_tool.proofs.running.answer_generated.Goals as goal

pub returns-in-Ok-clause-answers : goal.returns-in-Ok-clause-answers
returns-in-Ok-clause-answers g c =
    same-answers (Bench c.args.size) c.as_str.result.now (generated c.args.size) (extension_words c.args.extensions.now) _ _ _ _ c.answer_text.result
    (c.as_str.ensures.value ∙ c.in-Ok.ensures) c.answer_text.ensures.answers

pub returns-in-Ok-clause-accepts : goal.returns-in-Ok-clause-accepts
returns-in-Ok-clause-accepts g c =
    same-accepts (Bench c.args.size) c.as_str.result.now (generated c.args.size) (extension_words c.args.extensions.now) c.answer_text.result
    (c.as_str.ensures.value ∙ c.in-Ok.ensures) c.answer_text.ensures.accepts
