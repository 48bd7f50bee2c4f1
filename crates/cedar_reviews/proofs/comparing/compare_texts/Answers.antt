-- SPDX-License-Identifier: Apache-2.0
use Rattle.std.specs.String.{string_bytes}
use Rattle.cedar_names.specs.Extensions.{extension_words}
use Rattle.cedar_schema.specs.SchemaViews.{schema_in}
use Rattle.cedar_reviews.proofs.Compared.{texts-due}
use Rattle.cedar_reviews.proofs.comparing.compare_texts.Goals as goal

pub returns-clause-due : goal.returns-clause-due
returns-clause-due c =
    texts-due string_bytes c.args.old.now c.args.new.now (extension_words c.args.extensions.now) (schema_in c.in_ok-schema.schema) c.compare_to_text-answer.result c.in_ok-schema.ensures.denotes c.compare_to_text-answer.ensures.due
