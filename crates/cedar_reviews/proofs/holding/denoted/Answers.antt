-- SPDX-License-Identifier: Apache-2.0
use Rattle.cedar_names.specs.Extensions.{extension_words}
use Rattle.cedar_schema.proofs.Refusing.{well_formed_or_refused}
use Rattle.cedar_schema.specs.SchemaViews.{schema_in}
use Rattle.cedar_reviews.proofs.Held.{one-denoted}
use Rattle.cedar_reviews.proofs.holding.denoted.Goals as goal

pub returns-in-Ok-clause-accepts : goal.returns-in-Ok-clause-accepts
returns-in-Ok-clause-accepts c = λ S d. one-denoted c.args.text.now (extension_words c.args.extensions.now) (schema_in c.in-Ok.schema) S (_, c.in-Ok.ensures.denotes) d

pub returns-in-Err-Refused-clause-accepts : goal.returns-in-Err-Refused-clause-accepts
returns-in-Err-Refused-clause-accepts c =
    λ S d. absurd (well_formed_or_refused c.args.text.now (extension_words c.args.extensions.now) d.1.fragment d.0 c.in-Err-Refused.error d.1.well_formed (rw c.in-Err-Refused.field-0-is at c.in-Err-Refused.ensures.refused))
