-- SPDX-License-Identifier: Apache-2.0
use Rattle.std.specs.String.{string_bytes}
use Rattle.cedar_schema.specs.SchemaViews.{schema_in}
use Rattle.cedar_reviews.proofs.Compared.{break-told}
use Rattle.cedar_reviews.proofs.comparing.compare_schemas.Goals as goal

pub returns-in-Err-Refused-clause-told : goal.returns-in-Err-Refused-clause-told
returns-in-Err-Refused-clause-told c =
    break-told string_bytes (schema_in c.args.old.now) (schema_in c.args.new.now) c.in-Err-Refused.fault c.refused_by.result (rw c.in-Err-Refused.field-0-is at c.in-Err-Refused.ensures.told) c.refused_by.ensures.told
