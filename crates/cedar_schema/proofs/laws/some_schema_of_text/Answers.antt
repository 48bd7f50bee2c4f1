-- SPDX-License-Identifier: Apache-2.0
use Rattle.cedar_schema.proofs.Refusing.{some_schema_of_text}
use Rattle.cedar_schema.proofs.laws.some_schema_of_text.Goals as goal

pub returns : goal.returns
returns c = some_schema_of_text
