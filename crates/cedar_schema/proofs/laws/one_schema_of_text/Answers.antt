-- SPDX-License-Identifier: Apache-2.0
use Rattle.cedar_schema.proofs.Refusing.{one_schema_of_text}
use Rattle.cedar_schema.proofs.laws.one_schema_of_text.Goals as goal

pub returns : goal.returns
returns c = one_schema_of_text
