-- SPDX-License-Identifier: Apache-2.0
use Rattle.cedar_text_laws.proofs.Parsing.{schema_or_explained}
use Rattle.cedar_text_laws.proofs.laws.schema_or_explained.Goals as goal

pub returns : goal.returns
returns c = schema_or_explained
