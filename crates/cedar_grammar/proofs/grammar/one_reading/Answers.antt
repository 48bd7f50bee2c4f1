-- SPDX-License-Identifier: Apache-2.0
use Rattle.cedar_grammar.proofs.Wholes.{one_schema}
use Rattle.cedar_grammar.proofs.grammar.one_reading.Goals as goal

pub returns : goal.returns
returns c = one_schema
