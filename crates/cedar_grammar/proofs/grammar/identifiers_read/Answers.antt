-- SPDX-License-Identifier: Apache-2.0
use Rattle.cedar_grammar.proofs.Read.{read_as_read}
use Rattle.cedar_grammar.proofs.grammar.identifiers_read.Goals as goal

pub returns : goal.returns
returns c = read_as_read
