-- SPDX-License-Identifier: Apache-2.0
use Rattle.cedar_grammar.proofs.Wholes.{schema_finds, schema_found}
use Rattle.cedar_grammar.proofs.grammar.reading_finds.Goals as goal

pub returns-clause-finds : goal.returns-clause-finds
returns-clause-finds c = schema_finds

pub returns-clause-found : goal.returns-clause-found
returns-clause-found c = schema_found
