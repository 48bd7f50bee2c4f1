-- SPDX-License-Identifier: Apache-2.0
use Rattle.cedar_grammar.proofs.Viability.{begins_as_completable, viable_as_completable}
use Rattle.cedar_grammar.proofs.grammar.grammar_viable.Goals as goal

pub returns-clause-at_level : goal.returns-clause-at_level
returns-clause-at_level c = begins_as_completable

pub returns-clause-viable : goal.returns-clause-viable
returns-clause-viable c = viable_as_completable
