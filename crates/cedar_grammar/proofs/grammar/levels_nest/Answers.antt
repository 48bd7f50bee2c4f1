-- SPDX-License-Identifier: Apache-2.0
use Rattle.cedar_grammar.proofs.Levels.{level_as_nest}
use Rattle.cedar_grammar.proofs.grammar.levels_nest.Goals as goal

pub returns : goal.returns
returns c = level_as_nest
