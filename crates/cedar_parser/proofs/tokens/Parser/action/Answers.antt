-- SPDX-License-Identifier: Apache-2.0
use Rattle.std.proofs.Common.{arith, map}
use Rattle.cedar_text.specs.Lists.{elements}
use Rattle.cedar_tree.specs.Meanings.{node_of}
use Rattle.cedar_grammar.specs.Reading.{type_at}
use Rattle.cedar_parser.specs.Giving.{lexeme_node}
use Rattle.cedar_parser.proofs.Endings.{action_is}
use Rattle.cedar_parser.proofs.tokens.Parser.action.Goals as goal

-- what follows the names of actions is read behind them
pub returns-clause-read : goal.returns-clause-read
returns-clause-read c n enough =
    let text = c.args.self.now.source.now in
    rw (action_is (lexeme_node text c.args.action) (map (node_of (λ name. name)) (elements c.in_ok-names.names)) (type_at n) _ _ c.in_ok-names.ensures.read)
    (c.action_rest.ensures.read n (omega (arith, enough, c.in_ok-names.ensures.shorter)))
