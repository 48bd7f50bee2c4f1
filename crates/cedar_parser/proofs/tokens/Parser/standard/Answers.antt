-- SPDX-License-Identifier: Apache-2.0
use Rattle.std.proofs.Common.{arith, map}
use Rattle.cedar_names.specs.Identifiers.{id_word}
use Rattle.cedar_text.specs.Lists.{elements}
use Rattle.cedar_tree.specs.Meanings.{node_of, path_tree}
use Rattle.cedar_grammar.specs.Reading.{type_at}
use Rattle.cedar_parser.specs.Giving.{lexeme_node}
use Rattle.cedar_parser.proofs.Endings.{standard_is}
use Rattle.cedar_parser.proofs.tokens.Parser.standard.Goals as goal

-- what follows the parents is read behind them
pub returns-clause-read : goal.returns-clause-read
returns-clause-read c n enough =
    let text = c.args.self.now.source.now in
    rw (standard_is (lexeme_node text c.args.entity) (map (node_of id_word) (elements c.args.names)) (map path_tree c.in_ok-member_of_types.member_of_types) (type_at n) _ _ c.in_ok-member_of_types.ensures.read)
    (c.standard_rest.ensures.read n (omega (arith, enough, c.in_ok-member_of_types.ensures.shorter)))
