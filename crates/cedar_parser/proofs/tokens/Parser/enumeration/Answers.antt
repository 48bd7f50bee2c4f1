-- SPDX-License-Identifier: Apache-2.0
use Rattle.std.proofs.Common.{rules, map, refl}
use Rattle.cedar_names.specs.Identifiers.{id_word}
use Rattle.cedar_text.specs.Lists.{elements}
use Rattle.cedar_tree.specs.Meanings.{node_of}
use Rattle.cedar_parser.specs.Giving.{lexeme_node}
use Rattle.cedar_parser.proofs.Endings.{enum_is}
use Rattle.cedar_parser.proofs.tokens.Parser.enumeration.Goals as goal

-- the declaration is made of its parts
pub returns-in_err-choices-clause-read : goal.returns-in_err-choices-clause-read
returns-in_err-choices-clause-read c =
    rw (enum_is (lexeme_node c.args.self.now.source.now c.args.entity) (map (node_of id_word) (elements c.args.names)) _) (search rules)

pub returns-clause-read : goal.returns-clause-read
returns-clause-read c =
    rw (enum_is (lexeme_node c.args.self.now.source.now c.args.entity) (map (node_of id_word) (elements c.args.names)) _, c.in_ok-choices.ensures.read) refl
