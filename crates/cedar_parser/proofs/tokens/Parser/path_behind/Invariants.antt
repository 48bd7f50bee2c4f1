-- SPDX-License-Identifier: Apache-2.0
use Rattle.std.proofs.Common.{◌≤◌, length}
use Rattle.cedar_names.specs.Identifiers.{id_word}
use Rattle.cedar_tree.specs.Meanings.{node_of}
use Rattle.cedar_parser.specs.Giving.{tokens_of}
use Rattle.cedar_parser.specs.Ids.{ids_path}
use Rattle.cedar_parser.proofs.Chains.{PathReached}
use Rattle.cedar_parser.proofs.tokens.Parser.path_behind.Given as goal

-- the path so far, and what the tokens that are left read to
abbrev pub invariant-ids : goal.invariant-ids
invariant-ids l = record {
  fewer : length l.tokens.rest.now ≤ length l.fn.tokens.rest.now;
  is : PathReached (node_of id_word l.fn.first) (tokens_of l.fn.self.source.now l.fn.tokens.rest.now) (ids_path l.ids) (tokens_of l.fn.self.source.now l.tokens.rest.now);
}

abbrev pub decreases-ids : goal.decreases-ids
decreases-ids l = length l.tokens.rest.now
