-- SPDX-License-Identifier: Apache-2.0
use Rattle.std.proofs.Common.{◌<◌, ◌∷◌, map, length}
use Rattle.cedar_parser.specs.Giving.{tokens_of}
use Rattle.cedar_parser.proofs.Commas.{Members}
use Rattle.cedar_parser.proofs.tokens.Parser.commas.Given as goal

-- all members are those so far and those of the tokens that are left
abbrev pub invariant-members : goal.invariant-members
invariant-members g l = record {
  fewer : length l.tokens.rest.now < length l.fn.tokens.rest.now;
  is : Members g.M.Member.reader (tokens_of l.fn.self.source.now l.fn.tokens.rest.now) (map g.M.Member.tree (l.head ∷ l.tail)) (tokens_of l.fn.self.source.now l.tokens.rest.now);
}

abbrev pub decreases-members : goal.decreases-members
decreases-members g l = length l.tokens.rest.now
