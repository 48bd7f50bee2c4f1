-- SPDX-License-Identifier: Apache-2.0
use Rattle.std.proofs.Common.{◌≤◌, length}
use Rattle.cedar_tree.specs.Meanings.{schema_tree}
use Rattle.cedar_parser.specs.Giving.{tokens_of}
use Rattle.cedar_parser.proofs.Items.{ItemsReached}
use Rattle.cedar_parser.proofs.tokens.Parser.schema.Given as goal

-- all items are those so far and those of the tokens that are left
abbrev pub invariant-items : goal.invariant-items
invariant-items l = record {
  fewer : length l.tokens.rest.now ≤ length l.fn.tokens.rest.now;
  is : ItemsReached (tokens_of l.fn.self.source.now l.fn.tokens.rest.now) (schema_tree l.items) (tokens_of l.fn.self.source.now l.tokens.rest.now);
}

abbrev pub decreases-items : goal.decreases-items
decreases-items l = length l.tokens.rest.now
