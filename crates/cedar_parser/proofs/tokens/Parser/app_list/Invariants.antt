-- SPDX-License-Identifier: Apache-2.0
use Rattle.std.proofs.Common.{ℕ, ◌<◌, ◌≤◌, map, length}
use Rattle.cedar_tree.specs.Meanings.{node_of, app_tree}
use Rattle.cedar_grammar.specs.Reading.{app_at, type_at}
use Rattle.cedar_parser.specs.Giving.{tokens_of}
use Rattle.cedar_parser.proofs.Braces.{BraceReached}
use Rattle.cedar_parser.proofs.tokens.Parser.app_list.Given as goal

-- all parts are those so far and those of the tokens that are left
abbrev pub invariant-apps : goal.invariant-apps
invariant-apps l = record {
  fewer : length l.tokens.rest.now ≤ length l.fn.tokens.rest.now;
  is : (n : ℕ) → length l.fn.tokens.rest.now < n
      → BraceReached (app_at (type_at n)) (tokens_of l.fn.self.source.now l.fn.tokens.rest.now) (map (node_of app_tree) l.apps) (tokens_of l.fn.self.source.now l.tokens.rest.now);
}

abbrev pub decreases-apps : goal.decreases-apps
decreases-apps l = length l.tokens.rest.now
