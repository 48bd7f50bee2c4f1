-- SPDX-License-Identifier: Apache-2.0
use Rattle.std.proofs.Common.{ℕ, ◌+◌, ◌*◌, ◌<◌, ◌≤◌, map, length}
use Rattle.cedar_tree.specs.Meanings.{attr_node, attr_tree}
use Rattle.cedar_grammar.specs.Reading.{attr_at, type_at}
use Rattle.cedar_parser.specs.Giving.{tokens_of}
use Rattle.cedar_parser.proofs.Braces.{BraceReached}
use Rattle.cedar_parser.proofs.tokens.Parser.+parser.Given as goal

abbrev pub decreases-type_of : goal.decreases-type_of
decreases-type_of l = 3 * length l.tokens.now.rest.now

abbrev pub decreases-set_behind : goal.decreases-set_behind
decreases-set_behind l = 3 * length l.tokens.now.rest.now

abbrev pub decreases-record_behind : goal.decreases-record_behind
decreases-record_behind l = 3 * length l.tokens.now.rest.now + 2

abbrev pub decreases-attributes : goal.decreases-attributes
decreases-attributes l = 3 * length l.tokens.now.rest.now + 1

abbrev pub decreases-attribute : goal.decreases-attribute
decreases-attribute l = 3 * length l.tokens.now.rest.now

-- all attributes are those so far and those of the tokens that are left
abbrev pub invariant-attributes-attributes : goal.invariant-attributes-attributes
invariant-attributes-attributes l = record {
  fewer : length l.tokens.rest.now ≤ length l.fn.tokens.rest.now;
  is : (n : ℕ) → length l.fn.tokens.rest.now < n
      → BraceReached (attr_at (type_at n)) (tokens_of l.fn.self.source.now l.fn.tokens.rest.now) (map (attr_node attr_tree) l.attrs) (tokens_of l.fn.self.source.now l.tokens.rest.now);
}

abbrev pub decreases-attributes-attributes : goal.decreases-attributes-attributes
decreases-attributes-attributes l = length l.tokens.rest.now
