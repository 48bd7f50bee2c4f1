-- SPDX-License-Identifier: Apache-2.0
use Rattle.std.proofs.Common.{ℕ, ◌<◌, ◌≤◌, map, length}
use Rattle.cedar_tree.specs.Meanings.{node_of, annotated_tree, decl_tree}
use Rattle.cedar_grammar.specs.Reading.{type_at}
use Rattle.cedar_parser.specs.Giving.{tokens_of}
use Rattle.cedar_parser.proofs.Items.{DeclsReached}
use Rattle.cedar_parser.proofs.tokens.Parser.namespace_body.Given as goal

-- all declarations are those so far and those of the tokens that are left
abbrev pub invariant-decls : goal.invariant-decls
invariant-decls l = record {
  fewer : length l.tokens.rest.now ≤ length l.fn.tokens.rest.now;
  is : (n : ℕ) → length l.fn.tokens.rest.now < n
      → DeclsReached (type_at n) (tokens_of l.fn.self.source.now l.fn.tokens.rest.now) (map (annotated_tree (node_of decl_tree)) l.decls) (tokens_of l.fn.self.source.now l.tokens.rest.now);
}

abbrev pub decreases-decls : goal.decreases-decls
decreases-decls l = length l.tokens.rest.now
