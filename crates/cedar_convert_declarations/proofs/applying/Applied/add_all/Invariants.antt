-- SPDX-License-Identifier: Apache-2.0
use Rattle.std.proofs.Common.{◌≡◌, ◌++◌, map}
use Rattle.std.specs.Option.{option_or}
use Rattle.std.specs.Vec.Iter.{into_iter_items}
use Rattle.cedar_tree.specs.Meanings.{app_tree, node_of}
use Rattle.cedar_convert_declarations.specs.Applied.{context_seen}
use Rattle.cedar_convert_fragment.specs.Declares.{first_context, listed_of}
use Rattle.cedar_tree.specs.Trees.{Principal, Resource}
use Rattle.cedar_convert_fragment.specs.Views.{name_at}
use Rattle.cedar_convert_declarations.proofs.applying.Applied.add_all.Given as goal

-- what is gathered, with what the clauses say that are left, is what was gathered before with what all say
abbrev pub invariant-loop-clause : goal.invariant-loop-clause
invariant-loop-clause l = record {
  principals : map name_at l.self.principals ++ listed_of Principal (map (node_of app_tree) (into_iter_items l.clause-iterator)) ≡ map name_at l.fn.self.principals ++ listed_of Principal (map (node_of app_tree) l.fn.clauses.items);
  resources : map name_at l.self.resources ++ listed_of Resource (map (node_of app_tree) (into_iter_items l.clause-iterator)) ≡ map name_at l.fn.self.resources ++ listed_of Resource (map (node_of app_tree) l.fn.clauses.items);
  context : option_or (context_seen l.self.context) (first_context (map (node_of app_tree) (into_iter_items l.clause-iterator))) ≡ option_or (context_seen l.fn.self.context) (first_context (map (node_of app_tree) l.fn.clauses.items));
}
