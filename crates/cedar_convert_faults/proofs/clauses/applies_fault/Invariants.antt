-- SPDX-License-Identifier: Apache-2.0
use Rattle.std.proofs.Common.{map}
use Rattle.cedar_text.specs.Lists.{elements, elements_left}
use Rattle.cedar_tree.specs.Meanings.{app_tree, node_of}
use Rattle.cedar_convert_faults.proofs.ReadClauses.{Reads}
use Rattle.cedar_convert_faults.proofs.clauses.applies_fault.Given as goal

-- the clauses so far were read, and the first fault is to come
abbrev pub invariant-loop-clause : goal.invariant-loop-clause
invariant-loop-clause l = Reads l.name (map (node_of app_tree) (elements l.clauses)) l.seen (map (node_of app_tree) (elements_left l.clause-iterator))
