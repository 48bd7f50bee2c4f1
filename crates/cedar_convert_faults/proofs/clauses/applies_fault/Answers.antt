-- SPDX-License-Identifier: Apache-2.0
use Rattle.std.proofs.Common.{rules, ◌≡◌, [], ap, map}
use Rattle.std.specs.Option.{option_copied}
use Rattle.cedar_tree.specs.Meanings.{app_tree, node_of}
use Rattle.cedar_convert_faults.specs.Faults.{fault_behind}
use Rattle.cedar_convert_faults.proofs.ReadClauses.{Reads-next}
use Rattle.cedar_convert_faults.proofs.clauses.applies_fault.Goals as goal

pub loop-clause-preserved : goal.loop-clause-preserved
loop-clause-preserved c =
    let clause = node_of app_tree c.in-Some.clause.now in
    let first = option_copied c.earlier-first.result in
    let fine : [] ≡ fault_behind c.args.name.now first clause = search rules in
    Reads-next clause first c.loop-clause.invariant (ap (map (node_of app_tree)) c.in-Some.ensures.steps) c.earlier-first.ensures fine c.with-seen.ensures
