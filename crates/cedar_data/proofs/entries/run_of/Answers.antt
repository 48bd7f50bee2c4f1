-- SPDX-License-Identifier: Apache-2.0
use Rattle.std.proofs.Common.{rules}
use Rattle.std.proofs.lemmas.List.Sorted.{IsPartitionPoint-from_clause}
use Rattle.cedar_data.proofs.RunOrder.{runs_parted, run_found}
use Rattle.cedar_data.specs.Runs.{begins_by}
use Rattle.cedar_data.proofs.entries.run_of.Goals as goal

pub returns-clause-of : goal.returns-clause-of
returns-clause-of g c =
    let point = IsPartitionPoint-from_clause (begins_by g.K.Ord.cmp c.args.key.now) _ _ c.partition_point-behind.ensures.partitioned (runs_parted g.met.K.Ord.total c.args.key.now c.args.runs.now c.requires) (λ a r q k. search rules) in
    run_found g.met.K.Ord.total c.args.key.now c.args.runs.now c.requires _ _ (search rules) (search rules) point
