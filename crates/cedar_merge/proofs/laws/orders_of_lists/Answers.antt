-- SPDX-License-Identifier: Apache-2.0
use Rattle.cedar_merge.proofs.Permuted.{clash_permuted, conflict_permuted, merged_permuted}
use Rattle.cedar_merge.proofs.laws.orders_of_lists.Goals as goal

pub returns-clause-clash : goal.returns-clause-clash
returns-clause-clash c = clash_permuted

pub returns-clause-conflict : goal.returns-clause-conflict
returns-clause-conflict c = conflict_permuted

pub returns-clause-merged : goal.returns-clause-merged
returns-clause-merged c = merged_permuted
