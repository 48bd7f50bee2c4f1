-- SPDX-License-Identifier: Apache-2.0
use Rattle.std.proofs.Common.{◌≡◌, ◌++◌, length}
use Rattle.std.specs.Vec.Iter.{into_iter_items}
use Rattle.cedar_data.specs.Runs.{all_runs}
use Rattle.cedar_data.proofs.entries_iter.EntriesIntoIterIterator.next.Given as goal

-- no entry is lost with a run that is empty
abbrev pub invariant-loop-entry : goal.invariant-loop-entry
invariant-loop-entry g l = into_iter_items l.self-inside.run ++ all_runs (into_iter_items l.self-inside.runs) ≡ l.fn.self

abbrev pub decreases-loop-entry : goal.decreases-loop-entry
decreases-loop-entry g l = length (into_iter_items l.self-inside.runs)
