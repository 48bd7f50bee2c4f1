-- SPDX-License-Identifier: Apache-2.0
use Rattle.std.proofs.Common.{◌≡◌, ◌++◌, length}
use Rattle.std.specs.Slice.Iter.{iter_rest}
use Rattle.cedar_data.specs.Runs.{all_runs}
use Rattle.cedar_data.proofs.entries_iter.EntriesIterIterator.next.Given as goal

-- no entry is lost with a run that is empty
abbrev pub invariant-loop-entry : goal.invariant-loop-entry
invariant-loop-entry g l = record {
  same : iter_rest l.self-inside.run ++ all_runs (iter_rest l.self-inside.runs) ≡ l.fn.self;
  counted : l.self-inside.left ≡ length (iter_rest l.self-inside.run ++ all_runs (iter_rest l.self-inside.runs));
}

abbrev pub decreases-loop-entry : goal.decreases-loop-entry
decreases-loop-entry g l = length (iter_rest l.self-inside.runs)
