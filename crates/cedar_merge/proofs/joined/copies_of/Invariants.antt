-- SPDX-License-Identifier: Apache-2.0
use Rattle.std.proofs.Common.{◌≡◌, ◌++◌}
use Rattle.cedar_names.specs.Annotating.{annotation_entries}
use Rattle.cedar_merge.proofs.joined.copies_of.Given as goal

-- the copies so far are the first ones
abbrev pub invariant-loop-key : goal.invariant-loop-key
invariant-loop-key l = l.notes ++ l.key-iterator ≡ annotation_entries l.annotations
