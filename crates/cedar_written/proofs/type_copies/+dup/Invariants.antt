-- SPDX-License-Identifier: Apache-2.0
use Rattle.std.proofs.Common.{◌≡◌, ◌++◌}
use Rattle.cedar_written.proofs.type_copies.+dup.Given as goal

-- the copies so far are the first entries
abbrev pub invariant-dup_attributes-loop-name : goal.invariant-dup_attributes-loop-name
invariant-dup_attributes-loop-name g l = l.copies ++ l.name-iterator ≡ l.attributes
