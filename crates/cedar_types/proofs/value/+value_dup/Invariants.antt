-- SPDX-License-Identifier: Apache-2.0
use Rattle.std.proofs.Common.{◌≡◌, ◌++◌, take}
use Rattle.cedar_types.proofs.value.+value_dup.Given as goal

-- the copies so far are the first entries
abbrev pub invariant-dup_members-loop-name : goal.invariant-dup_members-loop-name
invariant-dup_members-loop-name l = l.copies ++ l.name-iterator ≡ l.values

-- the copies so far are the first values
abbrev pub invariant-dup_values-loop-value : goal.invariant-dup_values-loop-value
invariant-dup_values-loop-value l = l.copies ≡ take l.value-index l.value-items
