-- SPDX-License-Identifier: Apache-2.0
use Rattle.std.proofs.Common.{◌≡◌, ◌++◌}
use Rattle.std.specs.Slice.Iter.{iter_rest}
use Rattle.cedar_names.specs.Components.{namespace_of}
use Rattle.cedar_declared.proofs.spaces.namespace_of.Given as goal

-- the copies so far and the identifiers that are left are all
abbrev pub invariant-loop-id : goal.invariant-loop-id
invariant-loop-id l = l.ids ++ iter_rest l.id-iterator ≡ namespace_of l.fn.name
