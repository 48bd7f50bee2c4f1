-- SPDX-License-Identifier: Apache-2.0
use Rattle.std.proofs.Common.{◌≡◌, take}
use Rattle.cedar_declared.proofs.spaces.SpacesDup.dup.Given as goal

-- the copies so far are the first namespaces
abbrev pub invariant-loop-namespace : goal.invariant-loop-namespace
invariant-loop-namespace l = l.spaces.items ≡ take l.namespace-index l.namespace-items
