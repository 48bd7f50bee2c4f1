-- SPDX-License-Identifier: Apache-2.0
use Rattle.std.proofs.Common.{[]}
use Rattle.cedar_fmt.specs.Collisions.{shared_under}
use Rattle.cedar_fmt.proofs.Gathering.{Gathers}
use Rattle.cedar_fmt.proofs.collisions.all_shared.Given as goal

-- the names of the namespaces so far
abbrev pub invariant-loop-path : goal.invariant-loop-path
invariant-loop-path g l = Gathers (λ e. shared_under e.0 e.1) l.fragment.0 l.path-iterator [] l.names
