-- SPDX-License-Identifier: Apache-2.0
use Rattle.std.proofs.Common.{◌≡◌, ◌++◌}
use Rattle.std.specs.Vec.Iter.{into_iter_items}
use Rattle.cedar_convert_faults.proofs.gathering.gather_one.Given as goal

-- each declaration is put behind the others
abbrev pub invariant-loop-decl : goal.invariant-loop-decl
invariant-loop-decl l = l.loose ++ into_iter_items l.decl-iterator ≡ l.initial.loose ++ into_iter_items l.initial.decl-iterator
