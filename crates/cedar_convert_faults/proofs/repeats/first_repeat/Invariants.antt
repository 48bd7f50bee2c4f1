-- SPDX-License-Identifier: Apache-2.0
use Rattle.std.specs.Slice.Iter.{iter_rest}
use Rattle.cedar_convert_faults.proofs.Repeated.{Seen}
use Rattle.cedar_convert_faults.proofs.repeats.first_repeat.Given as goal

-- the names so far are seen, each at its first place, and the first repeat is to come
abbrev pub invariant-loop-name : goal.invariant-loop-name
invariant-loop-name l = Seen l.names l.places (iter_rest l.name-iterator)
