-- SPDX-License-Identifier: Apache-2.0
use Rattle.std.proofs.Common.{◌≡◌, drop}
use Rattle.cedar_convert_faults.specs.Repeats.{place_of}
use Rattle.cedar_convert_faults.proofs.repeats.place_of.Given as goal

-- the first that is the word is among the rest
abbrev pub invariant-loop-name : goal.invariant-loop-name
invariant-loop-name l = place_of (drop l.name-index l.names) l.word ≡ place_of l.names l.word
