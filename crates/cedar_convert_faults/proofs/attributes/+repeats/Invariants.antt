-- SPDX-License-Identifier: Apache-2.0
use Rattle.std.proofs.Common.{drop}
use Rattle.cedar_convert_faults.proofs.RecordRepeats.{Among, Tried}
use Rattle.cedar_convert_faults.proofs.attributes.+repeats.Given as goal

-- the names so far are seen, each at its first place, and the leftmost repeat is to come
abbrev pub invariant-repeat_among-loop-attr : goal.invariant-repeat_among-loop-attr
invariant-repeat_among-loop-attr l = Among l.fn.attrs l.places (drop l.attr-index l.attr-items)

-- the leftmost repeat of all is to come
abbrev pub invariant-repeat_among_few-loop-at : goal.invariant-repeat_among_few-loop-at
invariant-repeat_among_few-loop-at l = Tried l.attrs l.at
