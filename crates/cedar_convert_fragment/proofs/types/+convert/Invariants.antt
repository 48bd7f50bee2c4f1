-- SPDX-License-Identifier: Apache-2.0
use Rattle.std.specs.Vec.Iter.{into_iter_items}
use Rattle.cedar_convert_fragment.proofs.TypeViews.{Gives}
use Rattle.cedar_convert_fragment.proofs.types.+convert.Given as goal

-- the attributes so far, with those that are left, are all
abbrev pub invariant-record_declared-loop-attr : goal.invariant-record_declared-loop-attr
invariant-record_declared-loop-attr l = Gives l.fn.attrs (into_iter_items l.attr-iterator) l.attributes
