-- SPDX-License-Identifier: Apache-2.0
use Rattle.std.proofs.Common.{◌≡◌, ◌++◌, flat_map}
use Rattle.cedar_convert_warnings.proofs.shadowing.in_order.Given as goal

-- the warnings so far, with those of the rest, are all
abbrev pub invariant-loop-more : goal.invariant-loop-more
invariant-loop-more l = l.warnings.items ++ flat_map (λ e. e.1) l.more-iterator ≡ flat_map (λ e. e.1) l.initial.more-iterator
