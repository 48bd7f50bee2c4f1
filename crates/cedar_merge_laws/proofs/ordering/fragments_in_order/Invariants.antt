-- SPDX-License-Identifier: Apache-2.0
use Rattle.std.proofs.Common.{take}
use Rattle.cedar_convert_fragment.specs.Views.{fragment_seen}
use Rattle.cedar_data.specs.Firsts.{AllPass}
use Rattle.cedar_merge_laws.specs.Together.{InOrder}
use Rattle.cedar_merge_laws.proofs.ordering.fragments_in_order.Given as goal

-- the fragments so far stand in order
abbrev pub invariant-loop-fragment : goal.invariant-loop-fragment
invariant-loop-fragment l = AllPass (λ f. InOrder (fragment_seen f)) (take l.fragment-index l.fragments)
