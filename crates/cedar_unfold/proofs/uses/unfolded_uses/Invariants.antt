-- SPDX-License-Identifier: Apache-2.0
use Rattle.std.proofs.Common.{◌≡◌, ◌+◌, ◌≤◌, ◌++◌}
use Rattle.std.specs.Map.{keys_of}
use Rattle.cedar_schema_error.specs.Refusals.{Refusal}
use Rattle.cedar_unfold.specs.Full.{Definitions, IsFull, by_place, meanings_of}
use Rattle.cedar_unfold.specs.Passing.{GivesUse}
use Rattle.cedar_unfold.specs.ResolvedViews.{resolved}
use Rattle.cedar_unfold.specs.Tables.{tabled}
use Rattle.cedar_unfolding.specs.UnfoldPhases.{UsePasses, UseRefuses}
use Rattle.cedar_unfolding.specs.Written.{all_nodes}
use Rattle.cedar_unfold.proofs.Gathering.{Gathering}
use Rattle.cedar_unfold.proofs.uses.unfolded_uses.Given as goal

-- the places so far and those that are left are all; what is left decides the whole; and the looks at those are still to come
abbrev pub invariant-loop-place : goal.invariant-loop-place
invariant-loop-place g l =
    (keys_of l.made ++ keys_of l.place-iterator ≡ keys_of l.uses)
    × ((definitions : Definitions) → IsFull (meanings_of definitions l.extensions) (tabled l.table)
    → Gathering {E = Refusal} (GivesUse (meanings_of definitions l.extensions)) (UsePasses (meanings_of definitions l.extensions)) (UseRefuses (meanings_of definitions l.extensions))
    (by_place g.T.TypeNode.written l.uses) (by_place g.T.TypeNode.written l.place-iterator) (by_place resolved l.made))
    × (l.steps + all_nodes (by_place g.T.TypeNode.written l.place-iterator) ≤ l.fn.steps + all_nodes (by_place g.T.TypeNode.written l.uses))
