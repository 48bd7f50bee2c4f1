-- SPDX-License-Identifier: Apache-2.0
use Rattle.std.proofs.Common.{◌≡◌, ◌++◌, map}
use Rattle.std.specs.Vec.Iter.{into_iter_items}
use Rattle.cedar_convert_warnings.proofs.shadowing.places_of.Given as goal

-- the pairs so far, with those of the rest, are all
abbrev pub invariant-loop-name : goal.invariant-loop-name
invariant-loop-name l =
    l.pairs.items ++ map (λ n. (n.node, n.loc)) (into_iter_items l.name-iterator) ≡ map (λ n. (n.node, n.loc)) (into_iter_items l.initial.name-iterator)
