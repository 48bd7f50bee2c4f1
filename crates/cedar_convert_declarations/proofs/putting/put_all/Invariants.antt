-- SPDX-License-Identifier: Apache-2.0
use Rattle.std.proofs.Common.{◌≡◌, ◌++◌, map}
use Rattle.std.specs.Vec.Iter.{into_iter_items}
use Rattle.cedar_convert_declarations.proofs.putting.put_all.Given as goal

-- the pairs so far, with those of the keys that are left
abbrev pub invariant-loop-key : goal.invariant-loop-key
invariant-loop-key g l =
    l.made.items ++ map (λ key. (key, l.value)) (into_iter_items l.key-iterator) ≡ l.initial.made.items ++ map (λ key. (key, l.value)) (into_iter_items l.initial.key-iterator)
