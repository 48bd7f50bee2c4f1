-- SPDX-License-Identifier: Apache-2.0
use Rattle.std.proofs.Common.{◌≡◌, ◌++◌, [], ◌∷◌}
use Rattle.std.specs.List.{find}
use Rattle.std.specs.Vec.Iter.{into_iter_items}
use Rattle.cedar_names.specs.Components.{components}
use Rattle.cedar_declared.specs.Held.{names_of}
use Rattle.cedar_declared.specs.Names.{is_declared}
use Rattle.cedar_declared.proofs.resolve.first_declared.Given as goal

-- the first of those that are left, the last behind them, is the first of all
abbrev pub invariant-loop-name : goal.invariant-loop-name
invariant-loop-name l =
    find (λ p. is_declared (names_of l.fn.all_defs) l.fn.kind (components p)) (into_iter_items l.name-iterator ++ l.last ∷ [])
    ≡ find (λ p. is_declared (names_of l.fn.all_defs) l.fn.kind (components p)) l.fn.names
