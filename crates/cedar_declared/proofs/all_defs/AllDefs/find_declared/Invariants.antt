-- SPDX-License-Identifier: Apache-2.0
use Rattle.std.proofs.Common.{◌≡◌}
use Rattle.std.specs.List.{find}
use Rattle.cedar_names.specs.Components.{components}
use Rattle.cedar_names.specs.of_text.Lists.{elements_left}
use Rattle.cedar_declared.specs.Held.{names_of}
use Rattle.cedar_declared.specs.Names.{is_declared}
use Rattle.cedar_declared.proofs.all_defs.AllDefs.find_declared.Given as goal

-- the first of those that are left is the first of all
abbrev pub invariant-loop-name : goal.invariant-loop-name
invariant-loop-name l =
    find (λ p. is_declared (names_of l.fn.self) l.fn.kind (components p)) (elements_left l.name-iterator)
    ≡ find (λ p. is_declared (names_of l.fn.self) l.fn.kind (components p)) (elements_left l.fn.names)
