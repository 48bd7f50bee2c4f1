-- SPDX-License-Identifier: Apache-2.0
use Rattle.std.proofs.Common.{[]}
use Rattle.std.specs.Vec.Iter.{into_iter_items}
use Rattle.cedar_tables.specs.Declarations.{placed_types}
use Rattle.cedar_outlines.proofs.Appended.{Appends}
use Rattle.cedar_tables.proofs.declarations.Declarations.gather.Given as goal

-- what is declared so far, with what is declared by those that are left, is all
abbrev pub invariant-loop-definition : goal.invariant-loop-definition
invariant-loop-definition l =
    Appends (λ d. d.common_types.defs) [] l.fn.definitions.items (into_iter_items l.definition-iterator) l.all.common_types.items
    × Appends (λ d. placed_types d.entity_types) [] l.fn.definitions.items (into_iter_items l.definition-iterator) l.all.entity_types.items
    × Appends (λ d. d.actions.actions) [] l.fn.definitions.items (into_iter_items l.definition-iterator) l.all.actions.items
