-- SPDX-License-Identifier: Apache-2.0
use Rattle.std.proofs.Common.{◌≡◌, ◌||◌}
use Rattle.std.specs.List.{list_any}
use Rattle.std.specs.List.Sorted.{IsStrictlySortedBy}
use Rattle.cedar_data.specs.Sets.{contains}
use Rattle.cedar_outlines.specs.of_declared.Held.{names_of}
use Rattle.cedar_hierarchy.proofs.targets.all_meant.Given as goal

-- what the first mean is kept, and with what those that are left mean it is all
abbrev pub invariant-loop-reference : goal.invariant-loop-reference
invariant-loop-reference g l =
    ((key : g.row.K.Denot) → (list_any (λ r. g.R.IsReference.is_meant (names_of l.all_defs) r key) l.reference-iterator || contains g.K.Ord.cmp l.keys key)
    ≡ list_any (λ r. g.R.IsReference.is_meant (names_of l.all_defs) r key) l.references)
    × IsStrictlySortedBy g.K.Ord.cmp l.keys
