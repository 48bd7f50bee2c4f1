-- SPDX-License-Identifier: Apache-2.0
use Rattle.std.proofs.Common.{◌≡◌, map, fold}
use Rattle.std.specs.BTreeSet.{insert_key}
use Rattle.std.specs.Option.{option_copied}
use Rattle.std.specs.Vec.Iter.{into_iter_items}
use Rattle.cedar_data.specs.Sets.{set_of}
use Rattle.cedar_namespace_definitions.specs.Definitions.{parent_in}
use Rattle.cedar_namespace_definitions.specs.Orders.{conditional_cmp, parent_cmp}
use Rattle.cedar_namespace_definitions.proofs.actions.parent_set.Given as goal

-- the set so far, with the parents that are left, is that of all
abbrev pub invariant-loop-parent : goal.invariant-loop-parent
invariant-loop-parent l =
    fold (insert_key (parent_cmp conditional_cmp)) l.set (map (parent_in (option_copied l.fn.step.namespace)) (into_iter_items l.parent-iterator))
    ≡ set_of (parent_cmp conditional_cmp) (map (parent_in (option_copied l.fn.step.namespace)) l.fn.parents)
