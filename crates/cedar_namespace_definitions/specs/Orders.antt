-- SPDX-License-Identifier: Apache-2.0
-- The orders of references, in which a set has them.
use Rattle.std.specs.Option.{option_cmp}
use Rattle.std.specs.Ordering.{ordering_then}
use Rattle.std.specs.declared.cmp.Ordering.{Ordering}
use Rattle.cedar_names.specs.Order.{word_cmp}
use Rattle.cedar_written.specs.contracts.conditional_name.ConditionalNameOrd.TheImpl as conditional_order
use Rattle.cedar_written.specs.declared.conditional_name.ConditionalName.{ConditionalName}
use Rattle.cedar_written.specs.declared.ref_name.RefName as ref_name
use Rattle.cedar_fragment.specs.ActionUids.{type_in}
use Rattle.cedar_fragment.specs.declared.action_uid.ActionEntityUID.{ActionEntityUID}

-- the order of references: by the name as it is written, then by kind, then by the names that they may stand for
abbrev pub conditional_cmp : ConditionalName → ConditionalName → Ordering
conditional_cmp = conditional_order.ghosts.cmp

-- references to actions are ordered by the type, then by the text
abbrev pub parent_cmp : {N : Type 0} {R : ref_name.Ghosts N} → (N → N → Ordering) → ActionEntityUID N R → ActionEntityUID N R → Ordering
parent_cmp cmp a b = ordering_then (option_cmp cmp (type_in a) (type_in b)) (word_cmp a.id b.id)
