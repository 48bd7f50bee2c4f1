-- SPDX-License-Identifier: Apache-2.0
use Rattle.std.proofs.Common.{◌≡◌, drop}
use Rattle.cedar_names.specs.Names.{entity_words}
use Rattle.cedar_checks.specs.SchemaViews.{schema_in}
use Rattle.cedar_conform.specs.EntityChecks.{parent_check}
use Rattle.cedar_conform.proofs.Items.{PassesItems}
use Rattle.cedar_conform.proofs.data.check_each_parent.Given as goal

-- the items so far are parents
abbrev pub invariant-loop-item : goal.invariant-loop-item
invariant-loop-item l = PassesItems (parent_check (schema_in l.schema) (entity_words l.ty)) l.items.items (drop l.item-index l.item-items) l.place × (l.place ≡ l.item-index)
