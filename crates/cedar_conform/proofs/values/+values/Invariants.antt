-- SPDX-License-Identifier: Apache-2.0
use Rattle.std.proofs.Common.{◌≡◌, ◌+◌, ◌*◌, drop}
use Rattle.serde_json.specs.View.{view}
use Rattle.cedar_types.specs.Types.{entries}
use Rattle.cedar_types.specs.declared.ty.AttributeType.{size-AttributeType}
use Rattle.cedar_types.specs.declared.ty.Attributes.{size-Attributes}
use Rattle.cedar_types.specs.declared.ty.ResolvedType.{size-ResolvedType}
use Rattle.cedar_unfold.specs.ResolvedViews.{resolved}
use Rattle.cedar_checks.specs.SchemaViews.{schema_in}
use Rattle.cedar_conform.specs.ValueChecks.{value_check}
use Rattle.cedar_unfold.proofs.Depths.{IsDeeper}
use Rattle.cedar_conform.proofs.Items.{PassesItems}
use Rattle.cedar_conform.proofs.Rows.{PassesRows}
use Rattle.cedar_conform.proofs.values.+values.Given as goal

-- the items so far fit the type
abbrev pub invariant-check_items-loop-item : goal.invariant-check_items-loop-item
invariant-check_items-loop-item l = PassesItems (value_check (schema_in l.schema) (resolved l.element)) l.items.items (drop l.item-index l.item-items) l.place × (l.place ≡ l.item-index)

-- the attributes so far pass
abbrev pub invariant-check_attributes-loop-name : goal.invariant-check_attributes-loop-name
invariant-check_attributes-loop-name l = record {
  passed : PassesRows (schema_in l.schema) (view l.value) (entries l.attributes) l.name-iterator;
  deeper : IsDeeper l.attributes l.name-iterator;
}

-- each part of a type costs one of its layers
abbrev pub decreases-check_value : goal.decreases-check_value
decreases-check_value l = 4 * size-ResolvedType l.ty.now

abbrev pub decreases-check_list : goal.decreases-check_list
decreases-check_list l = 4 * size-ResolvedType l.element.now + 2

abbrev pub decreases-check_items : goal.decreases-check_items
decreases-check_items l = 4 * size-ResolvedType l.element.now + 1

abbrev pub decreases-check_record : goal.decreases-check_record
decreases-check_record l = 4 * size-Attributes l.attributes.now + 2

abbrev pub decreases-check_attributes : goal.decreases-check_attributes
decreases-check_attributes l = 4 * size-Attributes l.attributes.now + 1

abbrev pub decreases-check_attribute : goal.decreases-check_attribute
decreases-check_attribute l = 4 * size-AttributeType l.attribute.now
