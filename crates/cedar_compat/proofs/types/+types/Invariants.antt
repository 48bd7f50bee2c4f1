-- SPDX-License-Identifier: Apache-2.0
use Rattle.std.proofs.Common.{◌+◌, ◌*◌}
use Rattle.cedar_types.specs.Types.{entries}
use Rattle.cedar_types.specs.declared.ty.AttributeType.{size-AttributeType}
use Rattle.cedar_types.specs.declared.ty.Attributes.{size-Attributes}
use Rattle.cedar_types.specs.declared.ty.ResolvedType.{size-ResolvedType}
use Rattle.cedar_unfold.specs.ResolvedViews.{resolved_map}
use Rattle.cedar_unfold.proofs.Depths.{IsDeeper}
use Rattle.cedar_compat.proofs.Rows.{PassesRows}
use Rattle.cedar_compat.proofs.types.+types.Given as goal

-- the old attributes so far pass
abbrev pub invariant-check_attributes-loop-name : goal.invariant-check_attributes-loop-name
invariant-check_attributes-loop-name l = record {
  passed : PassesRows (resolved_map (entries l.new)) (entries l.old) l.name-iterator;
  deeper : IsDeeper l.old l.name-iterator;
}

-- each part of a type costs one of its layers
abbrev pub decreases-check_type : goal.decreases-check_type
decreases-check_type l = 4 * size-ResolvedType l.old.now

abbrev pub decreases-check_set : goal.decreases-check_set
decreases-check_set l = 4 * size-ResolvedType l.element.now + 1

abbrev pub decreases-check_record_type : goal.decreases-check_record_type
decreases-check_record_type l = 4 * size-Attributes l.old.now + 3

abbrev pub decreases-check_record : goal.decreases-check_record
decreases-check_record l = 4 * size-Attributes l.old.now + 2

abbrev pub decreases-check_attributes : goal.decreases-check_attributes
decreases-check_attributes l = 4 * size-Attributes l.old.now + 1

abbrev pub decreases-check_attribute : goal.decreases-check_attribute
decreases-check_attribute l = 4 * size-AttributeType l.attribute.now
