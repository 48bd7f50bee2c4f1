-- SPDX-License-Identifier: Apache-2.0
use Rattle.std.proofs.Common.{◌+◌, ◌*◌}
use Rattle.cedar_types.specs.Types.{entries}
use Rattle.cedar_types.specs.declared.ty.Attributes.{size-Attributes}
use Rattle.cedar_types.specs.declared.ty.ResolvedType.{size-ResolvedType}
use Rattle.cedar_unfold.proofs.Depths.{IsDeeper}
use Rattle.cedar_compat_laws.proofs.NameLoops.{DifferSoFar}
use Rattle.cedar_compat_laws.proofs.differing.+types.Given as goal

-- the attributes so far differ
abbrev pub invariant-attribute_names_differ-loop-attribute : goal.invariant-attribute_names_differ-loop-attribute
invariant-attribute_names_differ-loop-attribute l = record {
  differ : DifferSoFar (entries l.attributes) l.attribute-iterator;
  deeper : IsDeeper l.attributes l.attribute-iterator;
}

-- each part of a type costs one of its layers
abbrev pub decreases-type_names_differ : goal.decreases-type_names_differ
decreases-type_names_differ l = 2 * size-ResolvedType l.ty.now

abbrev pub decreases-attribute_names_differ : goal.decreases-attribute_names_differ
decreases-attribute_names_differ l = 2 * size-Attributes l.attributes.now + 1
