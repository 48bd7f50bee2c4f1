-- SPDX-License-Identifier: Apache-2.0
use Rattle.cedar_written.specs.declared.ty.SchemaType.{SchemaType}
use Rattle.cedar_fragment.specs.declared.attributes_or_context.AttributesOrContext.{AttributesOrContext}

-- the type of a shape or context
abbrev pub type_of_shape : {N : Type 0} → AttributesOrContext N → SchemaType N
type_of_shape s = s.0

-- the shape or context of a type
abbrev pub shape_of : {N : Type 0} → SchemaType N → AttributesOrContext N
shape_of ty = record { 0 = ty }
