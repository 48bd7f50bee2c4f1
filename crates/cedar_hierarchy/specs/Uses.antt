-- SPDX-License-Identifier: Apache-2.0
-- What stands where types are used.
use Rattle.std.specs.Prelude.{List, [], Option, Some, None}
use Rattle.std.specs.declared.cmp.Ordering.{Ordering}
use Rattle.std.specs.declared.cmp.Ordering.TheVariants.{Less, Greater}
use Rattle.cedar_data.specs.Maps.{get}
use Rattle.cedar_names.specs.Names.{entity_cmp}
use Rattle.cedar_schema_error.specs.FullNames.{uid_cmp, uid_in}
use Rattle.cedar_schema_error.specs.declared.use_place.UsePlace.{UsePlace}
use Rattle.cedar_schema_error.specs.declared.use_place.UsePlace.TheVariants.{Shape, Tags, Context}
use Rattle.cedar_types.specs.Types.{Layer, attributes_of, layer}
use Rattle.cedar_types.specs.declared.ty.Attributes.{Attributes}
use Rattle.cedar_types.specs.declared.ty.OpenTag.{OpenTag}
use Rattle.cedar_types.specs.declared.ty.OpenTag.TheVariants.{ClosedAttributes}
use Rattle.cedar_types.specs.declared.ty.ResolvedType.{ResolvedType}
use Rattle.cedar_types.specs.declared.ty.TypeNode.TheOpen as layers

-- the order of uses: shapes, then tags, then contexts, each in the order of their names
abbrev pub use_cmp : UsePlace → UsePlace → Ordering
use_cmp (Shape a) (Shape b) = entity_cmp a b
use_cmp (Shape a) (Tags b) = Less
use_cmp (Shape a) (Context b) = Less
use_cmp (Tags a) (Shape b) = Greater
use_cmp (Tags a) (Tags b) = entity_cmp a b
use_cmp (Tags a) (Context b) = Less
use_cmp (Context a) (Shape b) = Greater
use_cmp (Context a) (Tags b) = Greater
use_cmp (Context a) (Context b) = uid_cmp (uid_in a) (uid_in b)

-- the types that uses have
abbrev pub Uses : Type 0
Uses = List (UsePlace × ResolvedType)

-- the type of a use
abbrev pub type_at_use : Uses → UsePlace → Option ResolvedType
type_at_use uses place = get use_cmp uses place

-- no attributes, and no others
abbrev pub no_record : Attributes × OpenTag
no_record = (attributes_of [], ClosedAttributes)

-- the attributes of a record and whether it may have others; of what is no record, none
abbrev pub record_of : Layer → Attributes × OpenTag
record_of (layers.Record attributes tag) = (attributes, tag)
record_of layers.Bool = no_record
record_of layers.Long = no_record
record_of layers.String = no_record
record_of (layers.Set element) = no_record
record_of (layers.Entity entity) = no_record
record_of (layers.Extension name) = no_record

-- those of the record that stands at a use, none where no record stands
abbrev pub record_at_use : Option ResolvedType → Attributes × OpenTag
record_at_use None = no_record
record_at_use (Some t) = record_of (layer t)
