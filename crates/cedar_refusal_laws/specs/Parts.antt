-- SPDX-License-Identifier: Apache-2.0
-- What is asked of each part of a written type.
use Rattle.std.specs.Prelude.{ℕ, Bool, List}
use Rattle.cedar_written.specs.declared.reference_type.ReferenceType.{ReferenceType}
use Rattle.cedar_written.specs.declared.reference_type.ReferenceType.TheVariants as kind
use Rattle.cedar_world.specs.of_unfold.Written.{Written, WrittenAttributes, Boolean, Long, String, Extension, Set, Record, Entity, EntityOrCommon, CommonTypeRef, no_attributes, attribute}

-- nothing is asked
abbrev pub Any : {A : Type 0} → A → Type 0
Any x = Unit {0}

module _ {N : Type 0} (OfRecord : Bool → Type 0) (OfExtension : List ℕ → Type 0) (OfName : ReferenceType → N → Type 0) where
  -- in a type, however deep: of each record, whether it is open; of each extension type its word; of each reference, at a place that gives it a kind
  abbrev mutual
    pub EachPart : Written N → Type 0
    EachPart Boolean = Unit {0}
    EachPart Long = Unit {0}
    EachPart String = Unit {0}
    EachPart (Extension e) = OfExtension e
    EachPart (Set element) = EachPart element
    EachPart (Record parts is_open) = OfRecord is_open × EachPartOf parts
    EachPart (Entity r) = OfName kind.Entity r
    EachPart (EntityOrCommon r) = OfName kind.CommonOrEntity r
    EachPart (CommonTypeRef r) = OfName kind.Common r

    -- so in the types of attributes
    pub EachPartOf : WrittenAttributes N → Type 0
    EachPartOf no_attributes = Unit {0}
    EachPartOf (attribute name required ty others) = EachPart ty × EachPartOf others
