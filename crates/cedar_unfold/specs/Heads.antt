-- SPDX-License-Identifier: Apache-2.0
-- What a look at a written type tells.
use Rattle.std.specs.Prelude.{◌≡◌, Bool, false}
use Rattle.cedar_names.specs.Components.{components}
use Rattle.cedar_names.specs.Identifiers.{unreserved_word}
use Rattle.cedar_schema_error.specs.FullNames.{FullName}
use Rattle.cedar_unfold.specs.declared.node.Looked.{Looked}
use Rattle.cedar_unfold.specs.declared.node.Looked.TheVariants as seen
use Rattle.cedar_unfolding.specs.Written.{Written, WrittenAttributes, no_attributes}
use Rattle.cedar_unfolding.specs.Written as written

-- the attributes of a record, none for another type
abbrev pub attributes_of : {N : Type 0} → Written N → WrittenAttributes N
attributes_of (written.Record parts is_open) = parts
attributes_of other = no_attributes

-- whether it is an open record
abbrev pub is_open_record : {N : Type 0} → Written N → Bool
is_open_record (written.Record parts is_open) = is_open
is_open_record other = false

-- it is a record
abbrev pub IsRecord : {N : Type 0} → Written N → Type 0
IsRecord t = t ≡ written.Record (attributes_of t) (is_open_record t)

module _ {T : Type 0} (meaning : T → Written FullName) where
  -- the head of the type, with its parts lent
  abbrev pub Tells : Looked T → Written FullName → Type 0
  Tells seen.Bool t = t ≡ written.Boolean
  Tells seen.Long t = t ≡ written.Long
  Tells seen.String t = t ≡ written.String
  Tells (seen.Set element) t = t ≡ written.Set (meaning element.now)
  Tells (seen.Record is_open) t = t ≡ written.Record (attributes_of t) is_open
  Tells (seen.Entity name) t = t ≡ written.Entity (components name.now)
  Tells (seen.EntityOrCommon name) t = t ≡ written.EntityOrCommon (components name.now)
  Tells (seen.Common name) t = t ≡ written.CommonTypeRef (components name.now)
  Tells (seen.Extension id) t = t ≡ written.Extension (unreserved_word id.now)
