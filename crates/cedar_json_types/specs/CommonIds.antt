-- SPDX-License-Identifier: Apache-2.0
-- The identifiers of common types, of which eight are reserved.
use Rattle.std.specs.Prelude.{◌≡◌, ℕ, true, false, not, IsTrue, refl, bytes_eq, if◌then◌else◌, List, [], ◌∷◌, codes, Some, None}
use Rattle.cedar_text.specs.Words.{is_id, is_cedar}
use Rattle.cedar_names.specs.Identifiers.{unreserved_word}
use Rattle.cedar_names.specs.declared.id.UnreservedId.{UnreservedId}
use Rattle.cedar_written.specs.CommonTypeIds.{common_id, unreserved_of, is_reserved_basename}
use Rattle.cedar_written.specs.declared.common_type_id.CommonTypeId.{CommonTypeId}
use Rattle.cedar_json_fault.specs.declared.json_fault.JsonFault.TheVariants as fault
use Rattle.cedar_json_fault.specs.declared.json_fault.NameKind.TheVariants as what
use Rattle.cedar_json_types.specs.Faults.{Fault, first, here}
use Rattle.cedar_json_types.specs.Parts.{id_fault, Identifies}

-- the identifier of this word
abbrev pub word_id : (w : List ℕ) → IsTrue (is_id w) → IsTrue (not (is_cedar w)) → UnreservedId
word_id w form unreserved = record { id = record { word = w; form = form }; unreserved = unreserved }

-- those that JSON takes for kinds of types
abbrev pub reserved_ids : List UnreservedId
reserved_ids =
    word_id (codes "Bool") refl refl ∷ word_id (codes "Boolean") refl refl ∷ word_id (codes "Entity") refl refl ∷ word_id (codes "Extension") refl refl
    ∷ word_id (codes "Long") refl refl ∷ word_id (codes "Record") refl refl ∷ word_id (codes "Set") refl refl ∷ word_id (codes "String") refl refl ∷ []

-- the word is that of one of these
abbrev pub is_one_of : List UnreservedId → List ℕ → Fault
is_one_of [] s = None
is_one_of (id ∷ ids) s = if bytes_eq s (unreserved_word id) then Some (here (fault.ReservedId id)) else is_one_of ids s

unfoldable pub reserved_fault : List ℕ → Fault
reserved_fault s = is_one_of reserved_ids s

-- what is wrong with a text as the identifier of a common type
abbrev pub common_id_fault : List ℕ → Fault
common_id_fault s = first (id_fault what.Id s) (reserved_fault s)

-- the identifier is not reserved, and this is it as one of a common type
abbrev pub IsCommon : UnreservedId → CommonTypeId → Type 0
IsCommon id c = (c ≡ common_id id) × (is_reserved_basename (unreserved_word id) ≡ false)

-- the text is the identifier of the common type
abbrev pub IdentifiesCommon : List ℕ → CommonTypeId → Type 0
IdentifiesCommon s c = Identifies s (unreserved_of c) × (is_reserved_basename s ≡ false)
