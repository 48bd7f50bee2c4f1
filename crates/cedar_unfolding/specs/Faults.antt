-- SPDX-License-Identifier: Apache-2.0
-- The faults that stand in a written type itself.
use Rattle.std.specs.Prelude.{ℕ, Bool, true, false, List, [], ◌∷◌, ◌++◌, Option, Some, None}
use Rattle.cedar_names.specs.Components.{has_cedar}
use Rattle.cedar_schema_error.specs.FullNames.{FullName}
use Rattle.cedar_schema_error.specs.Refusals.{Refusal, ReservedName, OpenRecord, UnknownExtensionType, CommonTypeInvariantViolation}
use Rattle.cedar_unfolding.specs.Meanings.{Meanings, is_common}
use Rattle.cedar_unfolding.specs.Written.{Written, WrittenAttributes, Boolean, Long, String, Extension, Set, Record, Entity, EntityOrCommon, CommonTypeRef, no_attributes, attribute}

-- a record that is open
abbrev pub open_fault : Bool → List Refusal
open_fault true = OpenRecord ∷ []
open_fault false = []

-- an extension type, where it isn't known
abbrev pub extension_fault : Bool → List ℕ → List Refusal
extension_fault true e = []
extension_fault false e = UnknownExtensionType (e ∷ []) ∷ []

-- a name, where it has `__cedar`
abbrev pub reserved_fault : Bool → FullName → List Refusal
reserved_fault true name = ReservedName name ∷ []
reserved_fault false name = []

-- an entity type with `__cedar`
abbrev pub entity_fault : FullName → List Refusal
entity_fault name = reserved_fault (has_cedar name) name

-- a name with `__cedar`, unless it is that of a common type
abbrev pub either_fault : Bool → FullName → List Refusal
either_fault true name = []
either_fault false name = entity_fault name

-- a name, unless it is that of a common type
abbrev pub common_fault : Bool → FullName → List Refusal
common_fault true name = []
common_fault false name = CommonTypeInvariantViolation name ∷ []

-- what f gives of the name, if there is one
abbrev pub of_target : (FullName → List Refusal) → Option FullName → List Refusal
of_target f None = []
of_target f (Some name) = f name

module _ {N : Type 0} (target : N → Option FullName) (is_common : FullName → Bool) (is_extension : List ℕ → Bool) where
  -- the faults of a type in walk order, a type before its parts, by what its names mean
  abbrev mutual
    pub faults_by : Written N → List Refusal
    faults_by Boolean = []
    faults_by Long = []
    faults_by String = []
    faults_by (Extension e) = extension_fault (is_extension e) e
    faults_by (Set element) = faults_by element
    faults_by (Record parts is_open) = open_fault is_open ++ attribute_faults_by parts
    faults_by (Entity r) = of_target entity_fault (target r)
    faults_by (EntityOrCommon r) = of_target (λ name. either_fault (is_common name) name) (target r)
    faults_by (CommonTypeRef r) = of_target (λ name. common_fault (is_common name) name) (target r)

    pub attribute_faults_by : WrittenAttributes N → List Refusal
    attribute_faults_by no_attributes = []
    attribute_faults_by (attribute name required ty others) = faults_by ty ++ attribute_faults_by others

-- the faults of a type in walk order
abbrev pub faults : {N : Type 0} → Meanings N → Written N → List Refusal
faults m t = faults_by m.target (is_common m) m.is_extension t

-- those of some attributes
abbrev pub attribute_faults : {N : Type 0} → Meanings N → WrittenAttributes N → List Refusal
attribute_faults m ws = attribute_faults_by m.target (is_common m) m.is_extension ws
