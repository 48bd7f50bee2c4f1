-- SPDX-License-Identifier: Apache-2.0
-- What the names in written types mean.
use Rattle.std.specs.Prelude.{◌≡◌, ℕ, Bool, false, List, Option, Some, None}
use Rattle.std.specs.Option.{is_some}
use Rattle.cedar_data.specs.Maps.{get}
use Rattle.cedar_names.specs.Components.{has_cedar}
use Rattle.cedar_names.specs.Order.{words_cmp}
use Rattle.cedar_schema_error.specs.FullNames.{FullName}
use Rattle.cedar_unfolding.specs.Written.{Written}

-- the target of each reference, the definitions of the common types in the order of their names, and which words name extension types
pub record Meanings (N : Type 0) : Type 0 where
  pub target : N → Option FullName
  pub common_types : List (FullName × Written N)
  pub is_extension : List ℕ → Bool

-- what full names mean: themselves
abbrev pub full_meanings : List (FullName × Written FullName) → (List ℕ → Bool) → Meanings FullName
full_meanings common_types is_extension = record { target = Some; common_types = common_types; is_extension = is_extension }

-- the definition of the common type of this name
abbrev pub definition_of : {N : Type 0} → Meanings N → FullName → Option (Written N)
definition_of m name = get words_cmp m.common_types name

-- whether the name is that of a common type
abbrev pub is_common : {N : Type 0} → Meanings N → FullName → Bool
is_common m name = is_some (definition_of m name)

module _ {N : Type 0} (m : Meanings N) where
  -- the name is the target of the reference and no common type, and has no component `__cedar`
  pub record MeansEntity (r : N) (name : FullName) : Type 0 where
    pub targeted : m.target r ≡ Some name
    pub no_common : definition_of m name ≡ None
    pub free : has_cedar name ≡ false

  -- the target of the reference is a common type, which is defined so
  pub record MeansCommon (r : N) (definition : Written N) : Type 0 where
    pub name : FullName
    pub targeted : m.target r ≡ Some name
    pub defined : definition_of m name ≡ Some definition
