-- SPDX-License-Identifier: Apache-2.0
-- Types with its target in place of each reference.
use Rattle.std.specs.Prelude.{◌≡◌, ℕ, Bool, List, Option, Some}
use Rattle.std.specs.List.{AllZip}
use Rattle.cedar_unfolding.specs.of_schema_error.FullNames.{FullName}
use Rattle.cedar_unfolding.specs.of_schema_error.Refusals.{UsePlace}
use Rattle.cedar_unfolding.specs.UnfoldPhases.{Job}
use Rattle.cedar_unfolding.specs.Written.{Written, WrittenAttributes, Boolean, Long, String, Extension, Set, Record, Entity, EntityOrCommon, CommonTypeRef, no_attributes, attribute}

module _ {N : Type 0} (target : N → Option FullName) where
  mutual
    -- the second type is the first, with its target in place of each reference
    pub data Qualifies : Written N → Written FullName → Type 0 where
      boolean : Qualifies Boolean Boolean
      long : Qualifies Long Long
      string : Qualifies String String
      extension : {e : List ℕ} → Qualifies (Extension e) (Extension e)
      set : {t : Written N} {u : Written FullName} → Qualifies t u → Qualifies (Set t) (Set u)
      record_of : {ts : WrittenAttributes N} {us : WrittenAttributes FullName} {is_open : Bool} → QualifiesEach ts us → Qualifies (Record ts is_open) (Record us is_open)
      entity : {r : N} {name : FullName} → target r ≡ Some name → Qualifies (Entity r) (Entity name)
      either : {r : N} {name : FullName} → target r ≡ Some name → Qualifies (EntityOrCommon r) (EntityOrCommon name)
      common : {r : N} {name : FullName} → target r ≡ Some name → Qualifies (CommonTypeRef r) (CommonTypeRef name)

    -- so do the types of attributes, under the same names
    pub data QualifiesEach : WrittenAttributes N → WrittenAttributes FullName → Type 0 where
      none : QualifiesEach no_attributes no_attributes
      each : {name : List ℕ} {required : Bool} {t : Written N} {u : Written FullName} {ts : WrittenAttributes N} {us : WrittenAttributes FullName} →
          Qualifies t u → QualifiesEach ts us → QualifiesEach (attribute name required t ts) (attribute name required u us)

  -- so it is under the same key
  abbrev pub QualifiesAt : {K : Type 0} → K × Written N → K × Written FullName → Type 0
  QualifiesAt written full = (full.0 ≡ written.0) × Qualifies written.1 full.1

-- the common types and the uses of a job, so
pub record QualifiesJob {N : Type 0} (job : Job N) (common_types : List (FullName × Written FullName)) (uses : List (UsePlace × Written FullName)) : Type 0 where
  pub commons_are : AllZip (QualifiesAt job.meanings.target) job.meanings.common_types common_types
  pub uses_are : AllZip (QualifiesAt job.meanings.target) job.uses uses
