-- SPDX-License-Identifier: Apache-2.0
-- What holds of the faults of each part of a type holds of the faults of the type.
use Rattle.std.proofs.Common.{ℕ, Bool, List}
use Rattle.cedar_data.specs.Firsts.{AllPass}
use Rattle.cedar_written.specs.declared.reference_type.ReferenceType.{ReferenceType}
use Rattle.cedar_written.specs.declared.reference_type.ReferenceType.TheVariants as kind
use Rattle.cedar_sound.proofs.NothingMissed.{pass_append}
use Rattle.cedar_schema_error.specs.Refusals.{Refusal}
use Rattle.cedar_world.specs.of_unfold.Faults.{attribute_faults, common_fault, either_fault, entity_fault, extension_fault, faults, of_target, open_fault}
use Rattle.cedar_world.specs.of_unfold.Meanings.{Meanings, is_common}
use Rattle.cedar_world.specs.of_unfold.Written.{Written, WrittenAttributes, Boolean, Long, String, Extension, Set, Record, Entity, EntityOrCommon, CommonTypeRef, no_attributes, attribute}
use Rattle.cedar_refusal_laws.specs.Parts.{EachPart, EachPartOf}

module _ {N : Type 0} (OfRecord : Bool → Type 0) (OfExtension : List ℕ → Type 0) (OfName : ReferenceType → N → Type 0) where
  -- of the faults of the parts of a type, by what its names mean
  pub record OfParts (m : Meanings N) (P : Refusal → Type 0) : Type 0 where
    pub of_record : (is_open : Bool) → OfRecord is_open → AllPass P (open_fault is_open)
    pub of_extension : (e : List ℕ) → OfExtension e → AllPass P (extension_fault (m.is_extension e) e)
    pub of_entity : (r : N) → OfName kind.Entity r → AllPass P (of_target entity_fault (m.target r))
    pub of_either : (r : N) → OfName kind.CommonOrEntity r → AllPass P (of_target (λ name. either_fault (is_common m name) name) (m.target r))
    pub of_common : (r : N) → OfName kind.Common r → AllPass P (of_target (λ name. common_fault (is_common m name) name) (m.target r))

  module _ (m : Meanings N) (P : Refusal → Type 0) (of : OfParts m P) where
    mutual
      pub each_fault : (t : Written N) → EachPart OfRecord OfExtension OfName t → AllPass P (faults m t)
      each_fault Boolean h = tt
      each_fault Long h = tt
      each_fault String h = tt
      each_fault (Extension e) h = of.of_extension e h
      each_fault (Set t) h = each_fault t h
      each_fault (Record ts is_open) h = pass_append P (open_fault is_open) (attribute_faults m ts) (of.of_record is_open h.0) (attributes_fault ts h.1)
      each_fault (Entity r) h = of.of_entity r h
      each_fault (EntityOrCommon r) h = of.of_either r h
      each_fault (CommonTypeRef r) h = of.of_common r h

      attributes_fault : (ts : WrittenAttributes N) → EachPartOf OfRecord OfExtension OfName ts → AllPass P (attribute_faults m ts)
      attributes_fault no_attributes h = tt
      attributes_fault (attribute name required t ts) h = pass_append P (faults m t) (attribute_faults m ts) (each_fault t h.0) (attributes_fault ts h.1)

  -- what holds of whatever stands in a type holds of each of its parts
  module _ (records : (is_open : Bool) → OfRecord is_open) (extensions : (e : List ℕ) → OfExtension e) (names : (k : ReferenceType) (r : N) → OfName k r) where
    mutual
      pub each_part : (t : Written N) → EachPart OfRecord OfExtension OfName t
      each_part Boolean = tt
      each_part Long = tt
      each_part String = tt
      each_part (Extension e) = extensions e
      each_part (Set t) = each_part t
      each_part (Record ts is_open) = (records is_open, each_part_of ts)
      each_part (Entity r) = names kind.Entity r
      each_part (EntityOrCommon r) = names kind.CommonOrEntity r
      each_part (CommonTypeRef r) = names kind.Common r

      each_part_of : (ts : WrittenAttributes N) → EachPartOf OfRecord OfExtension OfName ts
      each_part_of no_attributes = tt
      each_part_of (attribute name required t ts) = (each_part t, each_part_of ts)
