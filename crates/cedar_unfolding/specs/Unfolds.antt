-- SPDX-License-Identifier: Apache-2.0
-- What a written type unfolds to: the same type with each common type written out, so that it names entity types alone.
use Rattle.std.specs.Prelude.{◌≡◌, ℕ, Bool, false, IsTrue, List, [], ◌∷◌, Some}
use Rattle.cedar_names.specs.Components.{has_cedar}
use Rattle.cedar_schema_error.specs.FullNames.{FullName}
use Rattle.cedar_unfolding.specs.Meanings.{Meanings, MeansEntity, MeansCommon}
use Rattle.cedar_unfolding.specs.Resolved.{Resolved, ResolvedAttributes}
use Rattle.cedar_unfolding.specs.Resolved as resolved
use Rattle.cedar_unfolding.specs.Written.{Written, WrittenAttributes, Boolean, Long, String, Extension, Set, Record, Entity, EntityOrCommon, CommonTypeRef, no_attributes, attribute}

module _ {N : Type 0} (m : Meanings N) where
  mutual
    -- a written type unfolds to a resolved one
    pub data Unfolds : Written N → Resolved → Type 0 where
      boolean : Unfolds Boolean resolved.Boolean
      long : Unfolds Long resolved.Long
      string : Unfolds String resolved.String
      extension : {e : List ℕ} → IsTrue (m.is_extension e) → Unfolds (Extension e) (resolved.Extension (e ∷ []))
      set : {t : Written N} {T : Resolved} → Unfolds t T → Unfolds (Set t) (resolved.Set T)
      closed : {ws : WrittenAttributes N} {rs : ResolvedAttributes} → UnfoldsEach ws rs → Unfolds (Record ws false) (resolved.Record rs false)
      entity : {r : N} {name : FullName} → m.target r ≡ Some name → has_cedar name ≡ false → Unfolds (Entity r) (resolved.Entity name)
      common : {r : N} {t : Written N} {T : Resolved} → MeansCommon m r t → Unfolds t T → Unfolds (CommonTypeRef r) T
      either_common : {r : N} {t : Written N} {T : Resolved} → MeansCommon m r t → Unfolds t T → Unfolds (EntityOrCommon r) T
      either_entity : {r : N} {name : FullName} → MeansEntity m r name → Unfolds (EntityOrCommon r) (resolved.Entity name)

    -- attributes unfold to attributes of the same names and marks
    pub data UnfoldsEach : WrittenAttributes N → ResolvedAttributes → Type 0 where
      none : UnfoldsEach no_attributes resolved.no_attributes
      each : {name : List ℕ} {required : Bool} {t : Written N} {T : Resolved} {ws : WrittenAttributes N} {rs : ResolvedAttributes} →
          Unfolds t T → UnfoldsEach ws rs → UnfoldsEach (attribute name required t ws) (resolved.attribute name required T rs)
