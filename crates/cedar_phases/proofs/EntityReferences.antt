-- SPDX-License-Identifier: Apache-2.0
-- The targets of references that must mean entity types: they are the names in types over full names, and where types have no fault, none has `__cedar`.
use Rattle.std.proofs.Common.{◌≡◌, ◌++◌, ℕ, Bool, true, false, List, [], ◌∷◌, Option, Some, None, refl, sym, ap, ◌∙◌, subst}
use Rattle.std.proofs.lemmas.List.Elements.{filter_map-append}
use Rattle.std.specs.List.{AllZip, cons_option, filter_map}
use Rattle.cedar_data.specs.Firsts.{AllPass}
use Rattle.cedar_names.specs.Components.{has_cedar}
use Rattle.cedar_schema_error.specs.FullNames.{FullName}
use Rattle.cedar_sound.proofs.NothingMissed.{pass_append}
use Rattle.cedar_unfold.specs.Faults.{attribute_faults_by, entity_fault, faults_by, of_target, open_fault, reserved_fault}
use Rattle.cedar_unfold.specs.Written.{Written, WrittenAttributes, Boolean, Long, String, Extension, Set, Record, Entity, EntityOrCommon, CommonTypeRef, no_attributes, attribute}
use Rattle.cedar_qualified.specs.of_world.Qualified.{Qualifies, QualifiesAt, QualifiesEach}
use Rattle.cedar_qualified.specs.of_world.Qualified as q
use Rattle.cedar_qualified.specs.of_world.Undeclared.{all_entity_references, attribute_entity_references, entity_references}

module _ {N : Type 0} (target : N → Option FullName) where
  mutual
    -- the names that stand in full types are the targets of the references
    pub names_in_type : {t : Written N} {u : Written FullName} → Qualifies target t u → filter_map target (entity_references t) ≡ entity_references u
    names_in_type q.boolean = refl
    names_in_type q.long = refl
    names_in_type q.string = refl
    names_in_type q.extension = refl
    names_in_type (q.set e) = names_in_type e
    names_in_type (q.record_of es) = names_in_each es
    names_in_type (q.entity is) = ap (λ o. cons_option o []) is
    names_in_type (q.either is) = refl
    names_in_type (q.common is) = refl

    names_in_each : {ts : WrittenAttributes N} {us : WrittenAttributes FullName} → QualifiesEach target ts us → filter_map target (attribute_entity_references ts) ≡ attribute_entity_references us
    names_in_each q.none = refl
    names_in_each (q.each {t = t} {ts = ts} e es) =
        let first = names_in_type e in
        let others = names_in_each es in
        filter_map-append target (entity_references t) (attribute_entity_references ts) ∙ (λ i. first i ++ others i)

  -- so with types under keys
  pub names_in_all : {K : Type 0} (ts : List (K × Written N)) (us : List (K × Written FullName)) → AllZip (QualifiesAt target) ts us → filter_map target (all_entity_references ts) ≡ all_entity_references us
  names_in_all [] [] z = refl
  names_in_all [] (u ∷ us) z = absurd z
  names_in_all (t ∷ ts) [] z = absurd z
  names_in_all (t ∷ ts) (u ∷ us) z =
      let first = names_in_type z.0.1 in
      let others = names_in_all ts us z.1 in
      filter_map-append target (entity_references t.1) (all_entity_references ts) ∙ (λ i. first i ++ others i)

  module _ (is_common : FullName → Bool) (is_extension : List ℕ → Bool) where
    no_left : {A : Type 0} (xs ys : List A) → xs ++ ys ≡ [] → xs ≡ []
    no_left [] ys e = refl
    no_left (x ∷ xs) ys e = absurd (cc)

    no_right : {A : Type 0} (xs ys : List A) → xs ++ ys ≡ [] → ys ≡ []
    no_right [] ys e = e
    no_right (x ∷ xs) ys e = absurd (cc)

    free_by : (b : Bool) (n : FullName) → reserved_fault b n ≡ [] → b ≡ false
    free_by true n e = absurd (cc)
    free_by false n e = refl

    free_target : (o : Option FullName) → of_target entity_fault o ≡ [] → AllPass (λ n. has_cedar n ≡ false) (cons_option o [])
    free_target None e = tt
    free_target (Some n) e = (free_by (has_cedar n) n e, tt)

    free_append : (xs ys : List N) → AllPass (λ n. has_cedar n ≡ false) (filter_map target xs) → AllPass (λ n. has_cedar n ≡ false) (filter_map target ys) → AllPass (λ n. has_cedar n ≡ false) (filter_map target (xs ++ ys))
    free_append xs ys p r = subst (AllPass (λ n. has_cedar n ≡ false)) (sym (filter_map-append target xs ys)) (pass_append (λ n. has_cedar n ≡ false) (filter_map target xs) (filter_map target ys) p r)

    mutual
      -- where a type has no fault, no such target has `__cedar`
      pub type_free : (t : Written N) → faults_by target is_common is_extension t ≡ [] → AllPass (λ n. has_cedar n ≡ false) (filter_map target (entity_references t))
      type_free Boolean e = tt
      type_free Long e = tt
      type_free String e = tt
      type_free (Extension x) e = tt
      type_free (Set t) e = type_free t e
      type_free (Record ts is_open) e = each_free ts (no_right (open_fault is_open) (attribute_faults_by target is_common is_extension ts) e)
      type_free (Entity r) e = free_target (target r) e
      type_free (EntityOrCommon r) e = tt
      type_free (CommonTypeRef r) e = tt

      each_free : (ts : WrittenAttributes N) → attribute_faults_by target is_common is_extension ts ≡ [] → AllPass (λ n. has_cedar n ≡ false) (filter_map target (attribute_entity_references ts))
      each_free no_attributes e = tt
      each_free (attribute name required t ts) e =
          free_append (entity_references t) (attribute_entity_references ts)
          (type_free t (no_left (faults_by target is_common is_extension t) (attribute_faults_by target is_common is_extension ts) e))
          (each_free ts (no_right (faults_by target is_common is_extension t) (attribute_faults_by target is_common is_extension ts) e))

    -- so with types under keys
    pub all_free : {K : Type 0} (ts : List (K × Written N)) → AllPass (λ t. faults_by target is_common is_extension t.1 ≡ []) ts → AllPass (λ n. has_cedar n ≡ false) (filter_map target (all_entity_references ts))
    all_free [] all = tt
    all_free (t ∷ ts) all = free_append (entity_references t.1) (all_entity_references ts) (type_free t.1 all.0) (all_free ts all.1)
