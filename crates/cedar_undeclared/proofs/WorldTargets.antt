-- SPDX-License-Identifier: Apache-2.0
-- What stands over full names where only an entity type may stand is the targets of what stands there over references.
use Rattle.std.proofs.Common.{◌≡◌, ◌++◌, ◌&&◌, ◌||◌, not, List, [], ◌∷◌, Option, map, refl, sym, ap, ◌∙◌}
use Rattle.std.proofs.lemmas.List.Elements.{filter_map-append}
use Rattle.std.proofs.lemmas.List.Folds.{list_any-append}
use Rattle.std.specs.BTreeMap.{is_at}
use Rattle.std.specs.List.{AllZip, cons_option, filter_map}
use Rattle.cedar_data.specs.Sets.{contains, IsSetOf}
use Rattle.cedar_missing.specs.of_declared.Names.{Names, is_entity, target, targets}
use Rattle.cedar_names.specs.Components.{components}
use Rattle.cedar_names.specs.Order.{words_cmp}
use Rattle.cedar_names.specs.declared.internal_name.InternalName.{InternalName}
use Rattle.cedar_missing.specs.of_schema_error.FullNames.{FullName}
use Rattle.cedar_missing.specs.of_schema_error.Told.{told_use}
use Rattle.cedar_missing.specs.of_schema_error.declared.use_place.UsePlace.{UsePlace}
use Rattle.cedar_world.specs.of_unfold.Full.{by_place}
use Rattle.cedar_world.specs.of_unfold.Tables.{by_name}
use Rattle.cedar_world.specs.of_unfold.Written.{Written, WrittenAttributes}
use Rattle.cedar_world.specs.of_unfold.WrittenViews.{written_type}
use Rattle.cedar_world.specs.Qualified.{Qualifies, QualifiesAt, QualifiesEach, QualifiesJob}
use Rattle.cedar_world.specs.Qualified as q
use Rattle.cedar_world.specs.Undeclared.{IsUndeclared, all_entity_references, attribute_entity_references, entity_references, references_to_entities}
use Rattle.cedar_world.specs.Worlds.{World, common_types, job, names, uses}
use Rattle.cedar_written.specs.declared.ty.SchemaType.{SchemaType}
use Rattle.cedar_undeclared.specs.InWorld.{other_references}
use Rattle.cedar_undeclared.specs.Undeclared.{IsUndeclaredAmong, full_types, names_of_entities}

module _ {N : Type 0} (target_of : N → Option FullName) where
  mutual
    type_targets : {t : Written N} {u : Written FullName} → Qualifies target_of t u → entity_references u ≡ filter_map target_of (entity_references t)
    type_targets q.boolean = refl
    type_targets q.long = refl
    type_targets q.string = refl
    type_targets q.extension = refl
    type_targets (q.set f) = type_targets f
    type_targets (q.record_of fs) = attribute_targets fs
    type_targets (q.entity a) = ap (λ o. cons_option o []) (sym a)
    type_targets (q.either a) = refl
    type_targets (q.common a) = refl

    attribute_targets : {ts : WrittenAttributes N} {us : WrittenAttributes FullName} → QualifiesEach target_of ts us → attribute_entity_references us ≡ filter_map target_of (attribute_entity_references ts)
    attribute_targets q.none = refl
    attribute_targets (q.each {t = t} {u = u} {ts = ts} {us = us} f fs) =
        ap (λ l. l ++ attribute_entity_references us) (type_targets f)
        ∙ ap (λ l. filter_map target_of (entity_references t) ++ l) (attribute_targets fs)
        ∙ sym (filter_map-append target_of (entity_references t) (attribute_entity_references ts))

  -- of types at their keys
  all_targets : {K : Type 0} (ts : List (K × Written N)) (us : List (K × Written FullName)) → AllZip (QualifiesAt target_of) ts us → all_entity_references us ≡ filter_map target_of (all_entity_references ts)
  all_targets [] [] h = refl
  all_targets [] (u ∷ us) h = absurd h
  all_targets (t ∷ ts) [] h = absurd h
  all_targets (t ∷ ts) (u ∷ us) h =
      ap (λ l. l ++ all_entity_references us) (type_targets h.0.1)
      ∙ ap (λ l. filter_map target_of (entity_references t.1) ++ l) (all_targets ts us h.1)
      ∙ sym (filter_map-append target_of (entity_references t.1) (all_entity_references ts))

-- whatever the keys
keys_aside : {K J : Type 0} (key : K → J) (es : List (K × SchemaType InternalName)) → all_entity_references (map (λ e. (key e.0, written_type components e.1)) es) ≡ all_entity_references (full_types es)
keys_aside key [] = refl
keys_aside key (e ∷ es) = ap (λ l. entity_references (written_type components e.1) ++ l) (keys_aside key es)

module _ (w : World) (a : Names) (commons : List (InternalName × SchemaType InternalName)) (used : List (UsePlace × SchemaType InternalName)) (others : List InternalName)
    (alike : (n : FullName) → is_entity a n ≡ is_entity (names w) n)
    (qualify : QualifiesJob (job w) (by_name (written_type components) commons) (by_place (written_type components) used))
    (mean : (n : FullName) → contains words_cmp (map components others) n ≡ contains words_cmp (targets (names w) (other_references w)) n) where
  common_part : all_entity_references (full_types commons) ≡ targets (names w) (all_entity_references (common_types w))
  common_part = sym (keys_aside components commons) ∙ all_targets (target (names w)) (common_types w) (by_name (written_type components) commons) qualify.commons_are

  use_part : all_entity_references (full_types used) ≡ targets (names w) (all_entity_references (uses w))
  use_part = sym (keys_aside told_use used) ∙ all_targets (target (names w)) (uses w) (by_place (written_type components) used) qualify.uses_are

  has-append : (xs ys : List FullName) (n : FullName) → contains words_cmp (xs ++ ys) n ≡ (contains words_cmp xs n || contains words_cmp ys n)
  has-append xs ys n = list_any-append (is_at (words_cmp n)) xs ys

  abbrev of_commons : List FullName
  of_commons = targets (names w) (all_entity_references (common_types w))

  abbrev of_uses : List FullName
  of_uses = targets (names w) (all_entity_references (uses w))

  abbrev of_others : List FullName
  of_others = targets (names w) (other_references w)

  in_parts : targets (names w) (references_to_entities w) ≡ of_commons ++ (of_uses ++ of_others)
  in_parts =
      filter_map-append (target (names w)) (all_entity_references (common_types w)) (all_entity_references (uses w) ++ other_references w)
      ∙ ap (λ l. of_commons ++ l) (filter_map-append (target (names w)) (all_entity_references (uses w)) (other_references w))

  same_names : (n : FullName) → contains words_cmp (names_of_entities commons used others) n ≡ contains words_cmp (targets (names w) (references_to_entities w)) n
  same_names n =
      (λ i. contains words_cmp (common_part i ++ (use_part i ++ map components others)) n)
      ∙ has-append of_commons (of_uses ++ map components others) n
      ∙ ap (λ b. contains words_cmp of_commons n || b) (has-append of_uses (map components others) n ∙ ap (λ b. contains words_cmp of_uses n || b) (mean n) ∙ sym (has-append of_uses of_others n))
      ∙ sym (has-append of_commons (of_uses ++ of_others) n)
      ∙ ap (λ l. contains words_cmp l n) (sym in_parts)

  same_undeclared : (n : FullName) → (contains words_cmp (names_of_entities commons used others) n && not (is_entity a n)) ≡ (contains words_cmp (targets (names w) (references_to_entities w)) n && not (is_entity (names w) n))
  same_undeclared n = λ i. same_names n i && not (alike n i)

  -- the set of them is that of the world
  pub undeclared_there : (ks : List FullName) → IsSetOf words_cmp (IsUndeclaredAmong a (names_of_entities commons used others)) ks → IsSetOf words_cmp (IsUndeclared w) ks
  undeclared_there ks set = record {
    ascends = set.ascends;
    members = λ n. (λ here. sym (same_undeclared n) ∙ (set.members n).0 here, λ there. (set.members n).1 (same_undeclared n ∙ there));
  }
