-- SPDX-License-Identifier: Apache-2.0
-- Comparisons of identifiers, annotations and names.
use mathlib.Core.Bool.{true≢false}
use Rattle.std.specs.Prelude.{true, List, [], ◌∷◌, nat_eq, None}
use Rattle.std.specs.Cmp.{first_so, second_so}
use Rattle.std.specs.Cmp.Lexicographic.{pointwise}
use Rattle.std.proofs.Common.{◌≡◌, IsTrue, not, refl, sym, ap, ◌∙◌, subst}
use Rattle.std.proofs.Props.{props}
use Rattle.cedar_names.proofs.Ids.{one_any_id, one_id, one_unreserved_id}
use Rattle.cedar_names.specs.Components.{components, has_cedar, internal_name}
use Rattle.cedar_names.specs.HashLaws.{id_eq, words_eq-parts}
use Rattle.cedar_names.specs.OrderLaws.{words-equiv}
use Rattle.cedar_names.specs.Identifiers.{any_word, unreserved_word}
use Rattle.cedar_names.specs.declared.annotation.Annotation.{Annotation}
use Rattle.cedar_names.specs.declared.annotation.Annotations.{Annotations}
use Rattle.cedar_names.specs.declared.any_id.AnyId.{AnyId}
use Rattle.cedar_names.specs.EntityUids.{entity_uid}
use Rattle.cedar_names.specs.declared.entity_uid.Eid.{Eid}
use Rattle.cedar_names.specs.declared.id.Id.{Id}
use Rattle.cedar_names.specs.declared.id.UnreservedId.{UnreservedId}
use Rattle.cedar_names.specs.declared.internal_name.InternalName.{InternalName}
use Rattle.cedar_names.specs.declared.name.EntityType as named
use Rattle.cedar_names.specs.declared.name.Name.{Name}
use Rattle.cedar_names.specs.contracts.annotation.AnnotationPartialEq.TheImpl as note_eqs
use Rattle.cedar_names.specs.contracts.annotation.AnnotationsPartialEq.TheImpl as annotations_eqs
use Rattle.cedar_names.specs.contracts.any_id.AnyIdPartialEq.TheImpl as any_eqs
use Rattle.cedar_names.specs.contracts.id.UnreservedIdPartialEq.TheImpl as id_eqs
use Rattle.cedar_names.specs.contracts.internal_name.InternalNamePartialEq.TheImpl as internal_eqs
use Rattle.cedar_names.specs.contracts.entity_uid.EntityUIDPartialEq.TheImpl as uid_eqs
use Rattle.cedar_names.specs.contracts.name.EntityTypePartialEq.TheImpl as entity_eqs
use Rattle.cedar_names.specs.contracts.name.NamePartialEq.TheImpl as path_eqs
use Rattle.cedar_written.specs.Possibilities.{kind_of, possibilities_of, raw_name, raw_of, reference, written}
use Rattle.cedar_written.specs.declared.reference_type.ReferenceType.{ReferenceType}
use Rattle.cedar_written.specs.declared.reference_type.ReferenceType.TheVariants.{Common, Entity, CommonOrEntity}
use Rattle.cedar_written.specs.contracts.conditional_name.ConditionalNamePartialEq.TheImpl as conditional_eqs
use Rattle.cedar_written.specs.contracts.reference_type.ReferenceTypePartialEq.TheImpl as place_eqs
use Rattle.cedar_written.specs.contracts.reference_type.ReferenceTypeEq.TheImpl.Laws as place_equivalence
use Rattle.cedar_written.specs.contracts.raw_name.RawNamePartialEq.TheImpl as raw_eqs
use Rattle.cedar_comparing.specs.Comparing.{GoesBy}
use Rattle.cedar_comparing.specs.Unplaced.{annotations_unplaced, conditional_unplaced, entity_name_unplaced, entity_uid_unplaced, internal_unplaced, note_unplaced, path_unplaced, raw_unplaced}
use Rattle.cedar_comparing.proofs.Parts.{both, entries_go, lists_go, texts_go}

pub ids_go : GoesBy id_eqs.ghosts.eq (λ (id : UnreservedId). id)
ids_go = record {
  itself = λ id. texts_go.itself (unreserved_word id);
  alone = λ a b h. one_unreserved_id a b (texts_go.alone (unreserved_word a) (unreserved_word b) h);
}

keys_go : GoesBy any_eqs.ghosts.eq (λ (id : AnyId). id)
keys_go = record {
  itself = λ id. texts_go.itself (any_word id);
  alone = λ a b h. one_any_id a b (texts_go.alone (any_word a) (any_word b) h);
}

notes_go : GoesBy note_eqs.ghosts.eq note_unplaced
notes_go = record {
  itself = λ a. texts_go.itself a.val;
  alone = λ a b h. ap (λ val. note_unplaced (record { val = val; loc = a.loc })) (texts_go.alone a.val b.val h);
}

pub annotations_go : GoesBy annotations_eqs.ghosts.eq annotations_unplaced
annotations_go =
    let entries = lists_go (entries_go keys_go notes_go) in
    record {
      itself = λ a. entries.itself a.map;
      alone = λ a b h. ap (λ (es : List (AnyId × Annotation)). let made : Annotations = record { map = es } in made) (entries.alone a.map b.map h);
    }

-- ---- names

same_id : (a b : Id) → pointwise nat_eq a.word b.word ≡ true → a ≡ b
same_id a b h = one_id a b (texts_go.alone a.word b.word h)

same_ids : (xs ys : List Id) → pointwise id_eq xs ys ≡ true → xs ≡ ys
same_ids [] [] h = refl
same_ids [] (y ∷ ys) h = absurd (true≢false (sym h))
same_ids (x ∷ xs) [] h = absurd (true≢false (sym h))
same_ids (x ∷ xs) (y ∷ ys) h = λ i. same_id x y (first_so (id_eq x y) (pointwise id_eq xs ys) h) i ∷ same_ids xs ys (second_so (id_eq x y) (pointwise id_eq xs ys) h) i

pub internals_go : GoesBy internal_eqs.ghosts.eq internal_unplaced
internals_go = record {
  itself = λ n. (words-equiv components).refl n;
  alone = λ n m h.
      let parts = words_eq-parts n.namespace m.namespace n.basename m.basename ∙ h in
      let names = same_id n.basename m.basename (first_so (id_eq n.basename m.basename) (pointwise id_eq n.namespace m.namespace) parts) in
      let spaces = same_ids n.namespace m.namespace (second_so (id_eq n.basename m.basename) (pointwise id_eq n.namespace m.namespace) parts) in
      λ i. internal_name (names i) (spaces i) None;
}

-- a name without the component `__cedar` is what it is among all names
path_same : (m n : InternalName) (u : IsTrue (not (has_cedar (components m)))) (v : IsTrue (not (has_cedar (components n)))) → m ≡ n
    → ◌≡◌ {A = Name} record { internal = m; unreserved = u } record { internal = n; unreserved = v }
path_same m n u v e =
    subst (λ (x : InternalName). (w : IsTrue (not (has_cedar (components x)))) → ◌≡◌ {A = Name} record { internal = m; unreserved = u } record { internal = x; unreserved = w }) e
    (λ w. let p : IsProp (IsTrue (not (has_cedar (components m)))) = hlevel props in ap (λ (t : IsTrue (not (has_cedar (components m)))). let x : Name = record { internal = m; unreserved = t } in x) (p u w)) v

pub paths_go : GoesBy path_eqs.ghosts.eq path_unplaced
paths_go = record {
  itself = λ n. internals_go.itself n.internal;
  alone = λ m n h. path_same (internal_unplaced m.internal) (internal_unplaced n.internal) m.unreserved n.unreserved (internals_go.alone m.internal n.internal h);
}

pub entity_names_go : GoesBy entity_eqs.ghosts.eq entity_name_unplaced
entity_names_go = record {
  itself = λ ty. paths_go.itself ty.name;
  alone = λ a b h. ap (λ (n : Name). let t : named.EntityType = record { name = n } in t) (paths_go.alone a.name b.name h);
}

pub entity_uids_go : GoesBy uid_eqs.ghosts.eq entity_uid_unplaced
entity_uids_go = record {
  itself = λ uid. both (entity_names_go.itself uid.ty) (texts_go.itself uid.eid.text);
  alone = λ a b h.
      let types = entity_names_go.alone a.ty b.ty (first_so _ _ h) in
      let ids = texts_go.alone a.eid.text b.eid.text (second_so (entity_eqs.ghosts.eq a.ty b.ty) _ h) in
      λ i. entity_uid (types i) (let id : Eid = record { text = ids i } in id) None;
}

pub raws_go : GoesBy raw_eqs.ghosts.eq raw_unplaced
raws_go = record {
  itself = λ n. internals_go.itself (written n);
  alone = λ m n h. ap raw_name (internals_go.alone (written m) (written n) h);
}

places_itself : (p : ReferenceType) → place_eqs.ghosts.eq p p ≡ true
places_itself = place_equivalence.laws-law.refl

places_alone : (p q : ReferenceType) → place_eqs.ghosts.eq p q ≡ true → p ≡ q
places_alone Common Common h = refl
places_alone Common Entity h = absurd (true≢false (sym h))
places_alone Common CommonOrEntity h = absurd (true≢false (sym h))
places_alone Entity Common h = absurd (true≢false (sym h))
places_alone Entity Entity h = refl
places_alone Entity CommonOrEntity h = absurd (true≢false (sym h))
places_alone CommonOrEntity Common h = absurd (true≢false (sym h))
places_alone CommonOrEntity Entity h = absurd (true≢false (sym h))
places_alone CommonOrEntity CommonOrEntity h = refl

pub conditionals_go : GoesBy conditional_eqs.ghosts.eq conditional_unplaced
conditionals_go =
    let rest = lists_go internals_go in
    record {
      itself = λ n. both (raws_go.itself (raw_of n)) (both (places_itself (kind_of n)) (both (internals_go.itself (possibilities_of n).head) (rest.itself (possibilities_of n).tail)));
      alone = λ m n h.
          let raws = raws_go.alone (raw_of m) (raw_of n) (first_so _ _ h) in
          let later = second_so (raw_eqs.ghosts.eq (raw_of m) (raw_of n)) _ h in
          let places = places_alone (kind_of m) (kind_of n) (first_so _ _ later) in
          let names = second_so (place_eqs.ghosts.eq (kind_of m) (kind_of n)) _ later in
          let heads = internals_go.alone (possibilities_of m).head (possibilities_of n).head (first_so _ _ names) in
          let tails = rest.alone (possibilities_of m).tail (possibilities_of n).tail (second_so (internal_eqs.ghosts.eq (possibilities_of m).head (possibilities_of n).head) _ names) in
          λ i. reference (raws i) (places i) (record { head = heads i; tail = tails i });
    }
