-- SPDX-License-Identifier: Apache-2.0
-- A value that has a shape has no fault: objects, arrays, maps, names and annotations.
use Rattle.std.proofs.Common.{◌≡◌, ℕ, ◌+◌, Bool, List, [], ◌∷◌, codes, decimal, unwrap_or, is_some, if◌then◌else◌, Option, Some, None, refl, ap, ◌∙◌}
use Rattle.std.specs.declared.cmp.Ordering.{Ordering}
use Rattle.cedar_names.specs.declared.annotation.Annotation.{Annotation}
use Rattle.cedar_names.specs.declared.annotation.Annotations.{Annotations}
use Rattle.cedar_names.specs.declared.any_id.AnyId.{AnyId}
use Rattle.cedar_names.specs.declared.id.UnreservedId.{UnreservedId}
use Rattle.cedar_names.specs.Annotating.{annotation_entries, any_cmp}
use Rattle.cedar_written.specs.CommonTypeIds.{unreserved_of}
use Rattle.cedar_written.specs.declared.common_type_id.CommonTypeId.{CommonTypeId}
use Rattle.cedar_written.specs.declared.raw_name.RawName.{RawName}
use Rattle.serde_json.specs.Data.{Data, null, boolean, number, string, array, object, Items, no_items, item, Members, no_members, member}
use Rattle.serde_json.specs.Find.{get, as_array, as_object}
use Rattle.cedar_json_fault.specs.declared.json_fault.JsonShape.{JsonShape}
use Rattle.cedar_json_fault.specs.declared.json_fault.NameKind.{NameKind}
use Rattle.cedar_json_fault.specs.declared.json_fault.NameKind.TheVariants as what
use Rattle.cedar_json_types.specs.CommonIds.{IdentifiesCommon, common_id_fault, reserved_fault}
use Rattle.cedar_json_types.specs.Faults.{Fault, first, under, unknown, in_object, in_array, in_text, no_flag, unless_null, any_text, in_field, needs, if_there, allows, unknown_key, keys_fault, excess, excess_of, members_fault, map_fault, entry_fault, items_fault, array_fault}
use Rattle.cedar_json_types.specs.Parts.{named, reference_fault, id_fault, any_id_fault, annotation_fault, annotations_fault, Names, Identifies, IdentifiesAny, IsName, IsId, IsNote, IsAnnotation, AreAnnotations, NoAnnotations}
use Rattle.cedar_json_types.specs.Shapes.{Keyed, Lacks, At, OrAbsent, MayHave, OrNull, Present, EachItem, ArrayOf, EachMember, MapOf, Entry, IsFlag, IsText}
use Rattle.cedar_json_types.proofs.Chains.{first-skip, under-none}
use Rattle.cedar_json_types.proofs.CommonIdLemmas.{is_free}
use Rattle.cedar_json_types.proofs.KeyLemmas.{none_unknown}

pub neither_fault : (a b : Fault) → a ≡ None → b ≡ None → first a b ≡ None
neither_fault a b first second = first-skip a b None first second

-- ---- kinds of values

pub object_clean : (more : Members → Fault) (d : Data) (ms : Members) → as_object d ≡ Some ms → more ms ≡ None → in_object more d ≡ None
object_clean more null ms is none = absurd (cc)
object_clean more (boolean b) ms is none = absurd (cc)
object_clean more (number n) ms is none = absurd (cc)
object_clean more (string s) ms is none = absurd (cc)
object_clean more (array ds) ms is none = absurd (cc)
object_clean more (object ns) ms is none = ap (λ o. more (unwrap_or o ms)) is ∙ none

pub array_kind_clean : (more : Items → Fault) (d : Data) (ds : Items) → as_array d ≡ Some ds → more ds ≡ None → in_array more d ≡ None
array_kind_clean more null ds is none = absurd (cc)
array_kind_clean more (boolean b) ds is none = absurd (cc)
array_kind_clean more (number n) ds is none = absurd (cc)
array_kind_clean more (string s) ds is none = absurd (cc)
array_kind_clean more (array es) ds is none = ap (λ o. more (unwrap_or o ds)) is ∙ none
array_kind_clean more (object ms) ds is none = absurd (cc)

pub text_clean : (more : List ℕ → Fault) (d : Data) (s : List ℕ) → d ≡ string s → more s ≡ None → in_text more d ≡ None
text_clean more d s is none = ap (in_text more) is ∙ none

pub flag_clean : (d : Data) (b : Bool) → IsFlag d b → no_flag d ≡ None
flag_clean d b is = ap no_flag is

-- ---- keys

pub keyed_clean : (shape : JsonShape) (keys : List (List ℕ)) (d : Data) → Keyed keys d → keys_fault shape keys d ≡ None
keyed_clean shape keys d keyed = object_clean (unknown_key shape keys) d keyed.0 keyed.1 (none_unknown shape keys keyed.0 keyed.2)

excess_clean : (shape : JsonShape) (k : List ℕ) (d : Data) → get k d ≡ None → excess shape k d ≡ None
unfolding excess
excess_clean shape k d none = ap (λ o. if is_some o then Some (unknown k shape) else None) none

pub lacks_clean : (shape : JsonShape) (ks : List (List ℕ)) (d : Data) → Lacks ks d → excess_of shape ks d ≡ None
lacks_clean shape [] d lacks = refl
lacks_clean shape (k ∷ ks) d lacks = neither_fault (excess shape k d) (excess_of shape ks d) (excess_clean shape k d lacks.0) (lacks_clean shape ks d lacks.1)

pub needs_clean : (k : List ℕ) (fault : Data → Fault) (d e : Data) → get k d ≡ Some e → fault e ≡ None → needs k fault d ≡ None
needs_clean k fault d e is none = ap (in_field k fault) is ∙ under-none k (fault e) none

module _ {V : Type 0} (P : Data → V → Type 0) (fault : Data → Fault) (clean : (d : Data) (v : V) → P d v → fault d ≡ None) where
  pub at_clean : (k : List ℕ) (d : Data) (v : V) → At k P d v → needs k fault d ≡ None
  at_clean k d v at = needs_clean k fault d at.0 at.1 (clean at.0 v at.2)

  or_absent_clean : (k : List ℕ) (absent : V → Type 0) (o : Option Data) (v : V) → OrAbsent absent P o v → if_there k fault o ≡ None
  or_absent_clean k absent None v is = refl
  or_absent_clean k absent (Some d) v is = under-none k (fault d) (clean d v is)

  pub may_have_clean : (k : List ℕ) (absent : V → Type 0) (d : Data) (v : V) → MayHave k absent P d v → allows k fault d ≡ None
  may_have_clean k absent d v is = or_absent_clean k absent (get k d) v is

  pub or_null_clean : (d : Data) (o : Option V) → OrNull P d o → unless_null fault d ≡ None
  or_null_clean d None is = ap (unless_null fault) is
  or_null_clean null (Some v) is = refl
  or_null_clean (boolean b) (Some v) is = clean (boolean b) v is
  or_null_clean (number n) (Some v) is = clean (number n) v is
  or_null_clean (string s) (Some v) is = clean (string s) v is
  or_null_clean (array ds) (Some v) is = clean (array ds) v is
  or_null_clean (object ms) (Some v) is = clean (object ms) v is

  pub present_clean : (d : Data) (o : Option V) → Present P d o → fault d ≡ None
  present_clean d None is = absurd is
  present_clean d (Some v) is = clean d v is

  pub items_clean : (place : ℕ) (ds : Items) (vs : List V) → EachItem P ds vs → items_fault fault place ds ≡ None
  items_clean place no_items vs each = refl
  items_clean place (item d ds) [] each = absurd each
  items_clean place (item d ds) (v ∷ vs) each = neither_fault (under (decimal place) (fault d)) (items_fault fault (place + 1) ds) (under-none (decimal place) (fault d) (clean d v each.0)) (items_clean (place + 1) ds vs each.1)

  pub array_clean : (d : Data) (vs : List V) → ArrayOf P d vs → array_fault fault d ≡ None
  array_clean d vs are = array_kind_clean (items_fault fault 0) d are.0 are.1 (items_clean 0 are.0 vs are.2)

module _ {K V : Type 0} (P : List ℕ → Data → K → V → Type 0) (fault : List ℕ → Data → Fault) (clean : (k : List ℕ) (d : Data) (key : K) (v : V) → P k d key v → fault k d ≡ None) where
  pub members_clean : (ms : Members) (es : List (K × V)) → EachMember P ms es → members_fault fault ms ≡ None
  members_clean no_members es each = refl
  members_clean (member k d ms) [] each = absurd each
  members_clean (member k d ms) (e ∷ es) each = neither_fault (fault k d) (members_fault fault ms) (clean k d e.0 e.1 each.0) (members_clean ms es each.1)

  pub map_clean : (cmp : K → K → Ordering) (d : Data) (m : List (K × V)) → MapOf cmp P d m → map_fault fault d ≡ None
  map_clean cmp d m is = object_clean (members_fault fault) d is.0 is.1 (members_clean is.0 is.2.0 is.2.1)

module _ {K V : Type 0} (named : List ℕ → K → Type 0) (P : Data → V → Type 0) (key_fault : List ℕ → Fault) (fault : Data → Fault)
    (key_clean : (s : List ℕ) (k : K) → named s k → key_fault s ≡ None) (clean : (d : Data) (v : V) → P d v → fault d ≡ None) where
  pub entry_clean : (k : List ℕ) (d : Data) (key : K) (v : V) → Entry named P k d key v → entry_fault key_fault fault k d ≡ None
  entry_clean k d key v is = neither_fault (key_fault k) (under k (fault d)) (key_clean k key is.0) (under-none k (fault d) (clean d v is.1))

-- the key is any text
pub any_text_clean : (s k : List ℕ) → k ≡ s → any_text s ≡ None
any_text_clean s k is = refl

-- ---- names

pub names_clean : (kind : NameKind) (s : List ℕ) (n : RawName) → Names s n → reference_fault kind s ≡ None
names_clean kind s n is = ap (named kind s) is.0

pub name_clean : (kind : NameKind) (d : Data) (n : RawName) → IsName d n → in_text (reference_fault kind) d ≡ None
name_clean kind d n is = text_clean (reference_fault kind) d is.0 is.1 (names_clean kind is.0 n is.2)

pub identifies_clean : (kind : NameKind) (s : List ℕ) (id : UnreservedId) → Identifies s id → id_fault kind s ≡ None
unfolding id_fault
identifies_clean kind s id is = ap (named kind s) is.0

pub id_clean : (kind : NameKind) (d : Data) (id : UnreservedId) → IsId d id → in_text (id_fault kind) d ≡ None
id_clean kind d id is = text_clean (id_fault kind) d is.0 is.1 (identifies_clean kind is.0 id is.2)

pub common_id_clean : (s : List ℕ) (c : CommonTypeId) → IdentifiesCommon s c → common_id_fault s ≡ None
common_id_clean s c is = neither_fault (id_fault what.Id s) (reserved_fault s) (identifies_clean what.Id s (unreserved_of c) is.0) (is_free s is.1)

any_id_clean : (s : List ℕ) (id : AnyId) → IdentifiesAny s id → any_id_fault s ≡ None
any_id_clean s id is = ap (named what.Id s) is.0

pub is_text_clean : (d : Data) (t : List ℕ) → IsText d t → in_text any_text d ≡ None
is_text_clean d t is = text_clean any_text d t is refl

-- ---- annotations

note_clean : (d : Data) (t : List ℕ) → IsNote d t → annotation_fault d ≡ None
note_clean null t is = refl
note_clean (boolean b) t is = is_text_clean (boolean b) t is
note_clean (number n) t is = is_text_clean (number n) t is
note_clean (string s) t is = refl
note_clean (array ds) t is = is_text_clean (array ds) t is
note_clean (object ms) t is = is_text_clean (object ms) t is

annotation_clean : (d : Data) (a : Annotation) → IsAnnotation d a → annotation_fault d ≡ None
annotation_clean d a is = note_clean d _ is.0

pub annotations_clean : (d : Data) (a : Annotations) → AreAnnotations d a → annotations_fault d ≡ None
annotations_clean d a are = map_clean (Entry IdentifiesAny IsAnnotation) (entry_fault any_id_fault annotation_fault) (entry_clean IdentifiesAny IsAnnotation any_id_fault annotation_fault any_id_clean annotation_clean) any_cmp d (annotation_entries a) are

pub notes_clean : (d : Data) (a : Annotations) → MayHave (codes "annotations") NoAnnotations AreAnnotations d a → allows (codes "annotations") annotations_fault d ≡ None
notes_clean d a noted = may_have_clean AreAnnotations annotations_fault annotations_clean (codes "annotations") NoAnnotations d a noted
