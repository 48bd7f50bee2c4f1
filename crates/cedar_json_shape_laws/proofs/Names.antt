-- SPDX-License-Identifier: Apache-2.0
-- A text without a fault as an identifier, as a name or as the key of an annotation is that of one; annotations.
use Rattle.std.proofs.Common.{◌≡◌, ℕ, Bool, true, false, ◌||◌, not, IsTrue, if◌then◌else◌, List, [], ◌∷◌, ◌++◌, Option, Some, None, refl, sym, ap, ◌∙◌}
use Rattle.std.specs.Cmp.{first_so, second_so}
use Rattle.std.specs.List.{list_all}
use Rattle.serde_json.specs.Data.{Data, null, boolean, number, string, array, object}
use Rattle.cedar_text.specs.Faults as words
use Rattle.cedar_text.specs.Faults.{bad_token, exclusion_fault, first_fault, form_fault, no_any_id, no_id, no_unreserved_id, word_len}
use Rattle.cedar_text.specs.NormalNames as names
use Rattle.cedar_text.specs.NormalNames.{parts, parts_fault, words_fault}
use Rattle.cedar_text.specs.Words.{is_cedar, is_id, is_reserved_word, is_word}
use Rattle.cedar_text.specs.declared.fault.NameFault.{NameFault}
use Rattle.cedar_text.specs.declared.fault.NameFault.TheVariants.{Reserved}
use Rattle.cedar_text.proofs.PartsLemmas.{parts-first}
use Rattle.cedar_names.specs.Annotating.{any_cmp}
use Rattle.cedar_names.specs.Components.{components, has_cedar, internal_name, loc_of}
use Rattle.cedar_names.specs.Identifiers.{id_words}
use Rattle.cedar_names.specs.Names.{internal_of, name_words}
use Rattle.cedar_names.specs.declared.annotation.Annotation.{Annotation}
use Rattle.cedar_names.specs.declared.annotation.Annotations.{Annotations}
use Rattle.cedar_names.specs.declared.any_id.AnyId.{AnyId}
use Rattle.cedar_names.specs.declared.id.Id.{Id}
use Rattle.cedar_names.specs.declared.id.UnreservedId.{UnreservedId}
use Rattle.cedar_names.specs.declared.internal_name.InternalName.{InternalName}
use Rattle.cedar_names.specs.declared.name.Name.{Name}
use Rattle.cedar_names.proofs.NormalNameLemmas.{all_words, no_cedar_where}
use Rattle.cedar_written.specs.CommonTypeIds.{common_id, is_reserved_basename}
use Rattle.cedar_written.specs.Possibilities.{raw_name}
use Rattle.cedar_written.specs.declared.common_type_id.CommonTypeId.{CommonTypeId}
use Rattle.cedar_written.specs.declared.raw_name.RawName.{RawName}
use Rattle.cedar_json_fault.specs.declared.json_fault.NameKind.{NameKind}
use Rattle.cedar_json_fault.specs.declared.json_fault.NameKind.TheVariants as what
use Rattle.cedar_json_types.specs.CommonIds.{IdentifiesCommon, common_id_fault, reserved_fault, word_id}
use Rattle.cedar_json_types.specs.Faults.{in_text}
use Rattle.cedar_json_types.specs.Parts.{AreAnnotations, Identifies, IdentifiesAny, IsAnnotation, IsId, IsName, Names, annotation_fault, annotations_fault, any_id_fault, id_fault, named, reference_fault}
use Rattle.cedar_json_types.proofs.CommonIdLemmas.{is_reserved}
use Rattle.cedar_json_shape_laws.proofs.Steps.{neither, a_text}
use Rattle.cedar_json_shape_laws.proofs.Members.{entries_shaped}

-- no fault of the value is none of the name
not_named : (kind : NameKind) (s : List ℕ) (o : Option NameFault) → named kind s o ≡ None → o ≡ None
not_named kind s None none = refl
not_named kind s (Some f) none = absurd (cc)

neither_name : (a b : Option NameFault) → first_fault a b ≡ None → (a ≡ None) × (b ≡ None)
neither_name None b none = (refl, none)
neither_name (Some f) b none = absurd (cc)

-- ---- words

not_so : (b : Bool) (f : NameFault) → (if b then Some f else None) ≡ None → b ≡ false
not_so true f none = absurd (cc)
not_so false f none = refl

so : (b : Bool) (f : NameFault) → (if b then None else Some f) ≡ None → b ≡ true
so true f none = refl
so false f none = absurd (cc)

no_form_fault : (s : List ℕ) → form_fault s ≡ None → is_word s ≡ true
no_form_fault [] none = absurd (cc)
no_form_fault (b ∷ bs) none = so (is_word (b ∷ bs)) (bad_token (b ∷ bs) (word_len (b ∷ bs))) none

-- the text is a word that is not excluded
a_word : (excluded : List ℕ → Bool) (s : List ℕ) → words.word_fault excluded s ≡ None → (is_word s ≡ true) × (excluded s ≡ false)
a_word excluded s none =
    let both = neither_name (form_fault s) (exclusion_fault excluded s) none in
    (no_form_fault s both.0, not_so (excluded s) (Reserved s) both.1)

neither_so : (a b : Bool) → (a || b) ≡ false → (a ≡ false) × (b ≡ false)
neither_so true b is = absurd (cc)
neither_so false b is = (refl, is)

word_form : (w : List ℕ) → is_word w ≡ true → is_reserved_word w ≡ false → IsTrue (is_id w)
word_form w word free = rw (word, free) refl

-- ---- identifiers

identified : (s : List ℕ) → words.word_fault no_unreserved_id s ≡ None → (id : UnreservedId) × Identifies s id
identified s none =
    let word = a_word no_unreserved_id s none in
    let free = neither_so (is_reserved_word s) (is_cedar s) word.1 in
    (word_id s (word_form s word.0 free.0) (rw free.1 refl), (none, refl))

pub id_shaped : (kind : NameKind) (s : List ℕ) → id_fault kind s ≡ None → (id : UnreservedId) × Identifies s id
unfolding id_fault
id_shaped kind s none = identified s (not_named kind s (words.word_fault no_unreserved_id s) none)

pub is_id_shaped : (kind : NameKind) (d : Data) → in_text (id_fault kind) d ≡ None → (id : UnreservedId) × IsId d id
is_id_shaped kind d none =
    let text = a_text (id_fault kind) d none in
    let made = id_shaped kind text.0 text.2 in
    (made.0, (text.0, text.1, made.1))

any_id_shaped : (s : List ℕ) → any_id_fault s ≡ None → (id : AnyId) × IdentifiesAny s id
any_id_shaped s none =
    let clean = not_named what.Id s (words.word_fault no_any_id s) none in
    (record { word = s; form = (a_word no_any_id s clean).0 }, (clean, refl))

-- an identifier is not reserved where no fault says so
not_reserved : (id : UnreservedId) (b : Bool) → is_reserved_basename id.id.word ≡ b → reserved_fault id.id.word ≡ None → b ≡ false
not_reserved id true is none = absurd (cc (is_reserved id is, none))
not_reserved id false is none = refl

pub common_id_shaped : (s : List ℕ) → common_id_fault s ≡ None → (c : CommonTypeId) × IdentifiesCommon s c
common_id_shaped s none =
    let both = neither (id_fault what.Id s) (reserved_fault s) none in
    let made = id_shaped what.Id s both.0 in
    let free = not_reserved made.0 (is_reserved_basename made.0.id.word) refl (ap reserved_fault made.1.1 ∙ both.1) in
    (common_id made.0, (made.1, ap is_reserved_basename (sym made.1.1) ∙ free))

-- ---- names

not_excluded : (b : Bool) (f : NameFault) (rest : Option NameFault) → (if b then Some f else rest) ≡ None → (b ≡ false) × (rest ≡ None)
not_excluded true f rest none = absurd (cc)
not_excluded false f rest none = (refl, none)

module _ (excluded : List ℕ → Bool) (free : (w : List ℕ) → excluded w ≡ false → is_reserved_word w ≡ false) where
  -- words of which none is excluded are those of identifiers
  ids_of : (ws : List (List ℕ)) → list_all is_word ws ≡ true → words_fault excluded ws ≡ None → (is : List Id) × (id_words is ≡ ws)
  ids_of [] all none = ([], refl)
  ids_of (w ∷ ws) all none =
      let here = not_excluded (excluded w) (Reserved w) (words_fault excluded ws) none in
      let rest = ids_of ws (second_so (is_word w) (list_all is_word ws) all) here.1 in
      let id : Id = record { word = w; form = word_form w (first_so (is_word w) (list_all is_word ws) all) (free w here.0) } in
      (id ∷ rest.0, ap (λ vs. w ∷ vs) rest.1)

  -- the last of some identifiers
  split_last : (id : Id) (is : List Id) → (front : List Id) × (last : Id) × (front ++ last ∷ [] ≡ id ∷ is)
  split_last id [] = ([], id, refl)
  split_last id (i ∷ is) = let rest = split_last i is in (id ∷ rest.0, rest.1, ap (λ l. id ∷ l) rest.2)

  of_ids : (s : List ℕ) (is : List Id) → id_words is ≡ parts s → (n : InternalName) × (components n ≡ parts s) × (loc_of n ≡ None)
  of_ids s [] same = let first = parts-first 0 s in absurd (cc (same, first.is))
  of_ids s (i ∷ is) same =
      let ends = split_last i is in
      (internal_name ends.1 ends.0 None, ap id_words ends.2 ∙ same, refl)

  -- the name that the text is
  internal_shaped : (s : List ℕ) → names.name_fault excluded s ≡ None → (n : InternalName) × (components n ≡ parts s) × (loc_of n ≡ None)
  internal_shaped s none =
      let both = neither_name (parts_fault s 0 (parts s)) (words_fault excluded (parts s)) none in
      let ids = ids_of (parts s) (all_words s 0 (parts s) both.0) both.1 in
      of_ids s ids.0 ids.1

pub reference_shaped : (kind : NameKind) (s : List ℕ) → reference_fault kind s ≡ None → (n : RawName) × Names s n
reference_shaped kind s none =
    let clean = not_named kind s (names.name_fault no_id s) none in
    let made = internal_shaped no_id (λ w is. is) s clean in
    (raw_name made.0, (clean, made.1, made.2))

pub name_shaped : (kind : NameKind) (d : Data) → in_text (reference_fault kind) d ≡ None → (n : RawName) × IsName d n
name_shaped kind d none =
    let text = a_text (reference_fault kind) d none in
    let made = reference_shaped kind text.0 text.2 in
    (made.0, (text.0, text.1, made.1))

-- no part of the text is `__cedar`
not_cedar : (s : List ℕ) → names.name_fault no_unreserved_id s ≡ None → has_cedar (parts s) ≡ false
not_cedar s none = no_cedar_where false (parts s) (neither_name (parts_fault s 0 (parts s)) (words_fault no_unreserved_id (parts s)) none).1 refl

pub unreserved_shaped : (kind : NameKind) (s : List ℕ) → named kind s (names.name_fault no_unreserved_id s) ≡ None
    → (n : Name) × (names.name_fault no_unreserved_id s ≡ None) × (name_words n ≡ parts s) × (loc_of (internal_of n) ≡ None)
unreserved_shaped kind s none =
    let clean = not_named kind s (names.name_fault no_unreserved_id s) none in
    let made = internal_shaped no_unreserved_id (λ w is. (neither_so (is_reserved_word w) (is_cedar w) is).0) s clean in
    (record { internal = made.0; unreserved = ap (λ ws. not (has_cedar ws)) made.1 ∙ ap not (not_cedar s clean) }, clean, made.1, made.2)

-- ---- annotations

annotation_shaped : (d : Data) → annotation_fault d ≡ None → (a : Annotation) × IsAnnotation d a
annotation_shaped null none = (record { val = []; loc = None }, (refl, refl))
annotation_shaped (boolean b) none = absurd (cc)
annotation_shaped (number n) none = absurd (cc)
annotation_shaped (string s) none = (record { val = s; loc = None }, (refl, refl))
annotation_shaped (array ds) none = absurd (cc)
annotation_shaped (object ms) none = absurd (cc)

pub annotations_shaped : (d : Data) → annotations_fault d ≡ None → (a : Annotations) × AreAnnotations d a
annotations_shaped d none =
    let made = entries_shaped IdentifiesAny IsAnnotation any_id_fault annotation_fault any_id_shaped annotation_shaped any_cmp d none in
    (record { map = made.0 }, made.1)
