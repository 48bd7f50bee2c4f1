-- SPDX-License-Identifier: Apache-2.0
-- Names, identifiers and annotations have the shapes of what they were written from.
use Rattle.std.proofs.Common.{◌≡◌, List, [], ◌∷◌, ◌++◌, map, codes, None, refl, subst, sym}
use Rattle.cedar_data.specs.Maps.{IsSortedMap, map_values}
use Rattle.cedar_names.specs.Annotating.{annotation_entries, any_cmp}
use Rattle.cedar_names.specs.Identifiers.{any_word, unreserved_word}
use Rattle.cedar_names.specs.declared.annotation.Annotation.{Annotation}
use Rattle.cedar_names.specs.declared.annotation.Annotations.{Annotations}
use Rattle.cedar_names.specs.declared.any_id.AnyId.{AnyId}
use Rattle.cedar_names.specs.declared.id.UnreservedId.{UnreservedId}
use Rattle.cedar_written.specs.Possibilities.{written}
use Rattle.cedar_written.specs.declared.raw_name.RawName.{RawName}
use Rattle.cedar_json_types.specs.Parts.{AreAnnotations, Identifies, IdentifiesAny, IsAnnotation, IsName, Names, NoAnnotations}
use Rattle.cedar_json_types.specs.Shapes.{ArrayOf, Entry, MapOf, MayHave, OrAbsent}
use Rattle.cedar_json_write.specs.Written.{Field, annotation_json, annotations_json, if_any, name_json, name_text, names_json, notes, object_of}
use Rattle.cedar_json_written_laws.specs.Unplaced.{annotations_unplaced, name_unplaced, note_unplaced}
use Rattle.cedar_json_written_laws.specs.Writable.{InOrder}
use Rattle.cedar_json_written_laws.proofs.Fields.{field_at, may_have_field, not_before}
use Rattle.cedar_json_written_laws.proofs.Ordered.{AllWritten, array_written, map_written}
use Rattle.cedar_json_written_laws.proofs.Texts.{any_known, name_read, unreserved_known}

-- ---- names

pub names_written : (n : RawName) → Names (name_text n) (name_unplaced n)
names_written n = let read = name_read (written n).namespace (written n).basename in (read.0, read.1, refl)

pub name_written : (n : RawName) → IsName (name_json n) (name_unplaced n)
name_written n = (name_text n, refl, names_written n)

pub list_written : (ns : List RawName) → ArrayOf IsName (names_json ns) (map name_unplaced ns)
list_written = array_written name_json name_unplaced IsName name_written

pub id_written : (id : UnreservedId) → Identifies (unreserved_word id) id
id_written id = (unreserved_known id, refl)

-- ---- annotations

all_notes : (es : List (AnyId × Annotation)) → AllWritten any_word annotation_json note_unplaced (Entry IdentifiesAny IsAnnotation) es
all_notes [] = tt
all_notes (e ∷ es) = (((any_known e.0, refl), (refl, refl)), all_notes es)

annotations_written : (es : List (AnyId × Annotation)) → IsSortedMap any_cmp es → MapOf any_cmp (Entry IdentifiesAny IsAnnotation) (annotations_json es) (map_values note_unplaced es)
annotations_written es sorted = map_written any_word annotation_json note_unplaced (Entry IdentifiesAny IsAnnotation) es sorted (all_notes es)

-- annotations are written where there are some
notes_at : (es : List (AnyId × Annotation)) (a : Annotations) → annotation_entries a ≡ map_values note_unplaced es → IsSortedMap any_cmp es
    → OrAbsent NoAnnotations AreAnnotations (field_at (codes "annotations") (if_any (codes "annotations") annotations_json es)) a
notes_at [] a is sorted = is
notes_at (e ∷ es) a is sorted = subst (λ m. MapOf any_cmp (Entry IdentifiesAny IsAnnotation) (annotations_json (e ∷ es)) m) (sym is) (annotations_written (e ∷ es) sorted)

-- behind fields none of which is at their key
pub noted : (fs : List Field) (a : Annotations) → field_at (codes "annotations") fs ≡ None → InOrder a
    → MayHave (codes "annotations") NoAnnotations AreAnnotations (object_of (fs ++ notes a)) (annotations_unplaced a)
noted fs a none sorted =
    may_have_field AreAnnotations (codes "annotations") NoAnnotations (fs ++ notes a) (field_at (codes "annotations") (notes a)) (annotations_unplaced a)
    (not_before (codes "annotations") fs (notes a) none) (notes_at (annotation_entries a) (annotations_unplaced a) refl sorted)
