-- SPDX-License-Identifier: Apache-2.0
-- What is printed of a type is what is printed of it as it is seen.
use Rattle.std.proofs.Common.{◌≡◌, ℕ, Bool, true, false, List, [], ◌∷◌, ◌++◌, codes, Option, refl, sym, ap, ◌∙◌}
use Rattle.std.specs.List.{AllByRecursion}
use Rattle.cedar_data.specs.Maps.{map_values}
use Rattle.cedar_text.specs.declared.location.Loc.{Loc}
use Rattle.cedar_names.specs.declared.annotation.Annotations.{Annotations}
use Rattle.cedar_names.specs.declared.id.UnreservedId.{UnreservedId}
use Rattle.cedar_print.specs.Annotations.{annotations_pieces}
use Rattle.cedar_print.specs.Pieces.{Pieces, following, mark, separated}
use Rattle.cedar_written.proofs.TypeFolds.{fold-Boolean, fold-CommonTypeRef, fold-Entity, fold-EntityOrCommon, fold-Extension, fold-Long, fold-Record, fold-Set, fold-String, fold-Variant, fold-attribute_of, fold-record_of}
use Rattle.cedar_written.proofs.TypeInduction as made
use Rattle.cedar_written.proofs.TypeInduction.{attribute_of, by_cases}
use Rattle.cedar_written.specs.Printed.{OfAttribute, attribute_printed, name_printed, next_line, print_attribute, print_record, print_type, print_variant, record_printed, set_end, set_head, type_printed, variant_printed, with_name}
use Rattle.cedar_written.specs.declared.raw_name.RawName.{RawName}
use Rattle.cedar_written.specs.declared.ty.RecordType.{RecordType}
use Rattle.cedar_written.specs.declared.ty.SchemaType.{SchemaType}
use Rattle.cedar_written.specs.declared.ty.SchemaType.TheVariants as type
use Rattle.cedar_written.specs.declared.ty.TypeOfAttribute.{TypeOfAttribute}
use Rattle.cedar_written.specs.declared.ty.TypeVariant.{TypeVariant}
use Rattle.cedar_written.specs.declared.ty.TypeVariant.TheVariants as variant
use Rattle.cedar_convert_fragment.specs.Fragments.{FieldAt, fields}
use Rattle.cedar_convert_fragment.specs.Views.{attribute_seen, form_seen, record_seen, see_attribute, see_form, see_record, see_type, type_seen}
use Rattle.cedar_seen_laws.proofs.SeenPieces.{Words, attribute_pieces, fields_pieces, form_pieces, further_pieces, type_pieces, worded}
use Rattle.cedar_seen_laws.proofs.Worded.{notes_worded, worded_before}

-- an attribute, whatever its name
abbrev IsPrinted : OfAttribute RawName → FieldAt → Type 0
IsPrinted parts a = (id : List ℕ) → worded (parts id) ≡ attribute_pieces id a

abbrev P1 : SchemaType RawName → Type 0
P1 t = worded (print_type t) ≡ type_pieces (type_seen t)

abbrev P2 : TypeVariant RawName → Type 0
P2 v = worded (print_variant v) ≡ form_pieces (form_seen v)

abbrev P3 : RecordType RawName → Type 0
P3 r = worded (print_record r) ≡ form_pieces (record_seen r)

abbrev P4 : TypeOfAttribute RawName → Type 0
P4 a = IsPrinted (print_attribute a) (attribute_seen a)

variant_same : (v : TypeVariant RawName) (loc : Option Loc) → P2 v → P1 (type.Variant v loc)
variant_same v loc same =
    ap worded (fold-Variant type_printed variant_printed record_printed attribute_printed v loc) ∙ same ∙ sym (ap type_pieces (fold-Variant see_type see_form see_record see_attribute v loc))

common_same : (name : RawName) (loc : Option Loc) → P1 (type.CommonTypeRef name loc)
common_same name loc =
    ap worded (fold-CommonTypeRef type_printed variant_printed record_printed attribute_printed name loc) ∙ sym (ap type_pieces (fold-CommonTypeRef see_type see_form see_record see_attribute name loc))

string_same : P2 variant.String
string_same = ap worded (fold-String type_printed variant_printed record_printed attribute_printed) ∙ sym (ap form_pieces (fold-String see_type see_form see_record see_attribute))

long_same : P2 variant.Long
long_same = ap worded (fold-Long type_printed variant_printed record_printed attribute_printed) ∙ sym (ap form_pieces (fold-Long see_type see_form see_record see_attribute))

boolean_same : P2 variant.Boolean
boolean_same = ap worded (fold-Boolean type_printed variant_printed record_printed attribute_printed) ∙ sym (ap form_pieces (fold-Boolean see_type see_form see_record see_attribute))

set_same : (t : SchemaType RawName) → P1 t → P2 (variant.Set t)
set_same t same =
    ap worded (fold-Set type_printed variant_printed record_printed attribute_printed t)
    ∙ worded_before set_head (print_type t ++ set_end) set_head (type_pieces (type_seen t) ++ set_end) refl (worded_before (print_type t) set_end (type_pieces (type_seen t)) set_end same refl)
    ∙ sym (ap form_pieces (fold-Set see_type see_form see_record see_attribute t))

record_same : (r : RecordType RawName) → P3 r → P2 (variant.Record r)
record_same r same =
    ap worded (fold-Record type_printed variant_printed record_printed attribute_printed r) ∙ same ∙ sym (ap form_pieces (fold-Record see_type see_form see_record see_attribute r))

entity_same : (name : RawName) → P2 (variant.Entity name)
entity_same name = ap worded (fold-Entity type_printed variant_printed record_printed attribute_printed name) ∙ sym (ap form_pieces (fold-Entity see_type see_form see_record see_attribute name))

either_same : (name : RawName) → P2 (variant.EntityOrCommon name)
either_same name =
    ap worded (fold-EntityOrCommon type_printed variant_printed record_printed attribute_printed name) ∙ sym (ap form_pieces (fold-EntityOrCommon see_type see_form see_record see_attribute name))

extension_same : (id : UnreservedId) → P2 (variant.Extension id)
extension_same id = ap worded (fold-Extension type_printed variant_printed record_printed attribute_printed id) ∙ sym (ap form_pieces (fold-Extension see_type see_form see_record see_attribute id))

-- ---- records

abbrev All : List (List ℕ × TypeOfAttribute RawName) → Type 0
All es = AllByRecursion {X = List ℕ × TypeOfAttribute RawName} (λ e. P4 e.1) es

further_same : (es : List (List ℕ × TypeOfAttribute RawName)) → All es
    → worded (following next_line with_name (map_values print_attribute es)) ≡ further_pieces (fields (map_values attribute_seen es))
further_same [] all = refl
further_same (e ∷ es) all =
    worded_before (next_line ++ print_attribute e.1 e.0) (following next_line with_name (map_values print_attribute es)) (next_line ++ attribute_pieces e.0 (attribute_seen e.1)) (further_pieces (fields (map_values attribute_seen es)))
    (worded_before next_line (print_attribute e.1 e.0) next_line (attribute_pieces e.0 (attribute_seen e.1)) refl (all.0 e.0)) (further_same es all.1)

each_same : (es : List (List ℕ × TypeOfAttribute RawName)) → All es → worded (separated next_line with_name (map_values print_attribute es)) ≡ fields_pieces (fields (map_values attribute_seen es))
each_same [] all = refl
each_same (e ∷ es) all =
    worded_before (print_attribute e.1 e.0) (following next_line with_name (map_values print_attribute es)) (attribute_pieces e.0 (attribute_seen e.1)) (further_pieces (fields (map_values attribute_seen es)))
    (all.0 e.0) (further_same es all.1)

attributes_same : (es : List (List ℕ × TypeOfAttribute RawName)) (additional : Bool) → All es → P3 (made.record_of es additional)
attributes_same es additional all =
    ap worded (fold-record_of type_printed variant_printed record_printed attribute_printed es additional)
    ∙ ap (λ (ps : Pieces Words). mark (codes "{") ∷ ps)
    (worded_before (separated next_line with_name (map_values print_attribute es)) (mark (codes "}") ∷ []) (fields_pieces (fields (map_values attribute_seen es))) (mark (codes "}") ∷ []) (each_same es all) refl)
    ∙ sym (ap form_pieces (fold-record_of see_type see_form see_record see_attribute es additional))

name_same : (id : List ℕ) (required : Bool) → worded (name_printed id required) ≡ name_printed id required
name_same id true = refl
name_same id false = refl

attribute_same : (t : SchemaType RawName) (annotations : Annotations) (required : Bool) → P1 t → P4 (attribute_of t annotations required)
attribute_same t annotations required same id =
    ap (λ (parts : OfAttribute RawName). worded (parts id)) (fold-attribute_of type_printed variant_printed record_printed attribute_printed t annotations required)
    ∙ worded_before (annotations_pieces annotations) (name_printed id required ++ print_type t) _ _ (notes_worded annotations)
    (worded_before (name_printed id required) (print_type t) _ _ (name_same id required) same)
    ∙ sym (ap (attribute_pieces id) (fold-attribute_of see_type see_form see_record see_attribute t annotations required))

pub type_worded : (t : SchemaType RawName) → worded (print_type t) ≡ type_pieces (type_seen t)
type_worded = by_cases P1 P2 P3 P4 (record {
  of_variant = variant_same;
  of_common = common_same;
  of_string = string_same;
  of_long = long_same;
  of_boolean = boolean_same;
  of_set = set_same;
  of_record = record_same;
  of_entity = entity_same;
  of_entity_or_common = either_same;
  of_extension = extension_same;
  of_attributes = attributes_same;
  of_attribute = attribute_same;
})
