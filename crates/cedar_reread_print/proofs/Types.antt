-- SPDX-License-Identifier: Apache-2.0
-- What a printed type says is what the type says, and its pieces stand apart.
use Rattle.std.proofs.Common.{◌≡◌, ℕ, Bool, true, false, List, [], ◌∷◌, ◌++◌, codes, Option, refl, sym, ap, ◌∙◌, subst, inl, inr, append_assoc}
use Rattle.std.specs.List.{AllByRecursion}
use Rattle.cedar_data.specs.Maps.{map_values}
use Rattle.cedar_text.specs.Words.{is_word}
use Rattle.cedar_text.specs.declared.location.Loc.{Loc}
use Rattle.cedar_names.specs.Identifiers.{unreserved_word}
use Rattle.cedar_names.specs.declared.annotation.Annotations.{Annotations}
use Rattle.cedar_names.specs.declared.id.UnreservedId.{UnreservedId}
use Rattle.cedar_print.specs.Annotations.{annotations_pieces}
use Rattle.cedar_print.specs.Pieces.{Pieces, mark, separated, following}
use Rattle.cedar_print_laws.specs.Apart.{IsBlank}
use Rattle.cedar_tree.specs.Meanings.{annotations_tree}
use Rattle.cedar_written.proofs.TypeFolds.{fold-Boolean, fold-CommonTypeRef, fold-Entity, fold-EntityOrCommon, fold-Extension, fold-Long, fold-Record, fold-Set, fold-String, fold-Variant, fold-attribute_of, fold-record_of}
use Rattle.cedar_written.proofs.TypeInduction as made
use Rattle.cedar_written.proofs.TypeInduction.{attribute_of, by_cases}
use Rattle.cedar_written.specs.Printed.{OfAttribute, attribute_printed, attributes_printed, builtin, name_printed, next_line, print_attribute, print_record, print_type, print_variant, record_printed, set_end, set_head, type_printed, variant_printed, with_name}
use Rattle.cedar_written.specs.declared.raw_name.RawName.{RawName}
use Rattle.cedar_written.specs.declared.ty.RecordType.{RecordType}
use Rattle.cedar_written.specs.declared.ty.SchemaType.{SchemaType}
use Rattle.cedar_written.specs.declared.ty.SchemaType.TheVariants as type
use Rattle.cedar_written.specs.declared.ty.TypeOfAttribute.{TypeOfAttribute}
use Rattle.cedar_written.specs.declared.ty.TypeVariant.{TypeVariant}
use Rattle.cedar_written.specs.declared.ty.TypeVariant.TheVariants as variant
use Rattle.cedar_convert_fragment.specs.Fragments.{FieldAt, Form, TypeAt, fields}
use Rattle.cedar_convert_fragment.specs.Views.{attribute_seen, form_seen, record_seen, see_attribute, see_form, see_record, see_type, type_seen}
use Rattle.cedar_reread.specs.Said.{Tokens, mark_token, said_annotations, said_attribute, said_fields, said_form, said_optional, said_others, said_type, str_token, word_token}
use Rattle.cedar_reread_print.specs.Spoken.{say}
use Rattle.cedar_reread_print.proofs.Ends.{Ends, annotations_lines, ends_before, lines_before, loosen, named_ends, one_blank, separated_end}
use Rattle.cedar_reread_print.proofs.Names.{id_is_word, unreserved_identifier}
use Rattle.cedar_reread_print.proofs.Pieces.{annotations_said, named_said, said_before}

-- pieces of these tokens that stand apart
abbrev pub Prints : Pieces RawName → Tokens → Type 0
Prints ps ts = (say ps ≡ ts) × Ends ps

-- the same of an attribute, whatever its name
abbrev PrintsAttribute : OfAttribute RawName → FieldAt → Type 0
PrintsAttribute parts a = (id : List ℕ) → Prints (parts id) (said_attribute a.annotations id a.required (said_type a.ty))

abbrev P1 : SchemaType RawName → Type 0
P1 t = Prints (print_type t) (said_type (type_seen t))

abbrev P2 : TypeVariant RawName → Type 0
P2 v = Prints (print_variant v) (said_form (form_seen v))

abbrev P3 : RecordType RawName → Type 0
P3 r = Prints (print_record r) (said_form (record_seen r))

abbrev P4 : TypeOfAttribute RawName → Type 0
P4 a = PrintsAttribute (print_attribute a) (attribute_seen a)

-- what is printed and what is said, by the equations of both
by_type : (t : SchemaType RawName) (ps : Pieces RawName) (seen : TypeAt) → print_type t ≡ ps → type_seen t ≡ seen → Prints ps (said_type seen) → P1 t
by_type t ps seen printed is prints = subst (λ l. Prints l (said_type (type_seen t))) (sym printed) (subst (λ s. Prints ps (said_type s)) (sym is) prints)

by_form : (v : TypeVariant RawName) (ps : Pieces RawName) (seen : Form) → print_variant v ≡ ps → form_seen v ≡ seen → Prints ps (said_form seen) → P2 v
by_form v ps seen printed is prints = subst (λ l. Prints l (said_form (form_seen v))) (sym printed) (subst (λ s. Prints ps (said_form s)) (sym is) prints)

variant_prints : (v : TypeVariant RawName) (loc : Option Loc) → P2 v → P1 (type.Variant v loc)
variant_prints v loc is = by_type (type.Variant v loc) _ _ (fold-Variant type_printed variant_printed record_printed attribute_printed v loc) (fold-Variant see_type see_form see_record see_attribute v loc) is

common_prints : (name : RawName) (loc : Option Loc) → P1 (type.CommonTypeRef name loc)
common_prints name loc =
    by_type (type.CommonTypeRef name loc) _ _ (fold-CommonTypeRef type_printed variant_printed record_printed attribute_printed name loc) (fold-CommonTypeRef see_type see_form see_record see_attribute name loc)
    (named_said name, named_ends name)

-- ---- types that every schema has

builtin_ends : (id : List ℕ) → is_word id ≡ true → Ends (builtin id)
builtin_ends id is rest apart = (tt, refl, (tt, inl refl, (tt, is, apart)))

string_prints : P2 variant.String
string_prints =
    by_form variant.String _ _ (fold-String type_printed variant_printed record_printed attribute_printed) (fold-String see_type see_form see_record see_attribute)
    (refl, builtin_ends (codes "String") refl)

long_prints : P2 variant.Long
long_prints =
    by_form variant.Long _ _ (fold-Long type_printed variant_printed record_printed attribute_printed) (fold-Long see_type see_form see_record see_attribute)
    (refl, builtin_ends (codes "Long") refl)

boolean_prints : P2 variant.Boolean
boolean_prints =
    by_form variant.Boolean _ _ (fold-Boolean type_printed variant_printed record_printed attribute_printed) (fold-Boolean see_type see_form see_record see_attribute)
    (refl, builtin_ends (codes "Bool") refl)

extension_prints : (id : UnreservedId) → P2 (variant.Extension id)
extension_prints id =
    by_form (variant.Extension id) _ _ (fold-Extension type_printed variant_printed record_printed attribute_printed id) (fold-Extension see_type see_form see_record see_attribute id)
    (refl, builtin_ends (unreserved_word id) (id_is_word (unreserved_word id) (unreserved_identifier id)))

-- ---- names, sets, records

entity_prints : (name : RawName) → P2 (variant.Entity name)
entity_prints name =
    by_form (variant.Entity name) _ _ (fold-Entity type_printed variant_printed record_printed attribute_printed name) (fold-Entity see_type see_form see_record see_attribute name)
    (named_said name, named_ends name)

either_prints : (name : RawName) → P2 (variant.EntityOrCommon name)
either_prints name =
    by_form (variant.EntityOrCommon name) _ _ (fold-EntityOrCommon type_printed variant_printed record_printed attribute_printed name) (fold-EntityOrCommon see_type see_form see_record see_attribute name)
    (named_said name, named_ends name)

set_prints : (t : SchemaType RawName) → P1 t → P2 (variant.Set t)
set_prints t is =
    by_form (variant.Set t) _ _ (fold-Set type_printed variant_printed record_printed attribute_printed t) (fold-Set see_type see_form see_record see_attribute t)
    (ap (λ (ts : Tokens). word_token (codes "Set") ∷ mark_token (codes "<") ∷ ts) (said_before (print_type t) set_end (said_type (type_seen t)) (mark_token (codes ">") ∷ []) is.0 refl), ends)
  where
    ends : Ends (set_head ++ (print_type t ++ set_end))
    ends rest apart = (
      tt,
      refl,
      (
        one_blank,
        (
          tt,
          inr (60, refl, refl),
          (
            one_blank,
            ends_before (print_type t) set_end is.1 (λ more behind. (one_blank, (tt, inr (62, refl, refl), loosen more behind))) rest apart,
          ),
        ),
      ),
    )

record_prints : (r : RecordType RawName) → P3 r → P2 (variant.Record r)
record_prints r is =
    by_form (variant.Record r) _ _ (fold-Record type_printed variant_printed record_printed attribute_printed r) (fold-Record see_type see_form see_record see_attribute r) is

-- ---- attributes

another_line : IsBlank (codes " \n")
another_line = (λ e. cc, refl)

module _ (t : SchemaType RawName) (annotations : Annotations) (required : Bool) (is : P1 t) where
  name_said : (id : List ℕ) (required : Bool) → say (name_printed id required) ≡ str_token id ∷ (said_optional required ++ mark_token (codes ":") ∷ [])
  name_said id true = refl
  name_said id false = refl

  name_type_end : (id : List ℕ) (required : Bool) → Ends (name_printed id required ++ print_type t)
  name_type_end id true rest apart = (tt, (tt, inr (58, refl, refl), (one_blank, is.1 rest apart)))
  name_type_end id false rest apart = (tt, (tt, inr (63, refl, refl), (tt, inr (58, refl, refl), (one_blank, is.1 rest apart))))

  name_type_said : (id : List ℕ) (required : Bool) → say (name_printed id required ++ print_type t) ≡ str_token id ∷ (said_optional required ++ mark_token (codes ":") ∷ said_type (type_seen t))
  name_type_said id true = ap (λ (ts : Tokens). str_token id ∷ mark_token (codes ":") ∷ ts) is.0
  name_type_said id false = ap (λ (ts : Tokens). str_token id ∷ mark_token (codes "?") ∷ mark_token (codes ":") ∷ ts) is.0

  attribute_prints : P4 (attribute_of t annotations required)
  attribute_prints id =
      subst (λ (parts : OfAttribute RawName). Prints (parts id) (said (attribute_seen (attribute_of t annotations required)))) (sym (fold-attribute_of type_printed variant_printed record_printed attribute_printed t annotations required))
      (subst (λ (a : FieldAt). Prints (attribute_printed (record { ty = print_type t; annotations = annotations; required = required }) id) (said a)) (sym (fold-attribute_of see_type see_form see_record see_attribute t annotations required)) (
        said_before (annotations_pieces annotations) (name_printed id required ++ print_type t) (said_annotations (annotations_tree annotations)) _ (annotations_said annotations) (name_type_said id required),
        lines_before (annotations_pieces annotations) (name_printed id required ++ print_type t) (annotations_lines annotations) (name_type_end id required),
      ))
    where
      said : FieldAt → Tokens
      said a = said_attribute a.annotations id a.required (said_type a.ty)

-- ---- attributes by name

-- what stands behind an attribute
attribute_more : (a : FieldAt) (id : List ℕ) (more : Tokens) → said_attribute a.annotations id a.required (said_type a.ty) ++ more ≡ said_attribute a.annotations id a.required (said_type a.ty ++ more)
attribute_more a id more =
    append_assoc (said_annotations a.annotations) (str_token id ∷ (said_optional a.required ++ mark_token (codes ":") ∷ said_type a.ty)) more
    ∙ ap (λ (ts : Tokens). said_annotations a.annotations ++ str_token id ∷ ts) (append_assoc (said_optional a.required) (mark_token (codes ":") ∷ said_type a.ty) more)

abbrev Attributes : Type 0
Attributes = List (List ℕ × TypeOfAttribute RawName)

abbrev All : Attributes → Type 0
All es = AllByRecursion {X = List ℕ × TypeOfAttribute RawName} (λ e. P4 e.1) es

first_said : (e : List ℕ × TypeOfAttribute RawName) (ps : Pieces RawName) (more : Tokens) → P4 e.1 → say ps ≡ more
    → say (print_attribute e.1 e.0 ++ ps) ≡ said_attribute (attribute_seen e.1).annotations e.0 (attribute_seen e.1).required (said_type (attribute_seen e.1).ty ++ more)
first_said e ps more is others =
    said_before (print_attribute e.1 e.0) ps _ more (is e.0).0 others ∙ attribute_more (attribute_seen e.1) e.0 more

others_said : (es : Attributes) → All es → say (following next_line with_name (map_values print_attribute es)) ≡ said_others (fields (map_values attribute_seen es))
others_said [] all = refl
others_said (e ∷ es) all =
    ap (λ (ts : Tokens). mark_token (codes ",") ∷ ts) (first_said e (following next_line with_name (map_values print_attribute es)) (said_others (fields (map_values attribute_seen es))) all.0 (others_said es all.1))

each_said : (es : Attributes) → All es → say (separated next_line with_name (map_values print_attribute es)) ≡ said_fields (fields (map_values attribute_seen es))
each_said [] all = refl
each_said (e ∷ es) all = first_said e (following next_line with_name (map_values print_attribute es)) (said_others (fields (map_values attribute_seen es))) all.0 (others_said es all.1)

each_ends : (es : Attributes) → All es → AllByRecursion {X = List ℕ × OfAttribute RawName} (λ e. Ends (with_name e)) (map_values print_attribute es)
each_ends [] all = tt
each_ends (e ∷ es) all = ((all.0 e.0).1, each_ends es all.1)

attributes_print : (es : Attributes) (additional : Bool) → All es → P3 (made.record_of es additional)
attributes_print es additional all =
    subst (λ (l : Pieces RawName). Prints l (said_form (record_seen (made.record_of es additional)))) (sym (fold-record_of type_printed variant_printed record_printed attribute_printed es additional))
    (subst (λ (f : Form). Prints (attributes_printed (map_values print_attribute es)) (said_form f)) (sym (fold-record_of see_type see_form see_record see_attribute es additional))
    (ap (λ (ts : Tokens). mark_token (codes "{") ∷ ts) (said_before attributes (mark (codes "}") ∷ []) (said_fields (fields (map_values attribute_seen es))) (mark_token (codes "}") ∷ []) (each_said es all) refl), ends))
  where
    attributes : Pieces RawName
    attributes = separated next_line with_name (map_values print_attribute es)

    ends : Ends (attributes_printed (map_values print_attribute es))
    ends rest apart = (
      tt,
      inr (123, refl, refl),
      ends_before attributes (mark (codes "}") ∷ []) (separated_end with_name (codes " \n") another_line (map_values print_attribute es) (each_ends es all))
          (λ more behind. (tt, inr (125, refl, refl), loosen more behind)) rest apart,
    )

-- a type
pub type_prints : (t : SchemaType RawName) → Prints (print_type t) (said_type (type_seen t))
type_prints = by_cases P1 P2 P3 P4 (record {
  of_variant = variant_prints;
  of_common = common_prints;
  of_string = string_prints;
  of_long = long_prints;
  of_boolean = boolean_prints;
  of_set = set_prints;
  of_record = record_prints;
  of_entity = entity_prints;
  of_entity_or_common = either_prints;
  of_extension = extension_prints;
  of_attributes = attributes_print;
  of_attribute = attribute_prints;
})
