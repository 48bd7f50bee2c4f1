-- SPDX-License-Identifier: Apache-2.0
-- Types as the human syntax writes them: a list of tokens with blanks between them.
use Rattle.std.specs.Prelude.{ℕ, Bool, true, false, List, [], ◌∷◌, ◌++◌, codes}
use Rattle.cedar_print.specs.of_names.Identifiers.{unreserved_word}
use Rattle.cedar_print.specs.Annotations.{annotations_pieces}
use Rattle.cedar_print.specs.Pieces.{Pieces, word, mark, quoted, blank, space, named, separated}
use Rattle.cedar_written.specs.declared.ty.SchemaType.{SchemaType, fold-SchemaType}
use Rattle.cedar_written.specs.declared.ty.SchemaType.TheOpen as layer
use Rattle.cedar_written.specs.declared.ty.SchemaType.TheOpen.{SchemaType-F, TypeVariant-F, RecordType-F, TypeOfAttribute-F}
use Rattle.cedar_written.specs.declared.ty.TypeVariant.{TypeVariant, fold-TypeVariant}
use Rattle.cedar_written.specs.declared.ty.RecordType.{RecordType, fold-RecordType}
use Rattle.cedar_written.specs.declared.ty.TypeOfAttribute.{TypeOfAttribute, fold-TypeOfAttribute}

-- what is written of an attribute of this name
abbrev pub OfAttribute : Type 0 → Type 0
OfAttribute N = List ℕ → Pieces N

module _ {N : Type 0} where
  -- a type that every schema has
  abbrev pub builtin : List ℕ → Pieces N
  builtin id = word (codes "__cedar") ∷ mark (codes "::") ∷ word id ∷ []

  -- a comma behind an attribute, and the end of the line
  abbrev pub next_line : Pieces N
  next_line = mark (codes ",") ∷ blank (codes " \n") ∷ []

  -- `?` where not each record has the attribute
  abbrev pub optional_mark : Bool → Pieces N
  optional_mark true = []
  optional_mark false = mark (codes "?") ∷ []

  -- the type of sets of these elements, what stands before them and what stands behind
  abbrev pub set_head : Pieces N
  set_head = word (codes "Set") ∷ space ∷ mark (codes "<") ∷ space ∷ []

  abbrev pub set_end : Pieces N
  set_end = space ∷ mark (codes ">") ∷ []

  abbrev pub set_printed : Pieces N → Pieces N
  set_printed element = set_head ++ (element ++ set_end)

  -- what is written of an attribute with its name
  abbrev pub with_name : List ℕ × OfAttribute N → Pieces N
  with_name e = e.1 e.0

  -- attributes in braces, with a comma and the end of a line between them
  abbrev pub attributes_printed : List (List ℕ × OfAttribute N) → Pieces N
  attributes_printed es = mark (codes "{") ∷ (separated next_line with_name es ++ mark (codes "}") ∷ [])

  abbrev pub type_printed : SchemaType-F N (Pieces N) (Pieces N) (Pieces N) (OfAttribute N) → Pieces N
  type_printed (layer.Variant ty loc) = ty
  type_printed (layer.CommonTypeRef n loc) = named n

  abbrev pub variant_printed : TypeVariant-F N (Pieces N) (Pieces N) (Pieces N) (OfAttribute N) → Pieces N
  variant_printed layer.String = builtin (codes "String")
  variant_printed layer.Long = builtin (codes "Long")
  variant_printed layer.Boolean = builtin (codes "Bool")
  variant_printed (layer.Set element) = set_printed element
  variant_printed (layer.Record fields) = fields
  variant_printed (layer.Entity n) = named n
  variant_printed (layer.EntityOrCommon n) = named n
  variant_printed (layer.Extension id) = builtin (unreserved_word id)

  abbrev pub record_printed : RecordType-F N (Pieces N) (Pieces N) (Pieces N) (OfAttribute N) → Pieces N
  record_printed r = attributes_printed r.attributes

  -- the name of an attribute, with what stands before its type
  abbrev pub name_printed : List ℕ → Bool → Pieces N
  name_printed id required = quoted id ∷ (optional_mark required ++ mark (codes ":") ∷ space ∷ [])

  abbrev pub attribute_printed : TypeOfAttribute-F N (Pieces N) (Pieces N) (Pieces N) (OfAttribute N) → OfAttribute N
  attribute_printed a id = annotations_pieces a.annotations ++ (name_printed id a.required ++ a.ty)

  -- a type
  abbrev pub print_type : SchemaType N → Pieces N
  print_type = fold-SchemaType N (Pieces N) (Pieces N) (Pieces N) (OfAttribute N) type_printed variant_printed record_printed attribute_printed

  -- what kind of type it is
  abbrev pub print_variant : TypeVariant N → Pieces N
  print_variant = fold-TypeVariant N (Pieces N) (Pieces N) (Pieces N) (OfAttribute N) type_printed variant_printed record_printed attribute_printed

  -- a record type
  abbrev pub print_record : RecordType N → Pieces N
  print_record = fold-RecordType N (Pieces N) (Pieces N) (Pieces N) (OfAttribute N) type_printed variant_printed record_printed attribute_printed

  -- an attribute of this name: its annotations, its name, whether it is optional, its type
  abbrev pub print_attribute : TypeOfAttribute N → List ℕ → Pieces N
  print_attribute = fold-TypeOfAttribute N (Pieces N) (Pieces N) (Pieces N) (OfAttribute N) type_printed variant_printed record_printed attribute_printed
