-- SPDX-License-Identifier: Apache-2.0
-- What printed types are made of, and which parts hold no names.
use Rattle.std.proofs.Common.{◌≡◌, ℕ, Bool, true, false, List, ◌++◌, Option, refl, ap}
use Rattle.cedar_print.specs.of_data.Maps.{map_values}
use Rattle.cedar_print.specs.Annotations.{annotations_pieces, nameless}
use Rattle.cedar_print.specs.Pieces.{Pieces, text_of, unless_first}
use Rattle.cedar_written.specs.Printed.{OfAttribute, attribute_printed, attributes_printed, name_printed, next_line, print_attribute, print_record, print_type, record_printed, type_printed, variant_printed}
use Rattle.cedar_written.specs.declared.ty.RecordType.{RecordType, out-RecordType, fold_out-RecordType}
use Rattle.cedar_written.specs.declared.ty.TypeOfAttribute.{TypeOfAttribute, out-TypeOfAttribute, fold_out-TypeOfAttribute}

module _ {N : Type 0} where
  -- a record by its attributes
  pub print_record-is : (r : RecordType N) → print_record r ≡ attributes_printed (map_values print_attribute (out-RecordType N r).attributes)
  print_record-is r = fold_out-RecordType N (Pieces N) (Pieces N) (Pieces N) (OfAttribute N) type_printed variant_printed record_printed attribute_printed r

  -- an attribute by its parts
  pub print_attribute-is : (a : TypeOfAttribute N) (id : List ℕ) → print_attribute a id
      ≡ annotations_pieces (out-TypeOfAttribute N a).annotations ++ (name_printed id (out-TypeOfAttribute N a).required ++ print_type (out-TypeOfAttribute N a).ty)
  print_attribute-is a id = ap (λ f. f id) (fold_out-TypeOfAttribute N (Pieces N) (Pieces N) (Pieces N) (OfAttribute N) type_printed variant_printed record_printed attribute_printed a)

module _ {N : Type 0} (shown : N → Option (List ℕ)) where
  pub separator-shown : (is_first : Bool) → text_of nameless (unless_first is_first next_line) ≡ text_of shown (unless_first is_first next_line)
  separator-shown true = refl
  separator-shown false = refl

  pub name-shown : (id : List ℕ) (required : Bool) → text_of nameless (name_printed id required) ≡ text_of shown (name_printed id required)
  name-shown id true = refl
  name-shown id false = refl
