-- SPDX-License-Identifier: Apache-2.0
-- Attributes that stand a second time in their record, at any depth of a type.
use Rattle.std.specs.Prelude.{List, [], ◌∷◌, ◌++◌, map, Option, None, option_to_list}
use Rattle.std.specs.Option.{option_or}
use Rattle.cedar_tree.specs.Trees.{TypeTree, Set, Ident, Record, Attrs, no_attrs, attr, ContextDecl, Named, Shape}
use Rattle.cedar_convert_errors.specs.declared.faults.ToJsonSchemaError.{ToJsonSchemaError}
use Rattle.cedar_convert_errors.specs.declared.faults.ToJsonSchemaError.TheVariants.{DuplicateAttribute}
use Rattle.cedar_convert_faults.specs.Repeats.{Names, place_of, repeat_or}
use Rattle.cedar_convert_faults.specs.declared.repeats.Repeat.{Repeat}

-- the leftmost attribute that an earlier attribute of the same record has as its name, with the place of the first such
abbrev mutual
  pub leftmost_repeat : TypeTree → Option Repeat
  leftmost_repeat (Set element place) = leftmost_repeat element
  leftmost_repeat (Ident name) = None
  leftmost_repeat (Record attrs) = repeat_among attrs []

  -- the same of attributes, some names of the record being before
  pub repeat_among : Attrs → Names → Option Repeat
  repeat_among no_attrs seen = None
  repeat_among (attr annotations name required ty place own others) seen =
      repeat_or (place_of seen name.node) name (option_or (leftmost_repeat ty) (repeat_among others (seen ++ name ∷ [])))

-- the same of a context or a shape
abbrev pub shape_repeat : ContextDecl → Option Repeat
shape_repeat (Named path) = None
shape_repeat (Shape attrs) = leftmost_repeat (Record attrs.node)

-- an attribute that stands twice in a record
abbrev pub twice_in_record : Repeat → ToJsonSchemaError
twice_in_record r = DuplicateAttribute (record { name = r.name; loc1 = r.first; loc2 = r.second })

-- the fault of a repeat, if there is one
abbrev pub repeat_fault : Option Repeat → List ToJsonSchemaError
repeat_fault repeat = map twice_in_record (option_to_list repeat)
