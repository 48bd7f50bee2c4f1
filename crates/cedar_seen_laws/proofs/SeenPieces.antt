-- SPDX-License-Identifier: Apache-2.0
-- What is printed, by what is seen of a fragment alone. Names are their words.
use Rattle.std.specs.Prelude.{ℕ, Bool, List, [], ◌∷◌, ◌++◌, map, codes, Option, Some, None, if◌then◌else◌}
use Rattle.std.specs.List.{flat_map}
use Rattle.cedar_data.specs.Maps.{map_values}
use Rattle.cedar_names.specs.Components.{components}
use Rattle.cedar_print.specs.Pieces.{Piece, Pieces, blank, bracketed, line_end, mark, name, name_pieces, named, quoted, quoted_alone, space, word}
use Rattle.cedar_tree.specs.Trees.{ByKey, Text}
use Rattle.cedar_written.specs.Possibilities.{written as name_written}
use Rattle.cedar_written.specs.Printed.{builtin, name_printed, next_line, set_printed}
use Rattle.cedar_written.specs.declared.raw_name.RawName.{RawName}
use Rattle.cedar_fragment.specs.Printed.{closing, indented, print_parents, unless_empty}
use Rattle.cedar_convert_fragment.specs.Fragments as seen
use Rattle.cedar_convert_fragment.specs.Fragments.{ActionAt, ActionContent, AppliesTo, ByName, Declared, Definition, EntityContent, FieldAt, Form, Fragment, Listed, NameAt, Shaped, TypeAt, common_type, entity, entity_or_common, extension, field, no_fields, record_of, set_of, written}
use Rattle.cedar_reread.specs.Said.{is_empty_shape}

-- ---- pieces whose names are their words

abbrev pub Words : Type 0
Words = List (List ℕ)

abbrev pub piece_worded : Piece RawName → Piece Words
piece_worded (word text) = word text
piece_worded (mark text) = mark text
piece_worded (quoted text) = quoted text
piece_worded (name n) = name (components (name_written n))
piece_worded (blank text) = blank text

abbrev pub worded : Pieces RawName → Pieces Words
worded ps = map piece_worded ps

-- ---- names and annotations

abbrev pub name_printed_at : NameAt → Pieces Words
name_printed_at n = named n.words

abbrev pub note_pieces : List ℕ × List ℕ → Pieces Words
note_pieces e = mark (codes "@") ∷ word e.0 ∷ mark (codes "(") ∷ quoted e.1 ∷ mark (codes ")") ∷ line_end ∷ []

-- the texts of annotations at their keys
abbrev pub texts : ByKey → List (List ℕ × List ℕ)
texts notes = map_values (λ v. v.node) notes

abbrev pub notes_pieces : ByKey → Pieces Words
notes_pieces notes = flat_map note_pieces (texts notes)

-- ---- types

-- an attribute, by what is printed of its type
abbrev pub with_head : List ℕ → ByKey → Bool → Pieces Words → Pieces Words
with_head id annotations required ty = notes_pieces annotations ++ (name_printed id required ++ ty)

abbrev mutual
  pub type_pieces : TypeAt → Pieces Words
  type_pieces (written form place) = form_pieces form
  type_pieces (common_type n place) = name_printed_at n

  pub form_pieces : Form → Pieces Words
  form_pieces seen.string = builtin (codes "String")
  form_pieces seen.long = builtin (codes "Long")
  form_pieces seen.boolean = builtin (codes "Bool")
  form_pieces (set_of element) = set_printed (type_pieces element)
  form_pieces (record_of attributes others) = mark (codes "{") ∷ (fields_pieces attributes ++ mark (codes "}") ∷ [])
  form_pieces (entity n) = name_printed_at n
  form_pieces (entity_or_common n) = name_printed_at n
  form_pieces (extension id) = builtin id

  pub fields_pieces : seen.Fields → Pieces Words
  fields_pieces no_fields = []
  fields_pieces (field id ty annotations required others) = with_head id annotations required (type_pieces ty) ++ further_pieces others

  -- attributes behind another
  pub further_pieces : seen.Fields → Pieces Words
  further_pieces no_fields = []
  further_pieces (field id ty annotations required others) = (next_line ++ with_head id annotations required (type_pieces ty)) ++ further_pieces others

abbrev pub attribute_pieces : List ℕ → FieldAt → Pieces Words
attribute_pieces id a = with_head id a.annotations a.required (type_pieces a.ty)

-- ---- entity types

abbrev pub shape_pieces : TypeAt → Pieces Words
shape_pieces t = if is_empty_shape t then [] else space ∷ mark (codes "=") ∷ space ∷ type_pieces t

abbrev pub tags_pieces : Option TypeAt → Pieces Words
tags_pieces None = []
tags_pieces (Some t) = space ∷ word (codes "tags") ∷ space ∷ type_pieces t

abbrev pub content_pieces : EntityContent → Pieces Words
content_pieces (Shaped parents shape tags) = print_parents name_printed_at parents ++ (shape_pieces shape ++ tags_pieces tags)
content_pieces (Listed ids) = space ∷ word (codes "enum") ∷ space ∷ bracketed quoted_alone ids

-- ---- actions

abbrev pub context_pieces : TypeAt → Pieces Words
context_pieces t = mark (codes ",") ∷ indented ∷ word (codes "context") ∷ mark (codes ":") ∷ space ∷ (type_pieces t ++ (line_end ∷ mark (codes "}") ∷ []))

abbrev pub resources_pieces : AppliesTo → Pieces Words
resources_pieces a = mark (codes ",") ∷ indented ∷ word (codes "resource") ∷ mark (codes ":") ∷ space ∷ (bracketed name_printed_at a.resources ++ context_pieces a.context)

abbrev pub applies_pieces : AppliesTo → Pieces Words
applies_pieces a =
    space ∷ word (codes "appliesTo") ∷ space ∷ mark (codes "{") ∷ indented ∷ word (codes "principal") ∷ mark (codes ":") ∷ space
    ∷ (bracketed name_printed_at a.principals ++ resources_pieces a)

abbrev pub clause_pieces : Option AppliesTo → Pieces Words
clause_pieces None = []
clause_pieces (Some a) = unless_empty a.principals (unless_empty a.resources (applies_pieces a))

abbrev pub parent_type_pieces : Option NameAt → Pieces Words
parent_type_pieces None = word (codes "Action") ∷ []
parent_type_pieces (Some n) = name_printed_at n

abbrev pub parent_pieces : ActionAt → Pieces Words
parent_pieces u = parent_type_pieces u.ty ++ (mark (codes "::") ∷ quoted u.id ∷ [])

abbrev pub member_pieces : Option (List ActionAt) → Pieces Words
member_pieces None = []
member_pieces (Some us) = print_parents parent_pieces us

abbrev pub action_content_pieces : ActionContent → Pieces Words
action_content_pieces a = member_pieces a.member_of ++ clause_pieces a.applies_to

-- ---- declarations

abbrev pub common_pieces : List ℕ × Declared TypeAt → Pieces Words
common_pieces e =
    notes_pieces e.1.annotations ++ ((word (codes "type") ∷ space ∷ word e.0 ∷ space ∷ mark (codes "=") ∷ space ∷ []) ++ (type_pieces e.1.content ++ closing))

abbrev pub entity_pieces : List ℕ × Declared EntityContent → Pieces Words
entity_pieces e = notes_pieces e.1.annotations ++ ((word (codes "entity") ∷ space ∷ word e.0 ∷ []) ++ (content_pieces e.1.content ++ closing))

abbrev pub action_pieces : List ℕ × Declared ActionContent → Pieces Words
action_pieces e = notes_pieces e.1.annotations ++ ((word (codes "action") ∷ space ∷ quoted e.0 ∷ []) ++ (action_content_pieces e.1.content ++ closing))

-- ---- namespaces and fragments

abbrev pub declarations_pieces : ByName TypeAt → ByName EntityContent → ByName ActionContent → Pieces Words
declarations_pieces commons entities actions = flat_map common_pieces commons ++ (flat_map entity_pieces entities ++ flat_map action_pieces actions)

abbrev pub head_pieces : List Text → Pieces Words
head_pieces path = word (codes "namespace") ∷ space ∷ (name_pieces path ++ (space ∷ mark (codes "{") ∷ line_end ∷ []))

-- a namespace of this name, with the texts of its annotations, and what is printed of its declarations
abbrev pub entry_pieces : Option (List Text) → List (List ℕ × List ℕ) → Pieces Words → Pieces Words
entry_pieces None notes declared = declared
entry_pieces (Some path) notes declared = flat_map note_pieces notes ++ (head_pieces path ++ (declared ++ (mark (codes "}") ∷ line_end ∷ [])))

abbrev pub namespace_pieces : Option (List Text) × Definition → Pieces Words
namespace_pieces n = entry_pieces n.0 (texts n.1.annotations) (declarations_pieces n.1.common_types n.1.entity_types n.1.actions)

abbrev pub fragment_pieces : Fragment → Pieces Words
fragment_pieces F = flat_map namespace_pieces F
