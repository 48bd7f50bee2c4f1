-- SPDX-License-Identifier: Apache-2.0
-- The types that trees without places declare.
use Rattle.std.proofs.Common.{◌≡◌, false, List, [], ◌∷◌, map, Option, Some, option_map, refl, sym, ap, ◌∙◌}
use Rattle.cedar_data.specs.Maps.{map_of}
use Rattle.cedar_data.proofs.MapsMade.{map-map_of}
use Rattle.cedar_names.specs.Order.{word_cmp}
use Rattle.cedar_tree.specs.Trees.{Node, Place, Path, Text, TypeTree, Set, Ident, Record, Attrs, no_attrs, attr, ContextDecl, Named, Shape}
use Rattle.cedar_tree.specs.Unplaced as tree
use Rattle.cedar_tree.specs.Unplaced.{anywhere, annotations_unplaced, context_unplaced, nowhere, unplaced}
use Rattle.cedar_convert_fragment.specs.Declares.{closed, entries_of, name_of, shape_type, type_at, type_of}
use Rattle.cedar_convert_fragment.specs.Fragments.{FieldAt, field, fields, record_of, set_of, written}
use Rattle.cedar_convert_laws.specs.Unplaced.{fields_unplaced, form_unplaced, name_unplaced, type_unplaced}
use Rattle.cedar_convert_laws.proofs.Lists.{moved, moved_option}

-- an attribute without places
abbrev field_unplaced : FieldAt → FieldAt
field_unplaced f = record { ty = type_unplaced f.ty; annotations = annotations_unplaced f.annotations; required = f.required }

abbrev entries_unplaced : List (Text × FieldAt) → List (Text × FieldAt)
entries_unplaced entries = map (λ e. (e.0, field_unplaced e.1)) entries

fields_moved : (entries : List (Text × FieldAt)) → fields (entries_unplaced entries) ≡ fields_unplaced (fields entries)
fields_moved [] = refl
fields_moved (e ∷ entries) = ap (field e.0 (type_unplaced e.1.ty) (annotations_unplaced e.1.annotations) e.1.required) (fields_moved entries)

closed_moved : (entries : List (Text × FieldAt)) → closed (entries_unplaced entries) ≡ form_unplaced (closed entries)
closed_moved entries =
    ap (λ m. record_of (fields m) false) (sym (map-map_of word_cmp word_cmp (λ k. k) field_unplaced (λ a b. refl) entries))
    ∙ ap (λ fs. record_of fs false) (fields_moved (map_of word_cmp entries))

mutual
  pub type_moved : (t : TypeTree) (place : Place) → type_of (tree.type_unplaced t) nowhere ≡ type_unplaced (type_of t place)
  type_moved (Set element inner) place = ap (λ e. written (set_of e) (Some nowhere)) (type_moved element inner)
  type_moved (Ident path) place = refl
  type_moved (Record attrs) place =
      ap (λ es. written (closed es) (Some nowhere)) (entries_moved attrs) ∙ ap (λ f. written f (Some nowhere)) (closed_moved (entries_of attrs))

  entries_moved : (attrs : Attrs) → entries_of (tree.attrs_unplaced attrs) ≡ entries_unplaced (entries_of attrs)
  entries_moved no_attrs = refl
  entries_moved (attr annotations name required ty place own others) =
      λ i. (name.node, record { ty = type_moved ty place i; annotations = annotations_unplaced annotations; required = required }) ∷ entries_moved others i

pub type_at_moved : (t : Node TypeTree) → type_at (unplaced tree.type_unplaced t) ≡ type_unplaced (type_at t)
type_at_moved t = type_moved t.node t.loc

pub shape_moved : (c : ContextDecl) → shape_type (context_unplaced c) ≡ type_unplaced (shape_type c)
shape_moved (Named path) = refl
shape_moved (Shape attrs) = type_moved (Record attrs.node) attrs.loc

pub names_moved : (paths : List Path) → map name_of (map anywhere paths) ≡ map name_unplaced (map name_of paths)
names_moved paths = moved anywhere name_of name_of name_unplaced (λ p. refl) paths

pub tags_moved : (tags : Option (Node TypeTree)) → option_map type_at (option_map (unplaced tree.type_unplaced) tags) ≡ option_map type_unplaced (option_map type_at tags)
tags_moved tags = moved_option (unplaced tree.type_unplaced) type_at type_at type_unplaced type_at_moved tags
