-- SPDX-License-Identifier: Apache-2.0
-- The trees of types, for each way to make one.
use Rattle.std.proofs.Common.{◌≡◌, ℕ, Bool, List, sym, ap, ◌∙◌}
use Rattle.std.proofs.lemmas.Simd.{map-map}
use Rattle.cedar_text.specs.declared.node.Node.{Node}
use Rattle.cedar_tree.specs.declared.annotated.Annotated as noted
use Rattle.cedar_tree.specs.declared.path.Path as names
use Rattle.cedar_tree.specs.declared.ty.AttrDecl as attribute
use Rattle.cedar_tree.specs.declared.ty.AttrDecl.{fold-roll-AttrDecl}
use Rattle.cedar_tree.specs.declared.ty.«Type».{«Type», «fold-roll-Type»}
use Rattle.cedar_tree.specs.declared.ty.«Type».TheOpen as level
use Rattle.cedar_tree.specs.declared.ty.«Type».TheVariants as made
use Rattle.cedar_tree.specs.Meanings.{attr_level, attr_node, attr_tree, attrs_tree, node_of, path_tree, type_level, type_tree}
use Rattle.cedar_tree.specs.Trees.{TypeTree, Set, Ident, Record, AttrDecl, attrs_of}

-- a set means the set of what its element means
pub tree_of_set : (element : Node «Type») → type_tree (made.Set element) ≡ Set (type_tree element.node) element.loc
tree_of_set element = ap type_tree (sym (made.rolls-Set element)) ∙ «fold-roll-Type» TypeTree AttrDecl type_level attr_level (level.Set element)

-- a name means its path
pub tree_of_name : (path : names.Path) → type_tree (made.Ident path) ≡ Ident (path_tree path)
tree_of_name path = ap type_tree (sym (made.rolls-Ident path)) ∙ «fold-roll-Type» TypeTree AttrDecl type_level attr_level (level.Ident path)

-- a record means its attributes
pub tree_of_record : (attrs : List (Node (noted.Annotated attribute.AttrDecl))) → type_tree (made.Record attrs) ≡ Record (attrs_tree attrs)
tree_of_record attrs = ap type_tree (sym (made.rolls-Record attrs)) ∙ «fold-roll-Type» TypeTree AttrDecl type_level attr_level (level.Record attrs) ∙ ap (λ xs. Record (attrs_of xs)) (map-map (attr_node (λ a. a)) _ attrs)

-- an attribute means its name, whether it is required, and its type
pub tree_of_attr : (name : Node (List ℕ)) (required : Bool) (ty : Node «Type») → attr_tree (record { name = name; required = required; ty = ty }) ≡ record { name = name; required = required; ty = node_of type_tree ty }
tree_of_attr name required ty = fold-roll-AttrDecl TypeTree AttrDecl type_level attr_level (record { name = name; required = required; ty = ty })
