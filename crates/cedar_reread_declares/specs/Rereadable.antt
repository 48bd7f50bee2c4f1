-- SPDX-License-Identifier: Apache-2.0
-- Which fragments are declared, but for places, by the text that is printed of them. Each map has to be in the order of its
-- keys: each is, but here it is a list of entries, of which that isn't known.
use Rattle.std.specs.Prelude.{◌≡◌, ⊤, true, false, List, [], ◌∷◌, Option, Some, None, IfSome}
use Rattle.std.specs.List.{AllByRecursion, list_all}
use Rattle.std.specs.List.Sorted.{IsStrictlySortedBy}
use Rattle.cedar_data.specs.Maps.{IsSortedMap}
use Rattle.cedar_names.specs.Order.{word_cmp}
use Rattle.cedar_text.specs.Words.{is_cedar, is_unreserved_id}
use Rattle.cedar_written.specs.CommonTypeIds.{is_reserved_basename}
use Rattle.cedar_tree.specs.Trees.{Text}
use Rattle.cedar_convert_faults.specs.Gathering.{namespace_cmp}
use Rattle.cedar_convert_fragment.specs.Fragments.{ActionContent, AppliesTo, Declared, Definition, EntityContent, Fields, Form, Fragment, NameAt, TypeAt, written, common_type, set_of, record_of, entity_or_common, no_fields, field, Shaped, Listed}
use Rattle.cedar_reread.specs.Said.{is_empty_shape}

-- the names of attributes
abbrev pub field_names : Fields → List Text
field_names no_fields = []
field_names (field name ty annotations required others) = name ∷ field_names others

-- each record is closed, and its attributes are in the order of their names, at every depth
abbrev mutual
  pub RereadableType : TypeAt → Type 0
  RereadableType (written form place) = RereadableForm form
  RereadableType (common_type name place) = ⊤

  pub RereadableForm : Form → Type 0
  RereadableForm (set_of element) = RereadableType element
  RereadableForm (record_of attributes others) = (others ≡ false) × IsStrictlySortedBy word_cmp (field_names attributes) × RereadableFields attributes
  RereadableForm _ = ⊤

  pub RereadableFields : Fields → Type 0
  RereadableFields no_fields = ⊤
  RereadableFields (field name ty annotations required others) = RereadableType ty × RereadableFields others

-- a whole shape or context that is written out is a record, or a name that may be one of a common type
abbrev pub RereadableShapeForm : Form → Type 0
RereadableShapeForm (record_of attributes others) = RereadableForm (record_of attributes others)
RereadableShapeForm (entity_or_common name) = ⊤
RereadableShapeForm _ = ⊥

abbrev pub RereadableShape : TypeAt → Type 0
RereadableShape (written form place) = RereadableShapeForm form
RereadableShape (common_type name place) = ⊤

-- what an entity type is
abbrev pub RereadableEntity : EntityContent → Type 0
RereadableEntity (Shaped parents shape tags) = RereadableShape shape × IfSome tags RereadableType
RereadableEntity (Listed ids) = ⊤

-- principals, resources and a context: both lists have names, or both are empty and the context is the closed record without attributes
abbrev pub RereadableClauses : List NameAt → List NameAt → TypeAt → Type 0
RereadableClauses [] [] context = is_empty_shape context ≡ true
RereadableClauses [] (resource ∷ resources) context = ⊥
RereadableClauses (principal ∷ principals) [] context = ⊥
RereadableClauses (principal ∷ principals) (resource ∷ resources) context = RereadableShape context

abbrev pub RereadableApplies : AppliesTo → Type 0
RereadableApplies a = RereadableClauses a.principals a.resources a.context

-- an action has no attributes
abbrev pub RereadableAction : ActionContent → Type 0
RereadableAction a = (a.attributes ≡ None) × IfSome a.applies_to RereadableApplies

-- ---- declarations

-- no common type is named `__cedar` or by a word that JSON takes for a kind of types
abbrev pub RereadableCommonEntry : Text × Declared TypeAt → Type 0
RereadableCommonEntry e = (is_cedar e.0 ≡ false) × (is_reserved_basename e.0 ≡ false) × RereadableType e.1.content

-- no entity type is named `__cedar`
abbrev pub RereadableEntityEntry : Text × Declared EntityContent → Type 0
RereadableEntityEntry e = (is_cedar e.0 ≡ false) × RereadableEntity e.1.content

abbrev pub RereadableActionEntry : Text × Declared ActionContent → Type 0
RereadableActionEntry e = RereadableAction e.1.content

-- the declarations of a namespace, each kind in the order of the names
abbrev pub RereadableDefinition : Definition → Type 0
RereadableDefinition d =
    (IsSortedMap word_cmp d.common_types × AllByRecursion RereadableCommonEntry d.common_types)
    × (IsSortedMap word_cmp d.entity_types × AllByRecursion RereadableEntityEntry d.entity_types)
    × (IsSortedMap word_cmp d.actions × AllByRecursion RereadableActionEntry d.actions)

-- a name of a namespace is one identifier or more, none of them `__cedar`
abbrev pub RereadableName : Option (List Text) → Type 0
RereadableName None = ⊤
RereadableName (Some []) = ⊥
RereadableName (Some (w ∷ ws)) = list_all is_unreserved_id (w ∷ ws) ≡ true

abbrev pub RereadableNamespace : Option (List Text) × Definition → Type 0
RereadableNamespace n = RereadableName n.0 × RereadableDefinition n.1

-- a fragment, whose namespaces are in the order of their names
pub record Rereadable (F : Fragment) : Type 0 where
  pub in_order : IsSortedMap namespace_cmp F
  pub namespaces : AllByRecursion RereadableNamespace F
