-- SPDX-License-Identifier: Apache-2.0
-- Declarations as the human syntax writes them: lists of tokens with blanks between them.
use Rattle.std.specs.Prelude.{ℕ, Bool, false, not, List, [], ◌∷◌, ◌++◌, Option, Some, None, if◌then◌else◌, codes}
use Rattle.std.specs.List.{flat_map}
use Rattle.cedar_types.specs.of_text.Lists.{elements}
use Rattle.cedar_types.specs.of_text.declared.non_empty.NonEmpty.{NonEmpty}
use Rattle.cedar_types.specs.of_names.Components.{components}
use Rattle.cedar_types.specs.of_names.Identifiers.{unreserved_word}
use Rattle.cedar_types.specs.of_names.Names.{internal_of}
use Rattle.cedar_types.specs.of_names.declared.id.UnreservedId.{UnreservedId}
use Rattle.cedar_types.specs.of_names.declared.name.Name.{Name}
use Rattle.cedar_print.specs.Annotations.{annotations_pieces}
use Rattle.cedar_print.specs.Pieces.{Piece, Pieces, word, mark, quoted, blank, space, line_end, named, bracketed, name_pieces, quoted_alone}
use Rattle.cedar_written.specs.CommonTypeIds.{unreserved_of}
use Rattle.cedar_written.specs.Printed.{print_type}
use Rattle.cedar_written.specs.WrittenTypes.{TypeLayer, VariantLayer}
use Rattle.cedar_written.specs.declared.common_type_id.CommonTypeId.{CommonTypeId}
use Rattle.cedar_written.specs.declared.ref_name.RefName as ref_name
use Rattle.cedar_written.specs.declared.ty.RecordType.{out-RecordType}
use Rattle.cedar_written.specs.declared.ty.SchemaType.{SchemaType, out-SchemaType}
use Rattle.cedar_written.specs.declared.ty.SchemaType.TheOpen as layer
use Rattle.cedar_written.specs.declared.ty.TypeOfAttribute.{TypeOfAttribute}
use Rattle.cedar_written.specs.declared.ty.TypeVariant.{out-TypeVariant}
use Rattle.cedar_fragment.specs.declared.action_uid.ActionEntityUID.{ActionEntityUID}
use Rattle.cedar_fragment.specs.declared.attributes_or_context.AttributesOrContext.{AttributesOrContext}
use Rattle.cedar_fragment.specs.declared.definitions.ActionType.{ActionType}
use Rattle.cedar_fragment.specs.declared.definitions.ApplySpec.{ApplySpec}
use Rattle.cedar_fragment.specs.declared.definitions.CommonType.{CommonType}
use Rattle.cedar_fragment.specs.declared.definitions.EntityType.{EntityType}
use Rattle.cedar_fragment.specs.declared.definitions.EntityTypeKind.{EntityTypeKind}
use Rattle.cedar_fragment.specs.declared.definitions.EntityTypeKind.TheVariants as sort
use Rattle.cedar_fragment.specs.declared.definitions.Fragment.{Fragment}
use Rattle.cedar_fragment.specs.declared.definitions.NamespaceDefinition.{NamespaceDefinition}
use Rattle.cedar_fragment.specs.declared.definitions.StandardEntityType.{StandardEntityType}

-- these pieces, unless the list is empty
abbrev pub unless_empty : {T A : Type 0} → List T → List A → List A
unless_empty [] ps = []
unless_empty (t ∷ ts) ps = ps

-- ` in [P, P]`
abbrev pub parents_printed : {N T : Type 0} → (T → Pieces N) → List T → Pieces N
parents_printed parts ps = space ∷ word (codes "in") ∷ space ∷ bracketed parts ps

-- the same, where there are parents
abbrev pub print_parents : {N T : Type 0} → (T → Pieces N) → List T → Pieces N
print_parents parts ps = unless_empty ps (parents_printed parts ps)

-- the ids of the entities of an enumerated type
abbrev pub print_choices : {N : Type 0} → NonEmpty (List ℕ) → Pieces N
print_choices choices = space ∷ word (codes "enum") ∷ space ∷ bracketed quoted_alone (elements choices)

-- `;` and the end of the line
abbrev pub closing : {N : Type 0} → Pieces N
closing = mark (codes ";") ∷ line_end ∷ []

module _ {N : Type 0} where
  -- whether a type is the closed record without attributes
  abbrev pub is_empty_fields : List (List ℕ × TypeOfAttribute N) → Bool → Bool
  is_empty_fields [] additional = not additional
  is_empty_fields (e ∷ es) additional = false

  abbrev pub is_empty_variant : VariantLayer N → Bool
  is_empty_variant (layer.Record r) = is_empty_fields (out-RecordType N r).attributes (out-RecordType N r).additional_attributes
  is_empty_variant _ = false

  abbrev pub is_empty_layer : TypeLayer N → Bool
  is_empty_layer (layer.Variant ty loc) = is_empty_variant (out-TypeVariant N ty)
  is_empty_layer (layer.CommonTypeRef n loc) = false

  abbrev pub is_empty_type : SchemaType N → Bool
  is_empty_type t = is_empty_layer (out-SchemaType N t)

  -- a shape or a context is its type
  abbrev pub print_shape : AttributesOrContext N → Pieces N
  print_shape s = print_type s.0

  -- ` = SHAPE`
  abbrev pub shape_printed : AttributesOrContext N → Pieces N
  shape_printed s = space ∷ mark (codes "=") ∷ space ∷ print_shape s

  -- the same, unless the shape is the empty record
  abbrev pub print_shape_clause : AttributesOrContext N → Pieces N
  print_shape_clause s = if is_empty_type s.0 then [] else shape_printed s

  -- ` tags TYPE`
  abbrev pub tags_printed : SchemaType N → Pieces N
  tags_printed ty = space ∷ word (codes "tags") ∷ space ∷ print_type ty

  -- the same, where there are tags
  abbrev pub print_tags : Option (SchemaType N) → Pieces N
  print_tags None = []
  print_tags (Some ty) = tags_printed ty

  -- a standard entity type, behind its name
  abbrev pub print_standard : StandardEntityType N → Pieces N
  print_standard e = print_parents named e.member_of_types ++ (print_shape_clause e.shape ++ print_tags e.tags)

  -- an entity type of any kind, behind its name
  abbrev pub print_kind : EntityTypeKind N → Pieces N
  print_kind (sort.Standard e) = print_standard e
  print_kind (sort.Enum choices) = print_choices choices

  abbrev pub print_entity : EntityType N → Pieces N
  print_entity e = print_kind e.kind

  -- the end of a line and two blanks
  abbrev pub indented : Piece N
  indented = blank (codes "\n  ")

  -- the line of the context, which is the last
  abbrev pub print_context : AttributesOrContext N → Pieces N
  print_context context = mark (codes ",") ∷ indented ∷ word (codes "context") ∷ mark (codes ":") ∷ space ∷ (print_shape context ++ (line_end ∷ mark (codes "}") ∷ []))

  -- what an action applies to, on five lines
  abbrev pub print_applies : ApplySpec N → Pieces N
  print_applies a =
      space ∷ word (codes "appliesTo") ∷ space ∷ mark (codes "{")
      ∷ indented ∷ word (codes "principal") ∷ mark (codes ":") ∷ space ∷ (bracketed named a.principal_types ++ (mark (codes ",")
      ∷ indented ∷ word (codes "resource") ∷ mark (codes ":") ∷ space ∷ (bracketed named a.resource_types ++ print_context a.context)))

  -- the same, where neither list is empty
  abbrev pub print_filled : ApplySpec N → Pieces N
  print_filled a = unless_empty a.principal_types (unless_empty a.resource_types (print_applies a))

  -- the same, where an action says what it applies to
  abbrev pub print_apply_clause : Option (ApplySpec N) → Pieces N
  print_apply_clause None = []
  print_apply_clause (Some a) = print_filled a

  -- the type of a parent, where no type stands for `Action`
  abbrev pub print_uid_type : Option N → Pieces N
  print_uid_type None = word (codes "Action") ∷ []
  print_uid_type (Some n) = named n

  -- what stands before the type that a common type is
  abbrev pub common_head : CommonTypeId → Pieces N
  common_head id = word (codes "type") ∷ space ∷ word (unreserved_word (unreserved_of id)) ∷ space ∷ mark (codes "=") ∷ space ∷ []

  -- a common type with its name, its annotations before it
  abbrev pub print_common : CommonTypeId × CommonType N → Pieces N
  print_common e = annotations_pieces e.1.annotations ++ (common_head e.0 ++ (print_type e.1.ty ++ closing))

  -- the name of an entity type
  abbrev pub entity_head : UnreservedId → Pieces N
  entity_head id = word (codes "entity") ∷ space ∷ word (unreserved_word id) ∷ []

  -- an entity type with its name
  abbrev pub print_entity_declaration : UnreservedId × EntityType N → Pieces N
  print_entity_declaration e = annotations_pieces e.1.annotations ++ (entity_head e.0 ++ (print_entity e.1 ++ closing))

  -- the id of an action
  abbrev pub action_head : List ℕ → Pieces N
  action_head id = word (codes "action") ∷ space ∷ quoted id ∷ []

  -- the line that opens a namespace
  abbrev pub namespace_head : Name → Pieces N
  namespace_head path = word (codes "namespace") ∷ space ∷ (name_pieces (components (internal_of path)) ++ (space ∷ mark (codes "{") ∷ line_end ∷ []))

module _ {N : Type 0} {R : ref_name.Ghosts N} where
  -- an action as a parent
  abbrev pub print_uid : ActionEntityUID N R → Pieces N
  print_uid u = print_uid_type u.ty ++ (mark (codes "::") ∷ quoted u.id ∷ [])

  -- the parents of an action
  abbrev pub print_action_parents : Option (List (ActionEntityUID N R)) → Pieces N
  print_action_parents None = []
  print_action_parents (Some us) = print_parents print_uid us

  -- an action, behind its id
  abbrev pub print_action : ActionType N R → Pieces N
  print_action a = print_action_parents a.member_of ++ print_apply_clause a.applies_to

  -- an action with its id
  abbrev pub print_action_declaration : List ℕ × ActionType N R → Pieces N
  print_action_declaration e = annotations_pieces e.1.annotations ++ (action_head e.0 ++ (print_action e.1 ++ closing))

  -- the common types, the entity types and the actions of a namespace, each in order
  abbrev pub print_namespace : NamespaceDefinition N R → Pieces N
  print_namespace n = flat_map print_common n.common_types ++ (flat_map print_entity_declaration n.entity_types ++ flat_map print_action_declaration n.actions)

  -- a named namespace, in braces
  abbrev pub print_named : Name → NamespaceDefinition N R → Pieces N
  print_named path n = annotations_pieces n.annotations ++ (namespace_head path ++ (print_namespace n ++ (mark (codes "}") ∷ line_end ∷ [])))

  -- a namespace: the unnamed one as its declarations
  abbrev pub print_under : Option Name → NamespaceDefinition N R → Pieces N
  print_under None n = print_namespace n
  print_under (Some path) n = print_named path n

  -- a namespace with its name
  abbrev pub print_entry : Option Name × NamespaceDefinition N R → Pieces N
  print_entry e = print_under e.0 e.1

  -- a fragment: each namespace in order
  abbrev pub print : Fragment N R → Pieces N
  print fragment = flat_map print_entry fragment.0
