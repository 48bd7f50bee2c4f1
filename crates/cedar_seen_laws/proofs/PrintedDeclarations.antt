-- SPDX-License-Identifier: Apache-2.0
-- What is printed of a fragment is what is printed of it as it is seen.
use Rattle.std.proofs.Common.{◌≡◌, ℕ, List, [], ◌∷◌, ◌++◌, codes, map, Bool, true, false, if◌then◌else◌, Option, Some, None, option_map, refl, sym, ap, ◌∙◌}
use Rattle.cedar_text.specs.Lists.{elements}
use Rattle.cedar_names.specs.Identifiers.{unreserved_word}
use Rattle.cedar_names.specs.Names.{name_words}
use Rattle.cedar_names.specs.declared.annotation.Annotations.{Annotations}
use Rattle.cedar_names.specs.declared.id.UnreservedId.{UnreservedId}
use Rattle.cedar_names.specs.declared.name.Name.{Name}
use Rattle.cedar_print.specs.Annotations.{annotations_pieces}
use Rattle.cedar_print.specs.Pieces.{Pieces, bracketed, line_end, mark, name_pieces, named, quoted, quoted_alone, space, text_of, word}
use Rattle.std.specs.List.{flat_map}
use Rattle.cedar_tree.specs.Meanings.{annotations_tree}
use Rattle.cedar_written.specs.Printed.{print_type}
use Rattle.cedar_written.specs.declared.common_type_id.CommonTypeId.{CommonTypeId}
use Rattle.cedar_written.specs.declared.raw_name.RawName.{RawName}
use Rattle.cedar_written.specs.declared.ty.SchemaType.{SchemaType}
use Rattle.cedar_fragment.specs.ActionUids.{over_raw}
use Rattle.cedar_fragment.specs.Printed.{action_head, closing, common_head, entity_head, indented, is_empty_type, namespace_head, print, print_action, print_action_declaration, print_action_parents, print_applies, print_apply_clause, print_common, print_context, print_entity, print_entity_declaration, print_entry, print_kind, print_namespace, print_parents, print_shape_clause, print_tags, print_uid, print_uid_type, print_under, shape_printed, unless_empty}
use Rattle.cedar_fragment.specs.declared.action_uid.ActionEntityUID.{ActionEntityUID}
use Rattle.cedar_fragment.specs.declared.attributes_or_context.AttributesOrContext.{AttributesOrContext}
use Rattle.cedar_fragment.specs.declared.definitions.ActionType.{ActionType}
use Rattle.cedar_fragment.specs.declared.definitions.ApplySpec.{ApplySpec}
use Rattle.cedar_fragment.specs.declared.definitions.CommonType.{CommonType}
use Rattle.cedar_fragment.specs.declared.definitions.EntityType.{EntityType}
use Rattle.cedar_fragment.specs.declared.definitions.EntityTypeKind.{EntityTypeKind}
use Rattle.cedar_fragment.specs.declared.definitions.EntityTypeKind.TheVariants as sort
use Rattle.cedar_fragment.specs.declared.definitions.Fragment.{Fragment}
use Rattle.cedar_fragment.specs.declared.definitions.NamespaceDefinition.{NamespaceDefinition}
use Rattle.cedar_convert_fragment.specs.Views.{action_seen, apply_seen, common_seen, common_word, definition_seen, entity_seen, fragment_seen, kind_seen, name_at, namespace_words, parent_seen, type_seen}
use Rattle.cedar_reread_print.proofs.Empty.{empty_alike}
use Rattle.cedar_seen_laws.proofs.PrintedTypes.{type_worded}
use Rattle.cedar_seen_laws.proofs.SeenPieces.{Words, action_content_pieces, action_pieces, applies_pieces, clause_pieces, common_pieces, content_pieces, context_pieces, declarations_pieces, entity_pieces, fragment_pieces, head_pieces, member_pieces, name_printed_at, namespace_pieces, notes_pieces, parent_pieces, parent_type_pieces, resources_pieces, shape_pieces, tags_pieces, type_pieces, worded}
use Rattle.cedar_seen_laws.proofs.Worded.{by_words, each_worded, list_worded, notes_worded, parents_worded, path_worded, text_worded, worded_before}

-- ---- entity types

shape_of : (empty : Bool) (ps : Pieces RawName) (qs : Pieces Words) → worded ps ≡ qs → worded (if empty then [] else ps) ≡ (if empty then [] else qs)
shape_of true ps qs same = refl
shape_of false ps qs same = same

shape_worded : (s : AttributesOrContext RawName) → worded (print_shape_clause s) ≡ shape_pieces (type_seen s.0)
shape_worded s =
    let behind : Pieces Words = space ∷ mark (codes "=") ∷ space ∷ type_pieces (type_seen s.0) in
    shape_of (is_empty_type s.0) (shape_printed s) behind (ap (λ (ps : Pieces Words). space ∷ mark (codes "=") ∷ space ∷ ps) (type_worded s.0))
    ∙ ap (λ empty. if empty then [] else behind) (empty_alike s.0)

tags_worded : (tags : Option (SchemaType RawName)) → worded (print_tags tags) ≡ tags_pieces (option_map type_seen tags)
tags_worded None = refl
tags_worded (Some t) = ap (λ (ps : Pieces Words). space ∷ word (codes "tags") ∷ space ∷ ps) (type_worded t)

ids_worded : (ids : List (List ℕ)) → worded (bracketed quoted_alone ids) ≡ bracketed quoted_alone (map (λ id. id) ids)
ids_worded = list_worded quoted_alone quoted_alone (λ id. id) (λ id. refl)

same_list : {A : Type 0} (xs : List A) → map (λ x. x) xs ≡ xs
same_list [] = refl
same_list (x ∷ xs) = ap (λ ys. x ∷ ys) (same_list xs)

kind_worded : (k : EntityTypeKind RawName) → worded (print_kind k) ≡ content_pieces (kind_seen k)
kind_worded (sort.Standard e) =
    worded_before (print_parents named e.member_of_types) (print_shape_clause e.shape ++ print_tags e.tags) _ _ (parents_worded named name_printed_at name_at (λ n. refl) e.member_of_types)
    (worded_before (print_shape_clause e.shape) (print_tags e.tags) _ _ (shape_worded e.shape) (tags_worded e.tags))
kind_worded (sort.Enum choices) =
    ap (λ (ps : Pieces Words). space ∷ word (codes "enum") ∷ space ∷ ps) (ids_worded (elements choices) ∙ ap (bracketed quoted_alone) (same_list (elements choices)))

-- ---- actions

names_worded : (ns : List RawName) → worded (bracketed named ns) ≡ bracketed name_printed_at (map name_at ns)
names_worded = list_worded named name_printed_at name_at (λ n. refl)

context_worded : (c : AttributesOrContext RawName) → worded (print_context c) ≡ context_pieces (type_seen c.0)
context_worded c =
    ap (λ (ps : Pieces Words). mark (codes ",") ∷ indented ∷ word (codes "context") ∷ mark (codes ":") ∷ space ∷ ps)
    (worded_before (print_type c.0) (line_end ∷ mark (codes "}") ∷ []) _ _ (type_worded c.0) refl)

abbrev resources_printed : ApplySpec RawName → Pieces RawName
resources_printed a = mark (codes ",") ∷ indented ∷ word (codes "resource") ∷ mark (codes ":") ∷ space ∷ (bracketed named a.resource_types ++ print_context a.context)

resources_worded : (a : ApplySpec RawName) → worded (resources_printed a) ≡ resources_pieces (apply_seen a)
resources_worded a =
    ap (λ (ps : Pieces Words). mark (codes ",") ∷ indented ∷ word (codes "resource") ∷ mark (codes ":") ∷ space ∷ ps)
    (worded_before (bracketed named a.resource_types) (print_context a.context) _ _ (names_worded a.resource_types) (context_worded a.context))

applies_worded : (a : ApplySpec RawName) → worded (print_applies a) ≡ applies_pieces (apply_seen a)
applies_worded a =
    ap (λ (ps : Pieces Words). space ∷ word (codes "appliesTo") ∷ space ∷ mark (codes "{") ∷ indented ∷ word (codes "principal") ∷ mark (codes ":") ∷ space ∷ ps)
    (worded_before (bracketed named a.principal_types) (resources_printed a) _ _ (names_worded a.principal_types) (resources_worded a))

filled_worded : (ps rs : List RawName) (printed : Pieces RawName) (seen : Pieces Words) → worded printed ≡ seen
    → worded (unless_empty ps (unless_empty rs printed)) ≡ unless_empty (map name_at ps) (unless_empty (map name_at rs) seen)
filled_worded [] rs printed seen same = refl
filled_worded (p ∷ ps) [] printed seen same = refl
filled_worded (p ∷ ps) (r ∷ rs) printed seen same = same

clause_worded : (a : Option (ApplySpec RawName)) → worded (print_apply_clause a) ≡ clause_pieces (option_map apply_seen a)
clause_worded None = refl
clause_worded (Some a) = filled_worded a.principal_types a.resource_types (print_applies a) (applies_pieces (apply_seen a)) (applies_worded a)

parent_type_worded : (ty : Option RawName) → worded (print_uid_type ty) ≡ parent_type_pieces (option_map name_at ty)
parent_type_worded None = refl
parent_type_worded (Some n) = refl

parent_worded : (u : ActionEntityUID RawName over_raw) → worded (print_uid u) ≡ parent_pieces (parent_seen u)
parent_worded u = worded_before (print_uid_type u.ty) (mark (codes "::") ∷ quoted u.id ∷ []) _ _ (parent_type_worded u.ty) refl

member_worded : (us : Option (List (ActionEntityUID RawName over_raw))) → worded (print_action_parents us) ≡ member_pieces (option_map (map parent_seen) us)
member_worded None = refl
member_worded (Some us) = parents_worded print_uid parent_pieces parent_seen parent_worded us

action_content_worded : (a : ActionType RawName over_raw) → worded (print_action a) ≡ action_content_pieces (action_seen a).content
action_content_worded a = worded_before (print_action_parents a.member_of) (print_apply_clause a.applies_to) _ _ (member_worded a.member_of) (clause_worded a.applies_to)

-- ---- declarations

-- annotations, a head, what is declared and the end of the line
declaration_worded : (a : Annotations) (head body : Pieces RawName) (head' body' : Pieces Words) → worded head ≡ head' → worded body ≡ body'
    → worded (annotations_pieces a ++ (head ++ (body ++ closing))) ≡ notes_pieces (annotations_tree a) ++ (head' ++ (body' ++ closing))
declaration_worded a head body head' body' heads bodies =
    worded_before (annotations_pieces a) (head ++ (body ++ closing)) _ _ (notes_worded a)
    (worded_before head (body ++ closing) _ _ heads (worded_before body closing _ _ bodies refl))

common_worded : (e : CommonTypeId × CommonType RawName) → worded (print_common e) ≡ common_pieces (common_word e.0, common_seen e.1)
common_worded e = declaration_worded e.1.annotations (common_head e.0) (print_type e.1.ty) _ _ refl (type_worded e.1.ty)

entity_worded : (e : UnreservedId × EntityType RawName) → worded (print_entity_declaration e) ≡ entity_pieces (unreserved_word e.0, entity_seen e.1)
entity_worded e = declaration_worded e.1.annotations (entity_head e.0) (print_entity e.1) _ _ refl (kind_worded e.1.kind)

action_worded : (e : List ℕ × ActionType RawName over_raw) → worded (print_action_declaration e) ≡ action_pieces (e.0, action_seen e.1)
action_worded e = declaration_worded e.1.annotations (action_head e.0) (print_action e.1) _ _ refl (action_content_worded e.1)

-- ---- namespaces and fragments

declarations_worded : (n : NamespaceDefinition RawName over_raw)
    → worded (print_namespace n) ≡ declarations_pieces (definition_seen n).common_types (definition_seen n).entity_types (definition_seen n).actions
declarations_worded n =
    worded_before (flat_map print_common n.common_types) (flat_map print_entity_declaration n.entity_types ++ flat_map print_action_declaration n.actions) _ _
    (each_worded print_common common_pieces (λ e. (common_word e.0, common_seen e.1)) common_worded n.common_types)
    (worded_before (flat_map print_entity_declaration n.entity_types) (flat_map print_action_declaration n.actions) _ _
    (each_worded print_entity_declaration entity_pieces (λ e. (unreserved_word e.0, entity_seen e.1)) entity_worded n.entity_types)
    (each_worded print_action_declaration action_pieces (λ e. (e.0, action_seen e.1)) action_worded n.actions))

head_worded : (path : Name) → worded (namespace_head path) ≡ head_pieces (name_words path)
head_worded path =
    ap (λ (ps : Pieces Words). word (codes "namespace") ∷ space ∷ ps)
    (worded_before (name_pieces (name_words path)) (space ∷ mark (codes "{") ∷ line_end ∷ []) _ _ (path_worded (name_words path)) refl)

entry_worded : (name : Option Name) (n : NamespaceDefinition RawName over_raw) → worded (print_under name n) ≡ namespace_pieces (namespace_words name, definition_seen n)
entry_worded None n = declarations_worded n
entry_worded (Some path) n =
    worded_before (annotations_pieces n.annotations) (namespace_head path ++ (print_namespace n ++ (mark (codes "}") ∷ line_end ∷ []))) _ _ (notes_worded n.annotations)
    (worded_before (namespace_head path) (print_namespace n ++ (mark (codes "}") ∷ line_end ∷ [])) _ _ (head_worded path)
    (worded_before (print_namespace n) (mark (codes "}") ∷ line_end ∷ []) _ _ (declarations_worded n) refl))

pub fragment_worded : (F : Fragment RawName over_raw) → worded (print F) ≡ fragment_pieces (fragment_seen F)
fragment_worded F = each_worded print_entry namespace_pieces (λ e. (namespace_words e.0, definition_seen e.1)) (λ e. entry_worded e.0 e.1) F.0

-- fragments of which the same pieces are printed
pub text_alike : (text : Words → Option (List ℕ)) (F G : Fragment RawName over_raw) → fragment_pieces (fragment_seen F) ≡ fragment_pieces (fragment_seen G)
    → text_of (by_words text) (print F) ≡ text_of (by_words text) (print G)
text_alike text F G same =
    text_worded text (print F) ∙ ap (text_of text) (fragment_worded F ∙ same ∙ sym (fragment_worded G)) ∙ sym (text_worded text (print G))

-- fragments that are seen alike
pub printed_alike : (text : Words → Option (List ℕ)) (F G : Fragment RawName over_raw) → fragment_seen F ≡ fragment_seen G → text_of (by_words text) (print F) ≡ text_of (by_words text) (print G)
printed_alike text F G same = text_alike text F G (ap fragment_pieces same)
