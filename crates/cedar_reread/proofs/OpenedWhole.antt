-- SPDX-License-Identifier: Apache-2.0
-- How many brackets are open in the tokens of a fragment whose types nest at most 128 deep: 130 at most.
use Rattle.std.proofs.Common.{◌+◌, ℕ, Bool, true, false, List, [], ◌∷◌, ◌++◌, codes, arith, Option, Some, None, if◌then◌else◌, refl, subst, append-nil}
use Rattle.std.specs.Prelude.{IfSome}
use Rattle.std.specs.List.{AllByRecursion, flat_map}
use Rattle.cedar_tree.specs.Nesting.{nest}
use Rattle.cedar_tree.specs.Trees.{Text}
use Rattle.cedar_grammar.specs.Grammar.{OpensAtMost}
use Rattle.cedar_convert_fragment.specs.Fragments.{ActionAt, ActionContent, AppliesTo, Declared, Definition, EntityContent, Fragment, NameAt, TypeAt, Shaped, Listed}
use Rattle.cedar_reread.specs.EachType.{EachOfAction, EachOfDefinition, EachOfEntity, Nests, NestsAtMost}
use Rattle.cedar_reread.specs.Said.{Tokens, mark_token, said_action, said_action_entry, said_annotations, said_applies, said_block, said_clauses, said_common_entry, said_definition, said_entity, said_entity_entry, said_fragment, said_in, said_items, said_list, said_more, said_name, said_namespace, said_parent, said_parent_type, said_parents, said_path, said_shape, said_tags, said_text, said_type, unless_none, is_empty_shape}
use Rattle.cedar_reread.specs.TreesRead.{type_read}
use Rattle.cedar_reread.proofs.Opened.{Balanced, Within, annotations_balanced, balanced_more, balanced_none, balanced_then, braced, flat_balanced, opens, path_balanced, plain_then, str_then, type_balanced, word_then}

module _ (d : ℕ) where
  items_balanced : {T : Type 0} (parts : T → Tokens) (items : List T) → ((item : T) → Balanced d (parts item)) → Balanced d (said_items parts items)
  items_balanced parts [] each = balanced_none d
  items_balanced parts (item ∷ items) each =
      balanced_then d (parts item) (said_more parts items) (each item) (flat_balanced d (λ item. mark_token (codes ",") ∷ parts item) items (λ item. plain_then d (mark_token (codes ",")) (parts item) (λ n. refl) (each item)))

  list_balanced : {T : Type 0} (parts : T → Tokens) (items : List T) → ((item : T) → Balanced d (parts item)) → Balanced d (said_list parts items)
  list_balanced parts items each =
      plain_then d (mark_token (codes "[")) _ (λ n. refl) (balanced_then d (said_items parts items) (mark_token (codes "]") ∷ []) (items_balanced parts items each) (plain_then d (mark_token (codes "]")) [] (λ n. refl) (balanced_none d)))

  in_balanced : {T : Type 0} (parts : T → Tokens) (items : List T) → ((item : T) → Balanced d (parts item)) → Balanced d (said_in parts items)
  in_balanced parts [] each = balanced_none d
  in_balanced parts (item ∷ items) each = word_then d (codes "in") (said_list parts (item ∷ items)) (list_balanced parts (item ∷ items) each)

  name_balanced : (name : NameAt) → Balanced d (said_name name)
  name_balanced name = path_balanced d name.words

  parent_balanced : (parent : ActionAt) → Balanced d (said_parent parent)
  parent_balanced parent =
      balanced_then d (said_parent_type parent.ty) _ (by parent.ty) (plain_then d (mark_token (codes "::")) _ (λ n. refl) (str_then d parent.id [] (balanced_none d)))
    where
      by : (ty : Option NameAt) → Balanced d (said_parent_type ty)
      by None = word_then d (codes "Action") [] (balanced_none d)
      by (Some name) = name_balanced name

  parents_balanced : (parents : Option (List ActionAt)) → Balanced d (said_parents parents)
  parents_balanced None = balanced_none d
  parents_balanced (Some parents) = in_balanced said_parent parents parent_balanced

  closed_by : (ts : Tokens) → Balanced d ts → Balanced d (ts ++ mark_token (codes ";") ∷ [])
  closed_by ts balanced = balanced_then d ts (mark_token (codes ";") ∷ []) balanced (plain_then d (mark_token (codes ";")) [] (λ n. refl) (balanced_none d))

-- ---- declarations

module _ (k : ℕ) where
  of_type : (ty : TypeAt) → Nests k ty → Balanced k (said_type ty)
  of_type ty le = balanced_more (nest (type_read ty)) k (said_type ty) le (type_balanced ty)

  shape_balanced : (shape : TypeAt) → Nests k shape → Balanced k (said_shape shape)
  shape_balanced shape le = by (is_empty_shape shape)
    where
      by : (t : Bool) → Balanced k (if t then [] else mark_token (codes "=") ∷ said_type shape)
      by true = balanced_none k
      by false = plain_then k (mark_token (codes "=")) (said_type shape) (λ n. refl) (of_type shape le)

  tags_balanced : (tags : Option TypeAt) → IfSome tags (Nests k) → Balanced k (said_tags tags)
  tags_balanced None is = balanced_none k
  tags_balanced (Some ty) is = word_then k (codes "tags") (said_type ty) (of_type ty is)

  entity_balanced : (content : EntityContent) → EachOfEntity (Nests k) content → Balanced k (said_entity content)
  entity_balanced (Shaped parents shape tags) is =
      balanced_then k (said_in said_name parents) (said_shape shape ++ said_tags tags) (in_balanced k said_name parents (name_balanced k))
      (balanced_then k (said_shape shape) (said_tags tags) (shape_balanced shape is.0) (tags_balanced tags is.1))
  entity_balanced (Listed ids) is = word_then k (codes "enum") (said_list said_text ids) (list_balanced k said_text ids (λ t. str_then k t [] (balanced_none k)))

  clauses_balanced : (a : AppliesTo) → Nests k a.context → Balanced k (said_clauses a)
  clauses_balanced a le =
      word_then k (codes "principal") _ (plain_then k (mark_token (codes ":")) _ (λ n. refl) (balanced_then k (said_list said_name a.principals) _ (list_balanced k said_name a.principals (name_balanced k)) (plain_then k (mark_token (codes ",")) _ (λ n. refl)
      (word_then k (codes "resource") _ (plain_then k (mark_token (codes ":")) _ (λ n. refl) (balanced_then k (said_list said_name a.resources) _ (list_balanced k said_name a.resources (name_balanced k)) (plain_then k (mark_token (codes ",")) _ (λ n. refl)
      (word_then k (codes "context") _ (plain_then k (mark_token (codes ":")) (said_type a.context) (λ n. refl) (of_type a.context le))))))))))

  block_balanced : (a : AppliesTo) → Nests k a.context → Balanced (k + 1) (said_block a)
  block_balanced a le = word_then (k + 1) (codes "appliesTo") _ (braced k (codes "{") (codes "}") (said_clauses a) (λ n. refl) (λ n. refl) (clauses_balanced a le))

  unless_balanced : {T : Type 0} (d : ℕ) (items : List T) (ts : Tokens) → Balanced d ts → Balanced d (unless_none items ts)
  unless_balanced d [] ts balanced = balanced_none d
  unless_balanced d (item ∷ items) ts balanced = balanced

  applies_balanced : (a : Option AppliesTo) → IfSome a (λ applies. Nests k applies.context) → Balanced (k + 1) (said_applies a)
  applies_balanced None is = balanced_none (k + 1)
  applies_balanced (Some a) is = unless_balanced (k + 1) a.principals _ (unless_balanced (k + 1) a.resources _ (block_balanced a is))

  common_entry : (e : Text × Declared TypeAt) → Nests k e.1.content → Balanced (k + 1) (said_common_entry e)
  common_entry e is =
      balanced_then (k + 1) (said_annotations e.1.annotations) _ (annotations_balanced (k + 1) e.1.annotations)
      (word_then (k + 1) (codes "type") _ (word_then (k + 1) e.0 _ (plain_then (k + 1) (mark_token (codes "=")) _ (λ n. refl) (closed_by (k + 1) (said_type e.1.content) (balanced_more k (k + 1) (said_type e.1.content) (omega arith) (of_type e.1.content is))))))

  entity_entry : (e : Text × Declared EntityContent) → EachOfEntity (Nests k) e.1.content → Balanced (k + 1) (said_entity_entry e)
  entity_entry e is =
      balanced_then (k + 1) (said_annotations e.1.annotations) _ (annotations_balanced (k + 1) e.1.annotations)
      (word_then (k + 1) (codes "entity") _ (word_then (k + 1) e.0 _ (closed_by (k + 1) (said_entity e.1.content) (balanced_more k (k + 1) (said_entity e.1.content) (omega arith) (entity_balanced e.1.content is)))))

  action_entry : (e : Text × Declared ActionContent) → EachOfAction (Nests k) e.1.content → Balanced (k + 1) (said_action_entry e)
  action_entry e is =
      balanced_then (k + 1) (said_annotations e.1.annotations) _ (annotations_balanced (k + 1) e.1.annotations)
      (word_then (k + 1) (codes "action") _ (str_then (k + 1) e.0 _ (closed_by (k + 1) (said_action e.1.content)
      (balanced_then (k + 1) (said_parents e.1.content.member_of) _ (parents_balanced (k + 1) e.1.content.member_of) (applies_balanced e.1.content.applies_to is)))))

  each_entry : {A : Type 0} (d : ℕ) (P : A → Type 0) (said : A → Tokens) (xs : List A) → AllByRecursion P xs → ((x : A) → P x → Balanced d (said x)) → Balanced d (flat_map said xs)
  each_entry d P said [] all each = balanced_none d
  each_entry d P said (x ∷ xs) all each = balanced_then d (said x) (flat_map said xs) (each x all.0) (each_entry d P said xs all.1 each)

  definition_balanced : (d : Definition) → EachOfDefinition (Nests k) d → Balanced (k + 1) (said_definition d)
  definition_balanced d is =
      balanced_then (k + 1) (flat_map said_common_entry d.common_types) _ (each_entry (k + 1) (λ e. Nests k e.1.content) said_common_entry d.common_types is.0 common_entry)
      (balanced_then (k + 1) (flat_map said_entity_entry d.entity_types) _ (each_entry (k + 1) (λ e. EachOfEntity (Nests k) e.1.content) said_entity_entry d.entity_types is.1 entity_entry)
      (each_entry (k + 1) (λ e. EachOfAction (Nests k) e.1.content) said_action_entry d.actions is.2 action_entry))

  namespace_balanced : (n : Option (List Text) × Definition) → EachOfDefinition (Nests k) n.1 → Balanced (k + 1 + 1) (said_namespace n)
  namespace_balanced (None, d) is = balanced_more (k + 1) (k + 1 + 1) (said_definition d) (omega arith) (definition_balanced d is)
  namespace_balanced (Some words, d) is =
      balanced_then (k + 1 + 1) (said_annotations d.annotations) _ (annotations_balanced (k + 1 + 1) d.annotations)
      (word_then (k + 1 + 1) (codes "namespace") _ (balanced_then (k + 1 + 1) (said_path words) _ (path_balanced (k + 1 + 1) words)
      (braced (k + 1) (codes "{") (codes "}") (said_definition d) (λ n. refl) (λ n. refl) (definition_balanced d is))))

  fragment_balanced : (F : Fragment) → NestsAtMost k F → Balanced (k + 1 + 1) (said_fragment F)
  fragment_balanced F is = each_entry (k + 1 + 1) (λ n. EachOfDefinition (Nests k) n.1) said_namespace F is namespace_balanced

-- where types nest at most 128 deep, at most 130 brackets are open
pub few_open : (F : Fragment) → NestsAtMost 128 F → OpensAtMost 130 (said_fragment F)
few_open F is = opens 130 (said_fragment F) (subst (λ (ts : Tokens). Within 130 0 ts) (append-nil (said_fragment F)) ((fragment_balanced 128 F is).keeps 130 0 [] (omega arith) (omega arith)))
