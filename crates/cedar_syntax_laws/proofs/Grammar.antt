-- SPDX-License-Identifier: Apache-2.0
-- How many brackets the productions of the grammar open at a time: as deep as types nest, and up to two around them.
use Rattle.std.proofs.Common.{◌≡◌, ◌≤◌, ◌+◌, ◌-◌, ℕ, zero, suc, true, false, List, [], ◌∷◌, ◌++◌, codes, Option, Some, None, refl, sym, subst, arith}
use Rattle.std.specs.List.{flat_map}
use Rattle.std.specs.Option.{option_map}
use Rattle.std.specs.Prelude.{option_to_list}
use Rattle.cedar_tokens.specs.Lexemes.{TextToken}
use Rattle.cedar_grammar.specs.Productions.{Production, class, gives, ◌>>=◌, ◌>>◌, ◌∣◌, many, each, optional, maybe, trailing}
use Rattle.cedar_grammar.specs.Grammar.{alone, annotated, annotation, annotation_of, annots, app_decl, applies_to, action_decl, as_name, as_record, attr_decl, attr_of, attributes_tail, behind_shape, bracketed, commas, context_type, decl, enum_entity, ident, idents, is_mark_token, is_new_key, item_behind, keyword, mark, name, names, namespace, one_or_list, path, path_of, pr, qualified, record_type, ref, refs, schema, set_type, shape_at, shape_decl, standard_entity, str, tags_clause, text_where, type_decl, type_upto, types, word}
use Rattle.cedar_grammar.proofs.Tokens.{passes}
use Rattle.cedar_tree.specs.Nesting.{greatest_nest, nest, outermost_types, types_of_app, types_of_decl, types_of_namespace, types_of_shape}
use Rattle.cedar_tree.specs.Trees.{Annotated, Annotations, AppDecl, Types, Context, AttrDecl, attrs_of, no_attrs, by_key, ContextDecl, Named, Shape, Declaration, Namespace, Node, Place, placed, Principal, Resource, stands, Text, TypeTree, Set}
use Rattle.cedar_syntax_laws.proofs.Marks.{angle_closes, angle_opens, brace_closes, brace_opens, opens_bracketed, plain_bracketed, plain_ident, plain_key, plain_keyword, plain_mark, plain_str, plain_word}
use Rattle.cedar_syntax_laws.proofs.Opening.{Opens, Plain, Tokens, Within, greatest, of_option, opens_either, opens_gives, opens_less, opens_many, opens_maybe, opens_then, opens_trailing, plain_each, plain_many, plain_maybe, plain_optional, plain_separated, plain_then, tells_gives, tells_then, within_token}

-- how deep the deepest of these types nests
abbrev pub deepest : List (Node TypeTree) → ℕ
deepest ts = greatest (λ t. nest t.node) ts

deepest_first : (xs ys : List (Node TypeTree)) → deepest xs ≤ deepest (xs ++ ys)
deepest_first [] ys = omega arith
deepest_first (x ∷ xs) ys = let others = deepest_first xs ys in omega (arith, others)

deepest_second : (xs ys : List (Node TypeTree)) → deepest ys ≤ deepest (xs ++ ys)
deepest_second [] ys = omega arith
deepest_second (x ∷ xs) ys = let others = deepest_second xs ys in omega (arith, others)

-- each member's types are among those of all
deepest_each : {A : Type 0} (types_of : A → List (Node TypeTree)) (k : ℕ) (xs : List A) → greatest (λ x. deepest (types_of x) + k) xs ≤ deepest (flat_map types_of xs) + k
deepest_each types_of k [] = omega arith
deepest_each types_of k (x ∷ xs) =
    let first = deepest_first (types_of x) (flat_map types_of xs) in
    let second = deepest_second (types_of x) (flat_map types_of xs) in
    let others = deepest_each types_of k xs in omega (arith, first, second, others)

-- ---- names, references and annotations open nothing

comma : Plain (mark (codes ","))
comma = plain_mark (codes ",") (refl, refl, refl, refl)

semicolon_plain : Plain (mark (codes ";"))
semicolon_plain = plain_mark (codes ";") (refl, refl, refl, refl)

colon : Plain (mark (codes ":"))
colon = plain_mark (codes ":") (refl, refl, refl, refl)

colons : Plain (mark (codes "::"))
colons = plain_mark (codes "::") (refl, refl, refl, refl)

equals : Plain (mark (codes "="))
equals = plain_mark (codes "=") (refl, refl, refl, refl)

abbrev nothing : {A : Type 0} → A → ℕ
nothing x = 0

plain_commas : {A : Type 0} (R : Production TextToken A) → Plain R → Plain (commas R)
plain_commas R o = plain_separated (mark (codes ",")) R comma o

plain_name : Plain name
plain_name = opens_either word str nothing plain_word plain_str

plain_path : Plain path
plain_path =
    plain_then ident _ nothing plain_ident (λ n.
    plain_then (many (mark (codes "::") >> ident)) _ nothing (plain_many (mark (codes "::") >> ident) (plain_then (mark (codes "::")) (λ _. ident) nothing colons (λ _. plain_ident)))
    (λ others. opens_gives (path_of n others) nothing))

plain_list : {A : Type 0} (R : Production TextToken A) → Plain R → Plain (bracketed (codes "[") (codes "]") R)
plain_list R o = plain_bracketed (codes "[") (codes "]") R (refl, refl, refl, refl) (refl, refl, refl, refl) o

plain_one_or_list : {A : Type 0} (R : Production TextToken (Node A)) → Plain R → Plain (one_or_list R)
plain_one_or_list R o =
    opens_either (R >>= λ x. gives (stands (x ∷ []) x.loc)) (bracketed (codes "[") (codes "]") (commas R ∣ gives [])) nothing
    (plain_then R _ nothing o (λ x. opens_gives (stands (x ∷ []) x.loc) nothing))
    (plain_list (commas R ∣ gives []) (opens_either (commas R) (gives []) nothing (plain_commas R o) (opens_gives [] nothing)))

plain_types : Plain types
plain_types = plain_one_or_list path plain_path

plain_ref : Plain ref
plain_ref =
    opens_either _ (name >>= λ id. gives (qualified None id id.loc)) nothing
    (plain_then path _ nothing plain_path (λ p.
    plain_then (mark (codes "::")) _ nothing colons (λ _.
    plain_then str _ nothing plain_str (λ id. opens_gives (qualified (Some p) id p.loc) nothing))))
    (plain_then name _ nothing plain_name (λ id. opens_gives (qualified None id id.loc) nothing))

plain_refs : Plain refs
plain_refs = plain_one_or_list ref plain_ref

plain_annotation : (before : Annotations) → Plain (annotation before)
plain_annotation before =
    plain_then (mark (codes "@")) _ nothing (plain_mark (codes "@") (refl, refl, refl, refl)) (λ at.
    plain_then (class (text_where (is_new_key before))) _ nothing (plain_key before) (λ key.
    plain_then (maybe (bracketed (codes "(") (codes ")") str)) _ nothing
    (plain_maybe (bracketed (codes "(") (codes ")") str) (plain_bracketed (codes "(") (codes ")") str (refl, refl, refl, refl) (refl, refl, refl, refl) plain_str))
    (λ value. opens_gives (annotation_of at.loc key value) nothing)))

plain_annots : Plain annots
plain_annots = plain_then (each annotation) _ nothing (plain_each annotation plain_annotation) (λ written. opens_gives (by_key written) nothing)

opens_annotated : {A : Type 0} (R : Production TextToken A) (d : A → ℕ) → Opens R d → Opens (annotated R) (λ a. d a.item)
opens_annotated R d o =
    plain_then annots _ (λ a. d a.item) plain_annots (λ annotations.
    opens_then R _ d (λ a. d a.item) o
    (λ x. tells_gives (record { item = x; annotations = annotations }) (λ a. d x ≤ d a.item) (omega arith))
    (λ x. opens_gives (record { item = x; annotations = annotations }) (λ a. d a.item)))

-- ---- types

abbrev of_type : Node TypeTree → ℕ
of_type t = nest t.node

abbrev of_attribute : Annotated (Node AttrDecl) → ℕ
of_attribute a = nest a.item.node.ty.node

of_attributes : (xs : List (Annotated (Node AttrDecl))) → greatest of_attribute xs ≤ greatest_nest (attrs_of xs)
of_attributes [] = omega arith
of_attributes (x ∷ xs) = let others = of_attributes xs in omega (arith, others)

abbrev of_line : Node AppDecl → ℕ
of_line a = deepest (types_of_app a.node)

abbrev of_declaration : Node Declaration → ℕ
of_declaration d = deepest (types_of_decl d.node) + 1

abbrev of_namespace : Namespace → ℕ
of_namespace n = deepest (flat_map (λ d. types_of_decl d.item.node) n.decls) + 2

-- the lines of what an action applies to
of_lines : (lines : List (Node AppDecl)) → greatest of_line lines ≤ deepest (flat_map (λ d. types_of_app d.node) (lines ++ []))
of_lines [] = omega arith
of_lines (l ∷ lines) =
    let rest = flat_map (λ (d : Node AppDecl). types_of_app d.node) (lines ++ []) in
    let first = deepest_first (types_of_app l.node) rest in
    let second = deepest_second (types_of_app l.node) rest in
    let others = of_lines lines in omega (arith, first, second, others)

module _ (type : Production TextToken (Node TypeTree)) (t : Opens type of_type) where
  attr_opens : Opens (attr_decl type) of_attribute
  attr_opens =
      opens_annotated _ (λ a. nest a.node.ty.node)
      (plain_then name _ (λ a. nest a.node.ty.node) plain_name (λ n.
      plain_then (optional (mark (codes "?"))) _ (λ a. nest a.node.ty.node) (plain_optional (mark (codes "?")) (plain_mark (codes "?") (refl, refl, refl, refl))) (λ question.
      plain_then (mark (codes ":")) _ (λ a. nest a.node.ty.node) colon (λ _.
      opens_then type _ of_type (λ a. nest a.node.ty.node) t
      (λ ty. tells_gives (attr_of n question ty) (λ a. nest ty.node ≤ nest a.node.ty.node) (omega arith))
      (λ ty. opens_gives (attr_of n question ty) (λ a. nest a.node.ty.node))))))

  record_opens : Opens (record_type type) (λ r. greatest_nest r.node + 1)
  record_opens =
      opens_bracketed (codes "{") (codes "}") _ greatest_nest brace_opens brace_closes
      (opens_either (trailing (mark (codes ",")) (attr_decl type) >>= λ xs. gives (attrs_of xs)) (gives no_attrs) greatest_nest
      (opens_then (trailing (mark (codes ",")) (attr_decl type)) _ (greatest of_attribute) greatest_nest (opens_trailing (mark (codes ",")) (attr_decl type) of_attribute comma attr_opens)
      (λ xs. tells_gives (attrs_of xs) (λ own. greatest of_attribute xs ≤ greatest_nest own) (of_attributes xs))
      (λ xs. opens_gives (attrs_of xs) greatest_nest))
      (opens_gives no_attrs greatest_nest))

  set_opens : Opens (set_type type) of_type
  set_opens =
      plain_then (keyword (codes "Set")) _ of_type (plain_keyword (codes "Set")) (λ set.
      opens_then (bracketed (codes "<") (codes ">") type) _ (λ e. nest e.node.node + 1) of_type (opens_bracketed (codes "<") (codes ">") type of_type angle_opens angle_closes t)
      (λ element. tells_gives (placed (Set element.node.node element.node.loc) set.loc element.loc) (λ y. nest element.node.node + 1 ≤ nest y.node) (omega arith))
      (λ element. opens_gives (placed (Set element.node.node element.node.loc) set.loc element.loc) of_type))

  context_opens : Opens (context_type type) (λ c. deepest (types_of_shape c.node))
  context_opens =
      opens_either (path >>= λ p. gives (stands (Named p) p.loc)) (record_type type >>= λ r. gives (stands (Shape r) r.loc)) (λ c. deepest (types_of_shape c.node))
      (plain_then path _ (λ c. deepest (types_of_shape c.node)) plain_path (λ p. opens_gives (stands (Named p) p.loc) (λ c. deepest (types_of_shape c.node))))
      (opens_then (record_type type) _ (λ r. greatest_nest r.node + 1) (λ c. deepest (types_of_shape c.node)) record_opens
      (λ r. tells_gives (stands (Shape r) r.loc) (λ c. greatest_nest r.node + 1 ≤ deepest (types_of_shape c.node)) (omega arith))
      (λ r. opens_gives (stands (Shape r) r.loc) (λ c. deepest (types_of_shape c.node))))

  line_opens : Opens (app_decl type) of_line
  line_opens =
      opens_either _ _ of_line
      (plain_then pr _ of_line
      (opens_either (keyword (codes "principal") >>= λ k. gives (stands Principal k.loc)) (keyword (codes "resource") >>= λ k. gives (stands Resource k.loc)) nothing
      (plain_then (keyword (codes "principal")) _ nothing (plain_keyword (codes "principal")) (λ k. opens_gives (stands Principal k.loc) nothing))
      (plain_then (keyword (codes "resource")) _ nothing (plain_keyword (codes "resource")) (λ k. opens_gives (stands Resource k.loc) nothing)))
      (λ which.
      plain_then (mark (codes ":")) _ of_line colon (λ _.
      plain_then types _ of_line plain_types (λ ts. opens_gives (placed (Types which ts.node) which.loc ts.loc) of_line))))
      (plain_then (keyword (codes "context")) _ of_line (plain_keyword (codes "context")) (λ context.
      plain_then (mark (codes ":")) _ of_line colon (λ _.
      opens_then (context_type type) _ (λ c. deepest (types_of_shape c.node)) of_line context_opens
      (λ c. tells_gives (placed (Context c.node) context.loc c.loc) (λ a. deepest (types_of_shape c.node) ≤ of_line a) (omega arith))
      (λ c. opens_gives (placed (Context c.node) context.loc c.loc) of_line))))

  shape_opens : Opens (shape_decl type) (λ c. deepest (types_of_shape c))
  shape_opens =
      opens_either (optional (mark (codes "=")) >> record_type type >>= λ r. gives (Shape r)) (mark (codes "=") >> path >>= λ p. gives (Named p)) (λ c. deepest (types_of_shape c))
      (opens_then (optional (mark (codes "=")) >> record_type type) _ (λ r. greatest_nest r.node + 1) (λ c. deepest (types_of_shape c))
      (plain_then (optional (mark (codes "="))) (λ _. record_type type) (λ r. greatest_nest r.node + 1) (plain_optional (mark (codes "=")) equals) (λ _. record_opens))
      (λ r. tells_gives (Shape r) (λ c. greatest_nest r.node + 1 ≤ deepest (types_of_shape c)) (omega arith))
      (λ r. opens_gives (Shape r) (λ c. deepest (types_of_shape c))))
      (plain_then (mark (codes "=") >> path) _ (λ c. deepest (types_of_shape c)) (plain_then (mark (codes "=")) (λ _. path) nothing equals (λ _. plain_path)) (λ p. opens_gives (Named p) (λ c. deepest (types_of_shape c))))

  tags_opens : Opens (tags_clause type) (λ p. nest p.1.node)
  tags_opens =
      plain_then (keyword (codes "tags")) _ (λ p. nest p.1.node) (plain_keyword (codes "tags")) (λ tags.
      opens_then type _ of_type (λ p. nest p.1.node) t
      (λ ty. tells_gives (tags.loc, ty) (λ p. nest ty.node ≤ nest p.1.node) (omega arith))
      (λ ty. opens_gives (tags.loc, ty) (λ p. nest p.1.node)))

  -- ---- declarations

  shape_among : (shape : Option ContextDecl) (place : Place) (others : List (Node TypeTree)) → of_option (λ c. deepest (types_of_shape c)) shape ≤ deepest (types_of_shape (shape_at shape place) ++ others) + 1
  shape_among None place others = omega arith
  shape_among (Some shape) place others = let first = deepest_first (types_of_shape shape) others in omega (arith, first)

  tags_among : (tags : Option (Place × Node TypeTree)) (before : List (Node TypeTree)) → of_option (λ p. nest p.1.node) tags ≤ deepest (before ++ option_to_list (option_map (λ p. p.1) tags)) + 1
  tags_among None before = omega arith
  tags_among (Some tags) before = let second = deepest_second before (tags.1 ∷ []) in omega (arith, second)

  above_plain : Plain ((keyword (codes "in") >> types >>= λ ps. gives ps.node) ∣ gives [])
  above_plain =
      opens_either (keyword (codes "in") >> types >>= λ ps. gives ps.node) (gives []) nothing
      (plain_then (keyword (codes "in") >> types) _ nothing (plain_then (keyword (codes "in")) (λ _. types) nothing (plain_keyword (codes "in")) (λ _. plain_types)) (λ ps. opens_gives ps.node nothing))
      (opens_gives [] nothing)

  standard_opens : Opens (standard_entity type) of_declaration
  standard_opens =
      plain_then (keyword (codes "entity")) _ of_declaration (plain_keyword (codes "entity")) (λ entity.
      plain_then idents _ of_declaration (plain_commas ident plain_ident) (λ ns.
      plain_then ((keyword (codes "in") >> types >>= λ ps. gives ps.node) ∣ gives []) _ of_declaration above_plain (λ parents.
      opens_then (maybe (shape_decl type)) _ (of_option (λ c. deepest (types_of_shape c))) of_declaration (opens_maybe (shape_decl type) (λ c. deepest (types_of_shape c)) shape_opens)
      (λ shape. tells_then (maybe (tags_clause type)) _ (λ d. of_option (λ c. deepest (types_of_shape c)) shape ≤ of_declaration d) (λ tags. tells_then (mark (codes ";")) _ (λ d. of_option (λ c. deepest (types_of_shape c)) shape ≤ of_declaration d)
      (λ semicolon. tells_gives _ (λ d. of_option (λ c. deepest (types_of_shape c)) shape ≤ of_declaration d) (shape_among shape (behind_shape tags semicolon.loc) (option_to_list (option_map (λ p. p.1) tags))))))
      (λ shape.
      opens_then (maybe (tags_clause type)) _ (of_option (λ p. nest p.1.node)) of_declaration (opens_maybe (tags_clause type) (λ p. nest p.1.node) tags_opens)
      (λ tags. tells_then (mark (codes ";")) _ (λ d. of_option (λ p. nest p.1.node) tags ≤ of_declaration d)
      (λ semicolon. tells_gives _ (λ d. of_option (λ p. nest p.1.node) tags ≤ of_declaration d) (tags_among tags (types_of_shape (shape_at shape (behind_shape tags semicolon.loc))))))
      (λ tags.
      plain_then (mark (codes ";")) _ of_declaration semicolon_plain (λ semicolon. opens_gives _ of_declaration))))))

  enum_opens : Opens enum_entity of_declaration
  enum_opens =
      plain_then (keyword (codes "entity")) _ of_declaration (plain_keyword (codes "entity")) (λ entity.
      plain_then idents _ of_declaration (plain_commas ident plain_ident) (λ ns.
      plain_then (keyword (codes "enum")) _ of_declaration (plain_keyword (codes "enum")) (λ _.
      plain_then (bracketed (codes "[") (codes "]") (commas str)) _ of_declaration (plain_list (commas str) (plain_commas str plain_str)) (λ choices.
      plain_then (mark (codes ";")) _ of_declaration semicolon_plain (λ semicolon. opens_gives _ of_declaration)))))

  applies_opens : Opens (applies_to type) (λ a. greatest of_line a.node + 1)
  applies_opens =
      plain_then (keyword (codes "appliesTo")) (λ _. bracketed (codes "{") (codes "}") (trailing (mark (codes ",")) (app_decl type))) (λ a. greatest of_line a.node + 1) (plain_keyword (codes "appliesTo"))
      (λ _. opens_bracketed (codes "{") (codes "}") (trailing (mark (codes ",")) (app_decl type)) (greatest of_line) brace_opens brace_closes (opens_trailing (mark (codes ",")) (app_decl type) of_line comma line_opens))

  applies_among : (applies : Option (Node (List (Node AppDecl)))) → of_option (λ a. greatest of_line a.node + 1) applies ≤ deepest (flat_map (λ d. types_of_app d.node) (flat_map (λ apps. apps.node) (option_to_list applies))) + 1
  applies_among None = omega arith
  applies_among (Some lines) = let each = of_lines lines.node in omega (arith, each)

  tail_opens : Opens attributes_tail (λ _. 1)
  tail_opens = record { keeps = by }
    where
      by : (ts : Tokens) (y : Node Text) (rest : Tokens) → attributes_tail.reads ts y rest → (b n : ℕ) → n + 1 ≤ b → Within b n rest → Within b n ts
      by ts y rest (opening, m, (k, m', first, open_read), close_read) b n room w =
          let back : n + 1 - 1 ≡ n = omega arith in
          let closing_is = passes (is_mark_token (codes "}")) close_read.token y close_read.is in
          let opening_is = passes (is_mark_token (codes "{")) open_read.token opening open_read.is in
          let at_end : Within b (n + 1) m = within_token b (n + 1) (n + 1 - 1) close_read.token rest m close_read.front (brace_closes close_read.token (n + 1) closing_is) room (subst (λ k. Within b k rest) (sym back) w) in
          let at_start : Within b n m' = within_token b n (n + 1) open_read.token m m' open_read.front (brace_opens open_read.token n opening_is) (omega (arith, room)) at_end in
          (plain_keyword (codes "attributes")).keeps ts k m' first b n (omega (arith, room)) at_start

  groups_plain : Plain ((keyword (codes "in") >> refs >>= λ rs. gives rs.node) ∣ gives [])
  groups_plain =
      opens_either (keyword (codes "in") >> refs >>= λ rs. gives rs.node) (gives []) nothing
      (plain_then (keyword (codes "in") >> refs) _ nothing (plain_then (keyword (codes "in")) (λ _. refs) nothing (plain_keyword (codes "in")) (λ _. plain_refs)) (λ rs. opens_gives rs.node nothing))
      (opens_gives [] nothing)

  optional_tail_opens : Opens (optional attributes_tail) (λ _. 1)
  optional_tail_opens =
      opens_either (attributes_tail >> gives true) (gives false) (λ _. 1)
      (opens_then attributes_tail (λ _. gives true) (λ _. 1) (λ _. 1) tail_opens (λ _. tells_gives true (λ _. 1 ≤ 1) (omega arith)) (λ _. opens_gives true (λ _. 1)))
      (opens_gives false (λ _. 1))

  action_opens : Opens (action_decl type) of_declaration
  action_opens =
      plain_then (keyword (codes "action")) _ of_declaration (plain_keyword (codes "action")) (λ action.
      plain_then names _ of_declaration (plain_commas name plain_name) (λ ns.
      plain_then ((keyword (codes "in") >> refs >>= λ rs. gives rs.node) ∣ gives []) _ of_declaration groups_plain (λ parents.
      opens_then (maybe (applies_to type)) _ (of_option (λ a. greatest of_line a.node + 1)) of_declaration (opens_maybe (applies_to type) (λ a. greatest of_line a.node + 1) applies_opens)
      (λ applies. tells_then (optional attributes_tail) _ (λ d. of_option (λ a. greatest of_line a.node + 1) applies ≤ of_declaration d) (λ _. tells_then (mark (codes ";")) _ (λ d. of_option (λ a. greatest of_line a.node + 1) applies ≤ of_declaration d)
      (λ semicolon. tells_gives _ (λ d. of_option (λ a. greatest of_line a.node + 1) applies ≤ of_declaration d) (applies_among applies))))
      (λ applies.
      opens_then (optional attributes_tail) _ (λ _. 1) of_declaration optional_tail_opens
      (λ _. tells_then (mark (codes ";")) _ (λ d. 1 ≤ of_declaration d) (λ semicolon. tells_gives _ (λ d. 1 ≤ of_declaration d) (omega arith)))
      (λ _. plain_then (mark (codes ";")) _ of_declaration semicolon_plain (λ semicolon. opens_gives _ of_declaration))))))

  common_opens : Opens (type_decl type) of_declaration
  common_opens =
      plain_then (keyword (codes "type")) _ of_declaration (plain_keyword (codes "type")) (λ keyword_type.
      plain_then ident _ of_declaration plain_ident (λ n.
      plain_then (mark (codes "=")) _ of_declaration equals (λ _.
      opens_then type _ of_type of_declaration t
      (λ ty. tells_then (mark (codes ";")) _ (λ d. nest ty.node ≤ of_declaration d) (λ semicolon. tells_gives _ (λ d. nest ty.node ≤ of_declaration d) (omega arith)))
      (λ ty. plain_then (mark (codes ";")) _ of_declaration semicolon_plain (λ semicolon. opens_gives _ of_declaration)))))

  declaration_opens : Opens (decl type) of_declaration
  declaration_opens =
      opens_either (standard_entity type ∣ enum_entity ∣ action_decl type) (type_decl type) of_declaration
      (opens_either (standard_entity type ∣ enum_entity) (action_decl type) of_declaration
      (opens_either (standard_entity type) enum_entity of_declaration standard_opens enum_opens)
      action_opens)
      common_opens

  namespace_opens : Opens (namespace type) of_namespace
  namespace_opens =
      plain_then (keyword (codes "namespace")) _ of_namespace (plain_keyword (codes "namespace")) (λ keyword_namespace.
      plain_then path _ of_namespace plain_path (λ p.
      opens_then (bracketed (codes "{") (codes "}") (many (annotated (decl type)))) _ (λ ds. greatest (λ a. of_declaration a.item) ds.node + 1) of_namespace
      (opens_bracketed (codes "{") (codes "}") (many (annotated (decl type))) (greatest (λ a. of_declaration a.item)) brace_opens brace_closes
      (opens_many (annotated (decl type)) (λ a. of_declaration a.item) (opens_annotated (decl type) of_declaration declaration_opens)))
      (λ ds. tells_gives _ (λ n. greatest (λ a. of_declaration a.item) ds.node + 1 ≤ of_namespace n)
      (let each = deepest_each (λ (d : Annotated (Node Declaration)). types_of_decl d.item.node) 1 ds.node in omega (arith, each)))
      (λ ds. opens_gives _ of_namespace)))

  abbrev of_item : Annotated Namespace → ℕ
  of_item n = deepest (types_of_namespace n) + 2

  item_opens : Opens (annots >>= item_behind type) of_item
  item_opens =
      plain_then annots _ of_item plain_annots (λ annotations.
      opens_either _ _ of_item
      (opens_then (namespace type) _ of_namespace of_item namespace_opens
      (λ n. tells_gives (record { item = n; annotations = annotations }) (λ i. of_namespace n ≤ of_item i) (omega arith))
      (λ n. opens_gives (record { item = n; annotations = annotations }) of_item))
      (opens_then (decl type) _ of_declaration of_item declaration_opens
      (λ d. tells_gives (alone annotations d) (λ i. of_declaration d ≤ of_item i) (let first = deepest_first (types_of_decl d.node) [] in omega (arith, first)))
      (λ d. opens_gives (alone annotations d) of_item)))

  pub schema_opens : Opens (schema type) (λ s. deepest (outermost_types s) + 2)
  schema_opens = opens_less (schema type) (greatest of_item) (λ s. deepest (outermost_types s) + 2) (λ s. deepest_each types_of_namespace 2 s) (opens_many (annots >>= item_behind type) of_item item_opens)

-- types of each level open as many as they nest
pub types_open : (n : ℕ) → Opens (type_upto n) of_type
types_open zero = plain_then path _ of_type plain_path (λ p. opens_gives (as_name p) of_type)
types_open (suc n) =
    opens_either (set_type (type_upto n) ∣ (record_type (type_upto n) >>= λ r. gives (as_record r))) (path >>= λ p. gives (as_name p)) of_type
    (opens_either (set_type (type_upto n)) (record_type (type_upto n) >>= λ r. gives (as_record r)) of_type
    (set_opens (type_upto n) (types_open n))
    (opens_then (record_type (type_upto n)) _ (λ r. greatest_nest r.node + 1) of_type (record_opens (type_upto n) (types_open n))
    (λ r. tells_gives (as_record r) (λ y. greatest_nest r.node + 1 ≤ nest y.node) (omega arith))
    (λ r. opens_gives (as_record r) of_type)))
    (plain_then path _ of_type plain_path (λ p. opens_gives (as_name p) of_type))
