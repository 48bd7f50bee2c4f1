-- SPDX-License-Identifier: Apache-2.0
-- The beginnings of a schema are what some further tokens complete.
use Rattle.std.proofs.Common.{◌≡◌, ◌↔◌, ℕ, zero, suc, Bool, true, List, [], ◌∷◌, ◌++◌, codes, Some, None, refl}
use Rattle.std.proofs.lemmas.Slice.Eq.{bytes_eq-Decides}
use Rattle.cedar_tokens.specs.Lexemes.{TextToken}
use Rattle.cedar_tokens.specs.declared.token.TokenKind.{TokenKind}
use Rattle.cedar_tokens.specs.declared.token.TokenKind.TheVariants as kind
use Rattle.cedar_grammar.specs.Productions.{each, Production, class, gives, ◌>>=◌, ◌>>◌, ◌∣◌, many, optional, maybe, trailing, Completable}
use Rattle.cedar_tree.specs.Trees.{Node, stands, placed, Place, Annotations, ByKey, by_key, TypeTree, Set, no_attrs, attrs_of, Principal, Resource, Named, Shape, Types, Context, Schema}
use Rattle.cedar_grammar.specs.Grammar.{at_token, text_where, is_word_token, is_keyword, is_mark_token, is_ident_token, literal_value, keyword, mark, word, str, ident, name, commas, bracketed, path_of, path, idents, names, one_or_list, types, qualified, ref, refs, annotation_of, keys_of, is_new_key, annotation, annots, annotated, attr_of, attr_decl, record_type, set_type, as_record, as_name, type_upto, tags_clause, shape_decl, standard_entity, enum_entity, pr, context_type, app_decl, applies_to, attributes_tail, action_decl, type_decl, decl, namespace, alone, item_behind, schema, Reads, Viable}
use Rattle.cedar_grammar.proofs.Agreement.{Agrees, completed, begun, class_agrees, gives_agrees, either_agrees, then_agrees, many_agrees, each_agrees, optional_agrees, maybe_agrees, separated_agrees, trailing_agrees}
use Rattle.cedar_grammar.proofs.FreshKeys.{fresh, fresh_is_new, fresh_is_word}

-- some place
abbrev nowhere : Place
nowhere = record { start = 0; end = 0; src = [] }

-- some token of this kind and text
abbrev pub some : TokenKind → List ℕ → TextToken
some k s = record { kind = k; text = s; loc = nowhere }

pub text_agrees : (p : TextToken → Bool) (t : TextToken) → p t ≡ true → Agrees (class (text_where p))
text_agrees p t e = class_agrees (text_where p) t (at_token t t.text) (rw e refl)

pub keyword_agrees : (s : List ℕ) → Agrees (keyword s)
keyword_agrees s = text_agrees (is_keyword s) (some kind.Word s) ((bytes_eq-Decides s s).1 refl)

pub mark_agrees : (s : List ℕ) → Agrees (mark s)
mark_agrees s = text_agrees (is_mark_token s) (some kind.Punct s) ((bytes_eq-Decides s s).1 refl)

pub word_agrees : Agrees word
word_agrees = text_agrees is_word_token (some kind.Word (97 ∷ [])) refl

pub ident_agrees : Agrees ident
ident_agrees = text_agrees is_ident_token (some kind.Word (97 ∷ [])) refl

pub str_agrees : Agrees str
str_agrees = class_agrees literal_value (some kind.Str (34 ∷ 34 ∷ [])) (stands [] nowhere) refl

pub name_agrees : Agrees name
name_agrees = either_agrees word str word_agrees str_agrees

pub commas_agree : {A : Type 0} (R : Production TextToken A) → Agrees R → Agrees (commas R)
commas_agree R a = separated_agrees (mark (codes ",")) R (mark_agrees (codes ",")) a

pub bracketed_agrees : {A : Type 0} (opening closing : List ℕ) (R : Production TextToken A) → Agrees R → Agrees (bracketed opening closing R)
bracketed_agrees opening closing R a =
    then_agrees (mark opening) _ (mark_agrees opening) (λ before.
    then_agrees R _ a (λ x.
    then_agrees (mark closing) _ (mark_agrees closing) (λ behind. gives_agrees (placed x before.loc behind.loc))))

pub one_or_list_agrees : {A : Type 0} (R : Production TextToken (Node A)) → Agrees R → Agrees (one_or_list R)
one_or_list_agrees R a =
    either_agrees (R >>= λ x. gives (stands (x ∷ []) x.loc)) (bracketed (codes "[") (codes "]") (commas R ∣ gives []))
    (then_agrees R _ a (λ x. gives_agrees (stands (x ∷ []) x.loc)))
    (bracketed_agrees (codes "[") (codes "]") (commas R ∣ gives []) (either_agrees (commas R) (gives []) (commas_agree R a) (gives_agrees [])))

pub path_agrees : Agrees path
path_agrees =
    then_agrees ident _ ident_agrees (λ n.
    then_agrees (many (mark (codes "::") >> ident)) _ (many_agrees (mark (codes "::") >> ident) (then_agrees (mark (codes "::")) _ (mark_agrees (codes "::")) (λ _. ident_agrees))) (λ others.
    gives_agrees (path_of n others)))

pub types_agree : Agrees types
types_agree = one_or_list_agrees path path_agrees

pub ref_agrees : Agrees ref
ref_agrees =
    either_agrees _ (name >>= λ id. gives (qualified None id id.loc))
    (then_agrees path _ path_agrees (λ p.
    then_agrees (mark (codes "::")) _ (mark_agrees (codes "::")) (λ _.
    then_agrees str _ str_agrees (λ id. gives_agrees (qualified (Some p) id p.loc)))))
    (then_agrees name _ name_agrees (λ id. gives_agrees (qualified None id id.loc)))

pub new_key : (before : Annotations) → is_new_key before (some kind.Word (fresh (keys_of before))) ≡ true
new_key before = rw (fresh_is_word (keys_of before), fresh_is_new (keys_of before)) refl

pub annotation_agrees : (before : Annotations) → Agrees (annotation before)
annotation_agrees before =
    then_agrees (mark (codes "@")) _ (mark_agrees (codes "@")) (λ at.
    then_agrees (class (text_where (is_new_key before))) _ (text_agrees (is_new_key before) (some kind.Word (fresh (keys_of before))) (new_key before)) (λ key.
    then_agrees (maybe (bracketed (codes "(") (codes ")") str)) _ (maybe_agrees (bracketed (codes "(") (codes ")") str) (bracketed_agrees (codes "(") (codes ")") str str_agrees)) (λ value.
    gives_agrees (annotation_of at.loc key value))))

pub annots_agree : Agrees annots
annots_agree = then_agrees (each annotation) _ (each_agrees annotation annotation_agrees) (λ written. gives_agrees (by_key written))

module _ {A : Type 0} (R : Production TextToken A) (a : Agrees R) where
  pub annotated_agrees : Agrees (annotated R)
  annotated_agrees = then_agrees annots _ annots_agree (λ annotations. then_agrees R _ a (λ x. gives_agrees _))

-- what holds at any type that agrees
module _ (type : Production TextToken (Node TypeTree)) (a : Agrees type) where
  pub attr_agrees : Agrees (attr_decl type)
  attr_agrees =
      annotated_agrees _
      (then_agrees name _ name_agrees (λ n.
      then_agrees (optional (mark (codes "?"))) _ (optional_agrees (mark (codes "?")) (mark_agrees (codes "?"))) (λ question.
      then_agrees (mark (codes ":")) _ (mark_agrees (codes ":")) (λ _.
      then_agrees type _ a (λ ty. gives_agrees (attr_of n question ty))))))

  pub record_agrees : Agrees (record_type type)
  record_agrees =
      bracketed_agrees (codes "{") (codes "}") _
      (either_agrees _ (gives no_attrs)
      (then_agrees (trailing (mark (codes ",")) (attr_decl type)) _ (trailing_agrees (mark (codes ",")) (attr_decl type) (mark_agrees (codes ",")) attr_agrees) (λ xs. gives_agrees (attrs_of xs)))
      (gives_agrees no_attrs))

  pub set_agrees : Agrees (set_type type)
  set_agrees =
      then_agrees (keyword (codes "Set")) _ (keyword_agrees (codes "Set")) (λ set.
      then_agrees (bracketed (codes "<") (codes ">") type) _ (bracketed_agrees (codes "<") (codes ">") type a) (λ element.
      gives_agrees (placed (Set element.node.node element.node.loc) set.loc element.loc)))

pub named_agrees : Agrees (path >>= λ p. gives (as_name p))
named_agrees = then_agrees path _ path_agrees (λ p. gives_agrees (as_name p))

pub type_agrees : (n : ℕ) → Agrees (type_upto n)
type_agrees zero = named_agrees
type_agrees (suc n) =
    either_agrees _ (path >>= λ p. gives (as_name p))
    (either_agrees (set_type (type_upto n)) (record_type (type_upto n) >>= λ r. gives (as_record r))
    (set_agrees (type_upto n) (type_agrees n))
    (then_agrees (record_type (type_upto n)) _ (record_agrees (type_upto n) (type_agrees n)) (λ r. gives_agrees (as_record r))))
    named_agrees

pub enum_agrees : Agrees enum_entity
enum_agrees =
    then_agrees (keyword (codes "entity")) _ (keyword_agrees (codes "entity")) (λ entity.
    then_agrees idents _ (commas_agree ident ident_agrees) (λ ns.
    then_agrees (keyword (codes "enum")) _ (keyword_agrees (codes "enum")) (λ _.
    then_agrees (bracketed (codes "[") (codes "]") (commas str)) _ (bracketed_agrees (codes "[") (codes "]") (commas str) (commas_agree str str_agrees)) (λ choices.
    then_agrees (mark (codes ";")) _ (mark_agrees (codes ";")) (λ semicolon. gives_agrees _)))))

pub pr_agrees : Agrees pr
pr_agrees =
    either_agrees (keyword (codes "principal") >>= λ k. gives (stands Principal k.loc)) (keyword (codes "resource") >>= λ k. gives (stands Resource k.loc))
    (then_agrees (keyword (codes "principal")) _ (keyword_agrees (codes "principal")) (λ k. gives_agrees (stands Principal k.loc)))
    (then_agrees (keyword (codes "resource")) _ (keyword_agrees (codes "resource")) (λ k. gives_agrees (stands Resource k.loc)))

pub tail_agrees : Agrees attributes_tail
tail_agrees =
    then_agrees (keyword (codes "attributes") >> mark (codes "{")) _
    (then_agrees (keyword (codes "attributes")) _ (keyword_agrees (codes "attributes")) (λ _. mark_agrees (codes "{")))
    (λ _. mark_agrees (codes "}"))

module _ (type : Production TextToken (Node TypeTree)) (a : Agrees type) where
  pub tags_agree : Agrees (tags_clause type)
  tags_agree = then_agrees (keyword (codes "tags")) _ (keyword_agrees (codes "tags")) (λ tags. then_agrees type _ a (λ ty. gives_agrees (tags.loc, ty)))

  pub shape_agrees : Agrees (shape_decl type)
  shape_agrees =
      either_agrees (optional (mark (codes "=")) >> record_type type >>= λ r. gives (Shape r)) (mark (codes "=") >> path >>= λ p. gives (Named p))
      (then_agrees (optional (mark (codes "=")) >> record_type type) _
      (then_agrees (optional (mark (codes "="))) _ (optional_agrees (mark (codes "=")) (mark_agrees (codes "="))) (λ _. record_agrees type a))
      (λ r. gives_agrees (Shape r)))
      (then_agrees (mark (codes "=") >> path) _ (then_agrees (mark (codes "=")) _ (mark_agrees (codes "=")) (λ _. path_agrees)) (λ p. gives_agrees (Named p)))

  pub standard_agrees : Agrees (standard_entity type)
  standard_agrees =
      then_agrees (keyword (codes "entity")) _ (keyword_agrees (codes "entity")) (λ entity.
      then_agrees idents _ (commas_agree ident ident_agrees) (λ ns.
      then_agrees ((keyword (codes "in") >> types >>= λ ps. gives ps.node) ∣ gives []) _
      (either_agrees (keyword (codes "in") >> types >>= λ ps. gives ps.node) (gives [])
      (then_agrees (keyword (codes "in") >> types) _ (then_agrees (keyword (codes "in")) _ (keyword_agrees (codes "in")) (λ _. types_agree)) (λ ps. gives_agrees ps.node))
      (gives_agrees []))
      (λ parents.
      then_agrees (maybe (shape_decl type)) _ (maybe_agrees (shape_decl type) shape_agrees) (λ shape.
      then_agrees (maybe (tags_clause type)) _ (maybe_agrees (tags_clause type) tags_agree) (λ tags.
      then_agrees (mark (codes ";")) _ (mark_agrees (codes ";")) (λ semicolon. gives_agrees _))))))

  pub context_agrees : Agrees (context_type type)
  context_agrees =
      either_agrees (path >>= λ p. gives (stands (Named p) p.loc)) (record_type type >>= λ r. gives (stands (Shape r) r.loc))
      (then_agrees path _ path_agrees (λ p. gives_agrees (stands (Named p) p.loc)))
      (then_agrees (record_type type) _ (record_agrees type a) (λ r. gives_agrees (stands (Shape r) r.loc)))

  pub app_agrees : Agrees (app_decl type)
  app_agrees =
      either_agrees _ _
      (then_agrees pr _ pr_agrees (λ which.
      then_agrees (mark (codes ":")) _ (mark_agrees (codes ":")) (λ _.
      then_agrees types _ types_agree (λ ts. gives_agrees (placed (Types which ts.node) which.loc ts.loc)))))
      (then_agrees (keyword (codes "context")) _ (keyword_agrees (codes "context")) (λ context.
      then_agrees (mark (codes ":")) _ (mark_agrees (codes ":")) (λ _.
      then_agrees (context_type type) _ context_agrees (λ c. gives_agrees (placed (Context c.node) context.loc c.loc)))))

  pub applies_agree : Agrees (applies_to type)
  applies_agree =
      then_agrees (keyword (codes "appliesTo")) _ (keyword_agrees (codes "appliesTo")) (λ _.
      bracketed_agrees (codes "{") (codes "}") (trailing (mark (codes ",")) (app_decl type))
      (trailing_agrees (mark (codes ",")) (app_decl type) (mark_agrees (codes ",")) app_agrees))

  pub action_agrees : Agrees (action_decl type)
  action_agrees =
      then_agrees (keyword (codes "action")) _ (keyword_agrees (codes "action")) (λ action.
      then_agrees names _ (commas_agree name name_agrees) (λ ns.
      then_agrees ((keyword (codes "in") >> refs >>= λ rs. gives rs.node) ∣ gives []) _
      (either_agrees (keyword (codes "in") >> refs >>= λ rs. gives rs.node) (gives [])
      (then_agrees (keyword (codes "in") >> refs) _ (then_agrees (keyword (codes "in")) _ (keyword_agrees (codes "in")) (λ _. one_or_list_agrees ref ref_agrees)) (λ rs. gives_agrees rs.node))
      (gives_agrees []))
      (λ parents.
      then_agrees (maybe (applies_to type)) _ (maybe_agrees (applies_to type) applies_agree) (λ applies.
      then_agrees (optional attributes_tail) _ (optional_agrees attributes_tail tail_agrees) (λ _.
      then_agrees (mark (codes ";")) _ (mark_agrees (codes ";")) (λ semicolon. gives_agrees _))))))

  pub type_decl_agrees : Agrees (type_decl type)
  type_decl_agrees =
      then_agrees (keyword (codes "type")) _ (keyword_agrees (codes "type")) (λ keyword_type.
      then_agrees ident _ ident_agrees (λ n.
      then_agrees (mark (codes "=")) _ (mark_agrees (codes "=")) (λ _.
      then_agrees type _ a (λ ty.
      then_agrees (mark (codes ";")) _ (mark_agrees (codes ";")) (λ semicolon. gives_agrees _)))))

  pub decl_agrees : Agrees (decl type)
  decl_agrees =
      either_agrees (standard_entity type ∣ enum_entity ∣ action_decl type) (type_decl type)
      (either_agrees (standard_entity type ∣ enum_entity) (action_decl type)
      (either_agrees (standard_entity type) enum_entity standard_agrees enum_agrees)
      action_agrees)
      type_decl_agrees

  pub namespace_agrees : Agrees (namespace type)
  namespace_agrees =
      then_agrees (keyword (codes "namespace")) _ (keyword_agrees (codes "namespace")) (λ keyword_namespace.
      then_agrees path _ path_agrees (λ p.
      then_agrees (bracketed (codes "{") (codes "}") (many (annotated (decl type)))) _
      (bracketed_agrees (codes "{") (codes "}") (many (annotated (decl type))) (many_agrees (annotated (decl type)) (annotated_agrees (decl type) decl_agrees)))
      (λ ds. gives_agrees _)))

  pub item_agrees : (annotations : ByKey) → Agrees (item_behind type annotations)
  item_agrees annotations =
      either_agrees _ (decl type >>= λ d. gives (alone annotations d))
      (then_agrees (namespace type) _ namespace_agrees (λ n. gives_agrees _))
      (then_agrees (decl type) _ decl_agrees (λ d. gives_agrees (alone annotations d)))

  pub schema_agrees : Agrees (schema type)
  schema_agrees = many_agrees (annots >>= item_behind type) (then_agrees annots (item_behind type) annots_agree item_agrees)

pub begins_as_completable : (n : ℕ) (ts : List TextToken) → (schema (type_upto n)).begins ts ↔ Completable (schema (type_upto n)) ts
begins_as_completable n ts =
    let a = schema_agrees (type_upto n) (type_agrees n) in
    (completed (schema (type_upto n)) a ts, begun (schema (type_upto n)) a ts)

pub viable_as_completable : (ts : List TextToken) → Viable ts ↔ ((further : List TextToken) × (s : Schema) × Reads (ts ++ further) s)
viable_as_completable ts = (there, back)
  where
    there : Viable ts → (further : List TextToken) × (s : Schema) × Reads (ts ++ further) s
    there (n, b) = let c = (begins_as_completable n ts).0 b in (c.0, c.1, (n, c.2))

    back : (further : List TextToken) × (s : Schema) × Reads (ts ++ further) s → Viable ts
    back (further, s, (n, r)) = (n, (begins_as_completable n ts).1 (further, s, r))
