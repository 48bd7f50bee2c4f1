-- SPDX-License-Identifier: Apache-2.0
-- What the grammar reads has identifiers where identifiers stand, and annotations in the order of their keys.
use Rattle.std.proofs.Common.{◌≡◌, ℕ, zero, suc, Bool, true, false, if◌then◌else◌, IsTrue, List, [], ◌∷◌, map, All, Option, Some, None, IfSome, option_map, codes, sym, subst, inl, inr}
use Rattle.std.proofs.lemmas.Cmp.{nat_list_cmp_total}
use Rattle.std.proofs.lemmas.List.Elements.{All-nil, All-cons, All-head, All-tail, All-map}
use Rattle.cedar_tree.specs.of_names.Order.{word_cmp}
use Rattle.cedar_tokens.specs.Lexemes.{TextToken}
use Rattle.cedar_tokens.specs.of_text.Words.{is_id}
use Rattle.cedar_grammar.specs.Productions.{Production, gives, ◌>>=◌, ◌>>◌, ◌∣◌, each, ReadsMany, none, more, many, optional, maybe, separated, trailing}
use Rattle.cedar_tree.specs.Trees.{Node, Place, Text, stands, placed, Annotated, TypeTree, Set, attrs_of, no_attrs, AttrDecl, ContextDecl, Named, Shape, Types, Context, Declaration, Namespace, Schema, by_key}
use Rattle.cedar_grammar.specs.Grammar.{at_token, text_where, is_ident_token, keyword, mark, ident, idents, names, path_of, path, bracketed, commas, str, name, types, one_or_list, qualified, ref, refs, annotation, annotated, annots, attr_of, attr_decl, record_type, pr, context_type, app_decl, set_type, as_record, as_name, type_upto, tags_clause, shape_at, behind_shape, shape_decl, standard_entity, enum_entity, applies_to, attributes_tail, action_decl, type_decl, decl, namespace, alone, item_behind, schema, Reads}
use Rattle.cedar_grammar.specs.AsRead.{IsIdent, OfIds, InOrder, TypeAsRead, AttrsAsRead, ShapeAsRead, RefOfIds, AppAsRead, DeclAsRead, AnnotatedAsRead, NamespaceAsRead, SchemaAsRead}
use Rattle.cedar_grammar.proofs.MapsSorted.{map_of-sorted}
use Rattle.cedar_grammar.proofs.Tokens.{passes, ident_is}

-- what R reads has Q
record Holds {A : Type 0} (R : Production TextToken A) (Q : A → Type 0) : Type 0 where
  pub holds : (ts : List TextToken) (x : A) (rest : List TextToken) → R.reads ts x rest → Q x

-- nothing is said
abbrev Any : {A : Type 0} → A → Type 0
Any x = Unit {0}

any : {A : Type 0} (R : Production TextToken A) → Holds R Any
any R = record { holds = λ ts x rest r. tt }

gives_holds : {A : Type 0} (Q : A → Type 0) (a : A) → Q a → Holds (gives a) Q
gives_holds Q a h = record { holds = λ ts x rest r. subst Q (sym r.0) h }

then_holds : {A B : Type 0} (R : Production TextToken A) (S : A → Production TextToken B) (P : A → Type 0) (Q : B → Type 0) → Holds R P → ((x : A) → P x → Holds (S x) Q) → Holds (R >>= S) Q
then_holds R S P Q a b = record { holds = λ ts y rest (x, mid, r, s). (b x (a.holds ts x mid r)).holds mid y rest s }

-- where of the first nothing is needed
rest_holds : {A B : Type 0} (R : Production TextToken A) (S : A → Production TextToken B) (Q : B → Type 0) → ((x : A) → Holds (S x) Q) → Holds (R >>= S) Q
rest_holds R S Q b = record { holds = λ ts y rest (x, mid, r, s). (b x).holds mid y rest s }

either_holds : {A : Type 0} (R S : Production TextToken A) (Q : A → Type 0) → Holds R Q → Holds S Q → Holds (R ∣ S) Q
either_holds {A} R S Q a b = record { holds = by }
  where
    by : (ts : List TextToken) (x : A) (rest : List TextToken) → (R ∣ S).reads ts x rest → Q x
    by ts x rest (inl r) = a.holds ts x rest r
    by ts x rest (inr s) = b.holds ts x rest s

maybe_holds : {A : Type 0} (R : Production TextToken A) (Q : A → Type 0) → Holds R Q → Holds (maybe R) (λ o. IfSome o Q)
maybe_holds R Q a =
    either_holds (R >>= λ x. gives (Some x)) (gives None) (λ o. IfSome o Q)
    (then_holds R (λ x. gives (Some x)) Q (λ o. IfSome o Q) a (λ x h. gives_holds (λ o. IfSome o Q) (Some x) h))
    (gives_holds (λ o. IfSome o Q) None tt)

many_holds : {A : Type 0} (R : Production TextToken A) (Q : A → Type 0) → Holds R Q → Holds (many R) (All Q)
many_holds {A} R Q a = record { holds = by }
  where
    by : (ts : List TextToken) (xs : List A) (rest : List TextToken) → ReadsMany R.reads ts xs rest → All Q xs
    by ts _ _ none = All-nil Q
    by ts _ rest (more {mid = mid} {x = x} {xs = xs} r others) = All-cons Q x xs (a.holds ts x mid r) (by mid xs rest others)

separated_holds : {S A : Type 0} (separator : Production TextToken S) (R : Production TextToken A) (Q : A → Type 0) → Holds R Q → Holds (separated separator R) (All Q)
separated_holds separator R Q a =
    then_holds R _ Q (All Q) a (λ x h.
    then_holds (many (separator >> R)) _ (All Q) (All Q) (many_holds (separator >> R) Q (rest_holds separator (λ _. R) Q (λ _. a))) (λ xs hs.
    gives_holds (All Q) (x ∷ xs) (All-cons Q x xs h hs)))

trailing_holds : {S A : Type 0} (separator : Production TextToken S) (R : Production TextToken A) (Q : A → Type 0) → Holds R Q → Holds (trailing separator R) (All Q)
trailing_holds separator R Q a =
    then_holds (separated separator R) _ (All Q) (All Q) (separated_holds separator R Q a) (λ xs hs.
    rest_holds (optional separator) _ (All Q) (λ _. gives_holds (All Q) xs hs))

commas_holds : {A : Type 0} (R : Production TextToken A) (Q : A → Type 0) → Holds R Q → Holds (commas R) (All Q)
commas_holds R Q a = separated_holds (mark (codes ",")) R Q a

bracketed_holds : {A : Type 0} (opening closing : List ℕ) (R : Production TextToken A) (Q : A → Type 0) → Holds R Q → Holds (bracketed opening closing R) (λ n. Q n.node)
bracketed_holds opening closing R Q a =
    rest_holds (mark opening) _ _ (λ before.
    then_holds R _ Q _ a (λ x h.
    rest_holds (mark closing) _ _ (λ behind. gives_holds (λ n. Q n.node) (placed x before.loc behind.loc) h)))

one_or_list_holds : {A : Type 0} (R : Production TextToken (Node A)) (Q : Node A → Type 0) → Holds R Q → Holds (one_or_list R) (λ n. All Q n.node)
one_or_list_holds R Q a =
    either_holds (R >>= λ x. gives (stands (x ∷ []) x.loc)) (bracketed (codes "[") (codes "]") (commas R ∣ gives [])) (λ n. All Q n.node)
    (then_holds R _ Q _ a (λ x h. gives_holds (λ n. All Q n.node) (stands (x ∷ []) x.loc) (All-cons Q x [] h (All-nil Q))))
    (bracketed_holds (codes "[") (codes "]") (commas R ∣ gives []) (All Q)
    (either_holds (commas R) (gives []) (All Q) (commas_holds R Q a) (gives_holds (All Q) [] (All-nil Q))))

annots_hold : Holds annots InOrder
annots_hold = rest_holds (each annotation) _ InOrder (λ written. gives_holds InOrder (by_key written) (map_of-sorted word_cmp nat_list_cmp_total (map (λ a. (a.node.key, stands a.node.value a.loc)) written)))

annotated_holds : {A : Type 0} (R : Production TextToken A) (Q : A → Type 0) → Holds R Q → Holds (annotated R) (λ a. InOrder a.annotations × Q a.item)
annotated_holds R Q a =
    then_holds annots _ InOrder _ annots_hold (λ annotations sorted.
    then_holds R _ Q _ a (λ x h. gives_holds (λ n. InOrder n.annotations × Q n.item) (record { item = x; annotations = annotations }) (sorted, h)))

-- ---- identifiers and paths

-- the text of a token that passes a test
text_there : (p : TextToken → Bool) (t : TextToken) (x : Node Text) → text_where p t ≡ Some x → t.text ≡ x.node
text_there p t x e = by (p t) e
  where
    by : (b : Bool) → ◌≡◌ {A = Option (Node Text)} (if b then Some (at_token t t.text) else None) (Some x) → t.text ≡ x.node
    by true e = cc
    by false e = absurd cc

ident_holds : Holds ident IsIdent
ident_holds = record { holds = λ ts x rest r. subst (λ (w : Text). IsTrue (is_id w)) (text_there is_ident_token r.token x r.is) (ident_is r.token (passes is_ident_token r.token x r.is)).1 }

idents_hold : Holds idents (All IsIdent)
idents_hold = commas_holds ident IsIdent ident_holds

path_holds : Holds path OfIds
path_holds =
    then_holds ident _ IsIdent OfIds ident_holds (λ n h.
    then_holds (many (mark (codes "::") >> ident)) _ (All IsIdent) OfIds
    (many_holds (mark (codes "::") >> ident) IsIdent (rest_holds (mark (codes "::")) (λ _. ident) IsIdent (λ _. ident_holds)))
    (λ others hs. gives_holds OfIds (path_of n others) (All-cons (λ w. IsTrue (is_id w)) n.node (map (λ m. m.node) others) h (All-map (λ w. IsTrue (is_id w)) (λ m. m.node) others hs))))

types_hold : Holds types (λ n. All OfIds n.node)
types_hold = one_or_list_holds path OfIds path_holds

ref_holds : Holds ref RefOfIds
ref_holds =
    either_holds _ (name >>= λ id. gives (qualified None id id.loc)) RefOfIds
    (then_holds path _ OfIds RefOfIds path_holds (λ p h.
    rest_holds (mark (codes "::")) _ RefOfIds (λ _.
    rest_holds str _ RefOfIds (λ id. gives_holds RefOfIds (qualified (Some p) id p.loc) h))))
    (rest_holds name _ RefOfIds (λ id. gives_holds RefOfIds (qualified None id id.loc) tt))

-- ---- types

-- a type at its place
abbrev TypeAt : Node TypeTree → Type 0
TypeAt t = TypeAsRead t.node

-- an attribute
abbrev AttrAt : Annotated (Node AttrDecl) → Type 0
AttrAt a = InOrder a.annotations × TypeAsRead a.item.node.ty.node

attrs_hold : (xs : List (Annotated (Node AttrDecl))) → All AttrAt xs → AttrsAsRead (attrs_of xs)
attrs_hold [] h = tt
attrs_hold (x ∷ xs) h = let here = All-head AttrAt x xs h in (here.0, here.1, attrs_hold xs (All-tail AttrAt x xs h))

module _ (type : Production TextToken (Node TypeTree)) (t : Holds type TypeAt) where
  attr_holds : Holds (attr_decl type) AttrAt
  attr_holds =
      annotated_holds _ (λ a. TypeAsRead a.node.ty.node)
      (rest_holds name _ _ (λ n.
      rest_holds (optional (mark (codes "?"))) _ _ (λ question.
      rest_holds (mark (codes ":")) _ _ (λ _.
      then_holds type _ TypeAt _ t (λ ty h. gives_holds (λ a. TypeAsRead a.node.ty.node) (attr_of n question ty) h)))))

  record_holds : Holds (record_type type) (λ r. AttrsAsRead r.node)
  record_holds =
      bracketed_holds (codes "{") (codes "}") _ AttrsAsRead
      (either_holds _ (gives no_attrs) AttrsAsRead
      (then_holds (trailing (mark (codes ",")) (attr_decl type)) _ (All AttrAt) AttrsAsRead (trailing_holds (mark (codes ",")) (attr_decl type) AttrAt attr_holds) (λ xs hs. gives_holds AttrsAsRead (attrs_of xs) (attrs_hold xs hs)))
      (gives_holds AttrsAsRead no_attrs tt))

  set_holds : Holds (set_type type) TypeAt
  set_holds =
      rest_holds (keyword (codes "Set")) _ _ (λ set.
      then_holds (bracketed (codes "<") (codes ">") type) _ (λ n. TypeAt n.node) _ (bracketed_holds (codes "<") (codes ">") type TypeAt t)
      (λ element h. gives_holds TypeAt (placed (Set element.node.node element.node.loc) set.loc element.loc) h))

  context_holds : Holds (context_type type) (λ c. ShapeAsRead c.node)
  context_holds =
      either_holds _ _ (λ c. ShapeAsRead c.node)
      (then_holds path _ OfIds _ path_holds (λ p h. gives_holds (λ c. ShapeAsRead c.node) (stands (Named p) p.loc) h))
      (then_holds (record_type type) _ (λ r. AttrsAsRead r.node) _ record_holds (λ r h. gives_holds (λ c. ShapeAsRead c.node) (stands (Shape r) r.loc) h))

  shape_holds : Holds (shape_decl type) ShapeAsRead
  shape_holds =
      either_holds _ _ ShapeAsRead
      (then_holds (optional (mark (codes "=")) >> record_type type) _ (λ r. AttrsAsRead r.node) ShapeAsRead (rest_holds (optional (mark (codes "="))) (λ _. record_type type) _ (λ _. record_holds)) (λ r h. gives_holds ShapeAsRead (Shape r) h))
      (then_holds (mark (codes "=") >> path) _ OfIds ShapeAsRead (rest_holds (mark (codes "=")) (λ _. path) OfIds (λ _. path_holds)) (λ p h. gives_holds ShapeAsRead (Named p) h))

  app_holds : Holds (app_decl type) (λ d. AppAsRead d.node)
  app_holds =
      either_holds _ _ (λ d. AppAsRead d.node)
      (rest_holds pr _ _ (λ which.
      rest_holds (mark (codes ":")) _ _ (λ _.
      then_holds types _ (λ n. All OfIds n.node) _ types_hold (λ ts h. gives_holds (λ d. AppAsRead d.node) (placed (Types which ts.node) which.loc ts.loc) h))))
      (rest_holds (keyword (codes "context")) _ _ (λ context.
      rest_holds (mark (codes ":")) _ _ (λ _.
      then_holds (context_type type) _ (λ c. ShapeAsRead c.node) _ context_holds (λ c h. gives_holds (λ d. AppAsRead d.node) (placed (Context c.node) context.loc c.loc) h))))

  applies_hold : Holds (applies_to type) (λ lines. All (λ d. AppAsRead d.node) lines.node)
  applies_hold =
      rest_holds (keyword (codes "appliesTo")) _ _ (λ _.
      bracketed_holds (codes "{") (codes "}") (trailing (mark (codes ",")) (app_decl type)) (All (λ d. AppAsRead d.node)) (trailing_holds (mark (codes ",")) (app_decl type) _ app_holds))

  tags_hold : Holds (tags_clause type) (λ p. TypeAt p.1)
  tags_hold = rest_holds (keyword (codes "tags")) _ _ (λ tags. then_holds type _ TypeAt _ t (λ ty h. gives_holds (λ p. TypeAt p.1) (tags.loc, ty) h))

  -- ---- declarations

  -- a declaration at its place
  abbrev DeclAt : Node Declaration → Type 0
  DeclAt d = DeclAsRead d.node

  -- the shape, or the empty record
  shape_there : (shape : Option ContextDecl) (place : Place) → IfSome shape ShapeAsRead → ShapeAsRead (shape_at shape place)
  shape_there None place h = tt
  shape_there (Some shape) place h = h

  tags_there : (tags : Option (Place × Node TypeTree)) → IfSome tags (λ p. TypeAt p.1) → IfSome (option_map (λ p. p.1) tags) TypeAt
  tags_there None h = tt
  tags_there (Some tags) h = h

  standard_holds : Holds (standard_entity type) DeclAt
  standard_holds =
      rest_holds (keyword (codes "entity")) _ DeclAt (λ entity.
      then_holds idents _ (All IsIdent) DeclAt idents_hold (λ ns names.
      then_holds ((keyword (codes "in") >> types >>= λ ps. gives ps.node) ∣ gives []) _ (All OfIds) DeclAt
      (either_holds _ (gives []) (All OfIds)
      (then_holds (keyword (codes "in") >> types) _ (λ n. All OfIds n.node) (All OfIds) (rest_holds (keyword (codes "in")) (λ _. types) _ (λ _. types_hold)) (λ ps h. gives_holds (All OfIds) ps.node h))
      (gives_holds (All OfIds) [] (All-nil OfIds)))
      (λ parents above.
      then_holds (maybe (shape_decl type)) _ (λ o. IfSome o ShapeAsRead) DeclAt (maybe_holds (shape_decl type) ShapeAsRead shape_holds) (λ shape sound.
      then_holds (maybe (tags_clause type)) _ (λ o. IfSome o (λ p. TypeAt p.1)) DeclAt (maybe_holds (tags_clause type) (λ p. TypeAt p.1) tags_hold) (λ tags tagged.
      rest_holds (mark (codes ";")) _ DeclAt (λ semicolon.
      gives_holds DeclAt _ (names, above, shape_there shape (behind_shape tags semicolon.loc) sound, tags_there tags tagged)))))))

  enum_holds : Holds enum_entity DeclAt
  enum_holds =
      rest_holds (keyword (codes "entity")) _ DeclAt (λ entity.
      then_holds idents _ (All IsIdent) DeclAt idents_hold (λ ns names.
      rest_holds (keyword (codes "enum")) _ DeclAt (λ _.
      rest_holds (bracketed (codes "[") (codes "]") (commas str)) _ DeclAt (λ choices.
      rest_holds (mark (codes ";")) _ DeclAt (λ semicolon. gives_holds DeclAt _ names)))))

  action_holds : Holds (action_decl type) DeclAt
  action_holds =
      rest_holds (keyword (codes "action")) _ DeclAt (λ action.
      rest_holds names _ DeclAt (λ ns.
      then_holds ((keyword (codes "in") >> refs >>= λ rs. gives rs.node) ∣ gives []) _ (All RefOfIds) DeclAt
      (either_holds _ (gives []) (All RefOfIds)
      (then_holds (keyword (codes "in") >> refs) _ (λ n. All RefOfIds n.node) (All RefOfIds) (rest_holds (keyword (codes "in")) (λ _. refs) _ (λ _. one_or_list_holds ref RefOfIds ref_holds)) (λ rs h. gives_holds (All RefOfIds) rs.node h))
      (gives_holds (All RefOfIds) [] (All-nil RefOfIds)))
      (λ parents above.
      then_holds (maybe (applies_to type)) _ (λ o. IfSome o (λ lines. All (λ d. AppAsRead d.node) lines.node)) DeclAt (maybe_holds (applies_to type) _ applies_hold) (λ applies sound.
      rest_holds (optional attributes_tail) _ DeclAt (λ _.
      rest_holds (mark (codes ";")) _ DeclAt (λ semicolon. gives_holds DeclAt _ (above, sound)))))))

  type_decl_holds : Holds (type_decl type) DeclAt
  type_decl_holds =
      rest_holds (keyword (codes "type")) _ DeclAt (λ keyword_type.
      then_holds ident _ IsIdent DeclAt ident_holds (λ n named.
      rest_holds (mark (codes "=")) _ DeclAt (λ _.
      then_holds type _ TypeAt DeclAt t (λ ty sound.
      rest_holds (mark (codes ";")) _ DeclAt (λ semicolon. gives_holds DeclAt _ (named, sound))))))

  decl_holds : Holds (decl type) DeclAt
  decl_holds =
      either_holds (standard_entity type ∣ enum_entity ∣ action_decl type) (type_decl type) DeclAt
      (either_holds (standard_entity type ∣ enum_entity) (action_decl type) DeclAt
      (either_holds (standard_entity type) enum_entity DeclAt standard_holds enum_holds)
      action_holds)
      type_decl_holds

  schema_holds : Holds (schema type) SchemaAsRead
  schema_holds =
      many_holds (annots >>= item_behind type) NamespaceAsRead
      (then_holds annots _ InOrder NamespaceAsRead annots_hold (λ annotations sorted.
      either_holds _ _ NamespaceAsRead
      (then_holds (namespace type) _ (λ n. IfSome n.name OfIds × All AnnotatedAsRead n.decls) NamespaceAsRead
      (rest_holds (keyword (codes "namespace")) _ _ (λ keyword_namespace.
      then_holds path _ OfIds _ path_holds (λ p named.
      then_holds (bracketed (codes "{") (codes "}") (many (annotated (decl type)))) _ (λ ds. All AnnotatedAsRead ds.node) _
      (bracketed_holds (codes "{") (codes "}") (many (annotated (decl type))) (All AnnotatedAsRead) (many_holds (annotated (decl type)) _ (annotated_holds (decl type) DeclAt decl_holds)))
      (λ ds sound. gives_holds (λ (n : Namespace). IfSome n.name OfIds × All AnnotatedAsRead n.decls) _ (named, sound)))))
      (λ n sound. gives_holds NamespaceAsRead (record { item = n; annotations = annotations }) (sorted, sound.0, sound.1)))
      (then_holds (decl type) _ DeclAt NamespaceAsRead decl_holds (λ d sound.
      gives_holds NamespaceAsRead (alone annotations d) (map_of-sorted {V = Node Text} word_cmp nat_list_cmp_total [], tt, All-cons AnnotatedAsRead (record { item = d; annotations = annotations }) [] (sorted, sound) (All-nil AnnotatedAsRead))))))

-- the types of each level
type_holds : (n : ℕ) → Holds (type_upto n) TypeAt
type_holds zero = then_holds path _ OfIds TypeAt path_holds (λ p h. gives_holds TypeAt (as_name p) h)
type_holds (suc n) =
    either_holds (set_type (type_upto n) ∣ (record_type (type_upto n) >>= λ r. gives (as_record r))) (path >>= λ p. gives (as_name p)) TypeAt
    (either_holds (set_type (type_upto n)) (record_type (type_upto n) >>= λ r. gives (as_record r)) TypeAt
    (set_holds (type_upto n) (type_holds n))
    (then_holds (record_type (type_upto n)) _ (λ r. AttrsAsRead r.node) TypeAt (record_holds (type_upto n) (type_holds n)) (λ r h. gives_holds TypeAt (as_record r) h)))
    (then_holds path _ OfIds TypeAt path_holds (λ p h. gives_holds TypeAt (as_name p) h))

pub read_as_read : (ts : List TextToken) (s : Schema) → Reads ts s → SchemaAsRead s
read_as_read ts s (n, r) = (schema_holds (type_upto n) (type_holds n)).holds ts s [] r
