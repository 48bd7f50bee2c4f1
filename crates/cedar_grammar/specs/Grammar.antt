-- SPDX-License-Identifier: Apache-2.0
-- The grammar of the human schema syntax: one production for one line of it, from its last line to its first; `App` stands behind `Record`, which it uses.
use Rattle.std.specs.Prelude.{ℕ, zero, suc, ◌+◌, ◌-◌, ◌≤◌, Bool, true, false, not, ◌&&◌, ◌||◌, if◌then◌else◌, List, [], ◌∷◌, length, map, fold, take, drop, codes, bytes_eq, Option, Some, None, option_map, nat_eq}
use Rattle.std.specs.List.{starts_with, ends_with}
use Rattle.std.specs.Option.{option_and_then}
use Rattle.std.specs.Result.{result_ok}
use Rattle.cedar_tokens.specs.of_text.Words.{is_word, is_id, has_word}
use Rattle.cedar_tokens.specs.of_text.Unescaping.{unescaped}
use Rattle.cedar_tokens.specs.Lexemes.{TextToken}
use Rattle.cedar_tokens.specs.declared.token.TokenKind.{TokenKind}
use Rattle.cedar_tokens.specs.declared.token.TokenKind.TheVariants as kind
use Rattle.cedar_grammar.specs.Productions.{Production, class, gives, ◌>>=◌, ◌>>◌, ◌∣◌, many, each, optional, maybe, separated, trailing}
use Rattle.cedar_tree.specs.Trees.{Node, Place, between, empty_before, stands, placed, Text, Path, Annotation, Annotations, ByKey, by_key, Annotated, TypeTree, Set, Ident, Record, Attrs, no_attrs, AttrDecl, attrs_of, Standard, Enum, PR, Principal, Resource, ContextDecl, Named, Shape, AppDecl, Types, Context, QualName, Declaration, Entity, Action, Common, Namespace, Schema}

-- the kinds of tokens
abbrev pub is_word_kind : TokenKind → Bool
is_word_kind kind.Word = true
is_word_kind _ = false

abbrev pub is_str_kind : TokenKind → Bool
is_str_kind kind.Str = true
is_str_kind _ = false

abbrev pub is_punct_kind : TokenKind → Bool
is_punct_kind kind.Punct = true
is_punct_kind _ = false

-- x with the place of the token
abbrev pub at_token : {A : Type 0} → TextToken → A → Node A
at_token t x = stands x t.loc

-- the text of a token that passes the test
abbrev pub text_where : (TextToken → Bool) → TextToken → Option (Node Text)
text_where p t = if p t then Some (at_token t t.text) else None

-- a word
abbrev pub is_word_token : TextToken → Bool
is_word_token t = is_word_kind t.kind

-- the word s
abbrev pub is_keyword : List ℕ → TextToken → Bool
is_keyword s t = is_word_kind t.kind && bytes_eq t.text s

-- the mark s
abbrev pub is_mark_token : List ℕ → TextToken → Bool
is_mark_token s t = is_punct_kind t.kind && bytes_eq t.text s

-- a word that isn't one of the nine reserved words
abbrev pub is_ident_token : TextToken → Bool
is_ident_token t = is_word_kind t.kind && is_id t.text

-- whether a text begins with a quote and ends with another
abbrev pub is_quoted : List ℕ → Bool
is_quoted s = starts_with nat_eq s (codes "\"") && ends_with nat_eq (drop 1 s) (codes "\"")

-- what stands between the quotes of a literal
abbrev pub literal_body : List ℕ → Option (List ℕ)
literal_body s = if is_quoted s then Some (take (length s - 2) (drop 1 s)) else None

-- the text that a body stands for, if its escapes are good
abbrev pub text_of_body : List ℕ → Option (List ℕ)
text_of_body body = result_ok (unescaped body)

-- what a string literal stands for, if its escapes are good
abbrev pub literal_value : TextToken → Option (Node Text)
literal_value t = if is_str_kind t.kind then option_map (at_token t) (option_and_then text_of_body (literal_body t.text)) else None

-- a quoted word of the grammar
abbrev pub keyword : List ℕ → Production TextToken (Node Text)
keyword s = class (text_where (is_keyword s))

-- a quoted mark of the grammar
abbrev pub mark : List ℕ → Production TextToken (Node Text)
mark s = class (text_where (is_mark_token s))

-- R {',' R}
abbrev pub commas : {A : Type 0} → Production TextToken A → Production TextToken (List A)
commas R = separated (mark (codes ",")) R

-- R between two marks; its place runs from the one to the other
abbrev pub bracketed : {A : Type 0} → List ℕ → List ℕ → Production TextToken A → Production TextToken (Node A)
bracketed opening closing R = do
  before ← mark opening
  x ← R
  behind ← mark closing
  gives (placed x before.loc behind.loc)

-- Word
abbrev pub word : Production TextToken (Node Text)
word = class (text_where is_word_token)

-- Str
abbrev pub str : Production TextToken (Node Text)
str = class literal_value

-- the annotation of this key, which begins here; its value is empty where none stands
abbrev pub annotation_of : Place → Node Text → Option (Node (Node Text)) → Node Annotation
annotation_of start key None = placed (record { key = key.node; value = [] }) start key.loc
annotation_of start key (Some value) = placed (record { key = key.node; value = value.node.node }) start value.loc

-- the keys of annotations
abbrev pub keys_of : Annotations → List Text
keys_of before = map (λ a. a.node.key) before

-- a word that is no key of these annotations
abbrev pub is_new_key : Annotations → TextToken → Bool
is_new_key before t = is_word_kind t.kind && (is_word t.text && not (has_word (keys_of before) t.text))

-- '@' Word ['(' Str ')'], where the word is no key of the annotations before it
abbrev pub annotation : Annotations → Production TextToken (Node Annotation)
annotation before = do
  at ← mark (codes "@")
  key ← class (text_where (is_new_key before))
  value ← maybe (bracketed (codes "(") (codes ")") str)
  gives (annotation_of at.loc key value)

-- Annots = {'@' Word ['(' Str ')']}, where no two keys are equal
abbrev pub annots : Production TextToken ByKey
annots = each annotation >>= λ written. gives (by_key written)

-- Annots R
abbrev pub annotated : {A : Type 0} → Production TextToken A → Production TextToken (Annotated A)
annotated R = do
  annotations ← annots
  x ← R
  gives (record { item = x; annotations = annotations })

-- Ident
abbrev pub ident : Production TextToken (Node Text)
ident = class (text_where is_ident_token)

-- Name = Word | Str
abbrev pub name : Production TextToken (Node Text)
name = word ∣ str

-- Names = Name {',' Name}
abbrev pub names : Production TextToken (List (Node Text))
names = commas name

-- Idents = Ident {',' Ident}
abbrev pub idents : Production TextToken (List (Node Text))
idents = commas ident

-- the last of n and the others
abbrev pub last_of : Node Text → List (Node Text) → Node Text
last_of n [] = n
last_of n (m ∷ others) = last_of m others

-- the path of these identifiers
abbrev pub path_of : Node Text → List (Node Text) → Path
path_of n others = placed (n.node ∷ map (λ m. m.node) others) n.loc (last_of n others).loc

-- Path = Ident {'::' Ident}
abbrev pub path : Production TextToken Path
path = do
  n ← ident
  others ← many (mark (codes "::") >> ident)
  gives (path_of n others)

-- an id that ends a reference, which starts here, behind a path or alone
abbrev pub qualified : Option Path → Node Text → Place → Node QualName
qualified p id start = placed (record { path = p; eid = id.node }) start id.loc

-- Ref = Path '::' Str | Name
abbrev pub ref : Production TextToken (Node QualName)
ref =
    (do
      p ← path
      mark (codes "::")
      id ← str
      gives (qualified (Some p) id p.loc))
    ∣ (name >>= λ id. gives (qualified None id id.loc))

-- R | '[' [R {',' R}] ']', where the value of R has a place
abbrev pub one_or_list : {A : Type 0} → Production TextToken (Node A) → Production TextToken (Node (List (Node A)))
one_or_list R =
    (R >>= λ x. gives (stands (x ∷ []) x.loc))
    ∣ bracketed (codes "[") (codes "]") (commas R ∣ gives [])

-- Refs = Ref | '[' [Ref {',' Ref}] ']'
abbrev pub refs : Production TextToken (Node (List (Node QualName)))
refs = one_or_list ref

-- Types = Path | '[' [Path {',' Path}] ']'
abbrev pub types : Production TextToken (Node (List Path))
types = one_or_list path

-- an attribute of this name; a question mark says that it isn't required
abbrev pub attr_of : Node Text → Bool → Node TypeTree → Node AttrDecl
attr_of n question ty = placed (record { name = n; required = not question; ty = ty }) n.loc ty.loc

-- Attr = Annots Name ['?'] ':' Type
abbrev pub attr_decl : Production TextToken (Node TypeTree) → Production TextToken (Annotated (Node AttrDecl))
attr_decl type = annotated do
  n ← name
  question ← optional (mark (codes "?"))
  mark (codes ":")
  ty ← type
  gives (attr_of n question ty)

-- Record = '{' [Attr {',' Attr} [',']] '}'
abbrev pub record_type : Production TextToken (Node TypeTree) → Production TextToken (Node Attrs)
record_type type =
    bracketed (codes "{") (codes "}") ((trailing (mark (codes ",")) (attr_decl type) >>= λ xs. gives (attrs_of xs)) ∣ gives no_attrs)

-- 'principal' or 'resource'
abbrev pub pr : Production TextToken (Node PR)
pr =
    (keyword (codes "principal") >>= λ k. gives (stands Principal k.loc))
    ∣ (keyword (codes "resource") >>= λ k. gives (stands Resource k.loc))

-- Path | Record
abbrev pub context_type : Production TextToken (Node TypeTree) → Production TextToken (Node ContextDecl)
context_type type =
    (path >>= λ p. gives (stands (Named p) p.loc))
    ∣ (record_type type >>= λ r. gives (stands (Shape r) r.loc))

-- App = ('principal' | 'resource') ':' Types | 'context' ':' (Path | Record)
abbrev pub app_decl : Production TextToken (Node TypeTree) → Production TextToken (Node AppDecl)
app_decl type =
    (do
      which ← pr
      mark (codes ":")
      ts ← types
      gives (placed (Types which ts.node) which.loc ts.loc))
    ∣ (do
      context ← keyword (codes "context")
      mark (codes ":")
      c ← context_type type
      gives (placed (Context c.node) context.loc c.loc))

-- 'Set' '<' Type '>'
abbrev pub set_type : Production TextToken (Node TypeTree) → Production TextToken (Node TypeTree)
set_type type = do
  set ← keyword (codes "Set")
  element ← bracketed (codes "<") (codes ">") type
  gives (placed (Set element.node.node element.node.loc) set.loc element.loc)

-- a record as a type at its own place
abbrev pub as_record : Node Attrs → Node TypeTree
as_record r = stands (Record r.node) r.loc

-- a name as a type at its own place
abbrev pub as_name : Path → Node TypeTree
as_name p = stands (Ident p) p.loc

-- Type = 'Set' '<' Type '>' | Record | Path, nested at most n times
abbrev pub type_upto : ℕ → Production TextToken (Node TypeTree)
type_upto zero = path >>= λ p. gives (as_name p)
type_upto (suc n) =
    set_type (type_upto n)
    ∣ (record_type (type_upto n) >>= λ r. gives (as_record r))
    ∣ (path >>= λ p. gives (as_name p))

-- 'tags' Type: the place of the word, and the type
abbrev pub tags_clause : Production TextToken (Node TypeTree) → Production TextToken (Place × Node TypeTree)
tags_clause type = do
  tags ← keyword (codes "tags")
  ty ← type
  gives (tags.loc, ty)

-- the place of the token that follows the shape of an entity type: `tags`, or else this `;`
abbrev pub behind_shape : Option (Place × Node TypeTree) → Place → Place
behind_shape None semicolon = semicolon
behind_shape (Some tags) semicolon = tags.0

-- the shape; where none stands, a record without attributes, at the empty place before what stands here
abbrev pub shape_at : Option ContextDecl → Place → ContextDecl
shape_at None place = Shape (stands no_attrs (empty_before place))
shape_at (Some shape) place = shape

-- ['='] Record | '=' Path
abbrev pub shape_decl : Production TextToken (Node TypeTree) → Production TextToken ContextDecl
shape_decl type =
    (optional (mark (codes "=")) >> record_type type >>= λ r. gives (Shape r))
    ∣ (mark (codes "=") >> path >>= λ p. gives (Named p))

-- 'entity' Idents ['in' Types] [['='] Record | '=' Path] ['tags' Type] ';'
abbrev pub standard_entity : Production TextToken (Node TypeTree) → Production TextToken (Node Declaration)
standard_entity type = do
  entity ← keyword (codes "entity")
  ns ← idents
  parents ← (keyword (codes "in") >> types >>= λ ps. gives ps.node) ∣ gives []
  shape ← maybe (shape_decl type)
  tags ← maybe (tags_clause type)
  semicolon ← mark (codes ";")
  gives (placed (Entity (Standard (record {
    names = ns;
    member_of_types = parents;
    attrs = shape_at shape (behind_shape tags semicolon.loc);
    tags = option_map (λ p. p.1) tags;
  }))) entity.loc semicolon.loc)

-- 'entity' Idents 'enum' '[' Str {',' Str} ']' ';'
abbrev pub enum_entity : Production TextToken (Node Declaration)
enum_entity = do
  entity ← keyword (codes "entity")
  ns ← idents
  keyword (codes "enum")
  choices ← bracketed (codes "[") (codes "]") (commas str)
  semicolon ← mark (codes ";")
  gives (placed (Entity (Enum (record { names = ns; choices = choices.node }))) entity.loc semicolon.loc)

-- 'appliesTo' '{' App {',' App} [','] '}'
abbrev pub applies_to : Production TextToken (Node TypeTree) → Production TextToken (Node (List (Node AppDecl)))
applies_to type = keyword (codes "appliesTo") >> bracketed (codes "{") (codes "}") (trailing (mark (codes ",")) (app_decl type))

-- 'attributes' '{' '}', which means nothing
abbrev pub attributes_tail : Production TextToken (Node Text)
attributes_tail = keyword (codes "attributes") >> mark (codes "{") >> mark (codes "}")

-- 'action' Names ['in' Refs] ['appliesTo' '{' App {',' App} [','] '}'] ['attributes' '{' '}'] ';'
abbrev pub action_decl : Production TextToken (Node TypeTree) → Production TextToken (Node Declaration)
action_decl type = do
  action ← keyword (codes "action")
  ns ← names
  parents ← (keyword (codes "in") >> refs >>= λ rs. gives rs.node) ∣ gives []
  applies ← maybe (applies_to type)
  optional attributes_tail
  semicolon ← mark (codes ";")
  gives (placed (Action (record { names = ns; parents = parents; app_decls = applies })) action.loc semicolon.loc)

-- 'type' Ident '=' Type ';'
abbrev pub type_decl : Production TextToken (Node TypeTree) → Production TextToken (Node Declaration)
type_decl type = do
  keyword_type ← keyword (codes "type")
  n ← ident
  mark (codes "=")
  ty ← type
  semicolon ← mark (codes ";")
  gives (placed (Common (record { name = n; def = ty })) keyword_type.loc semicolon.loc)

-- Decl: each of the four kinds of declarations
abbrev pub decl : Production TextToken (Node TypeTree) → Production TextToken (Node Declaration)
decl type = standard_entity type ∣ enum_entity ∣ action_decl type ∣ type_decl type

-- 'namespace' Path '{' {Annots Decl} '}'
abbrev pub namespace : Production TextToken (Node TypeTree) → Production TextToken Namespace
namespace type = do
  keyword_namespace ← keyword (codes "namespace")
  p ← path
  ds ← bracketed (codes "{") (codes "}") (many (annotated (decl type)))
  gives (record { name = Some p; decls = ds.node; loc = Some (between keyword_namespace.loc ds.loc) })

-- the declaration in a namespace of its own, without name and annotations
abbrev pub alone : ByKey → Node Declaration → Annotated Namespace
alone annotations d = record {
  item = record { name = None; decls = record { item = d; annotations = annotations } ∷ []; loc = None };
  annotations = [];
}

-- Item = 'namespace' Path '{' {Annots Decl} '}' | Decl, behind these annotations
abbrev pub item_behind : Production TextToken (Node TypeTree) → ByKey → Production TextToken (Annotated Namespace)
item_behind type annotations =
    (namespace type >>= λ n. gives (record { item = n; annotations = annotations }))
    ∣ (decl type >>= λ d. gives (alone annotations d))

-- Schema = {Annots Item}
abbrev pub schema : Production TextToken (Node TypeTree) → Production TextToken Schema
schema type = many (annots >>= item_behind type)

-- the tokens are this schema, its types nested to any depth
abbrev pub Reads : List TextToken → Schema → Type 0
Reads ts s = (n : ℕ) × (schema (type_upto n)).reads ts s []

-- the tokens are the beginning of a schema
abbrev pub Viable : List TextToken → Type 0
Viable ts = (n : ℕ) × (schema (type_upto n)).begins ts

-- how many `{` and `<` are open behind this token, where so many were before it
abbrev pub unclosed_behind : ℕ → TextToken → ℕ
unclosed_behind n t =
    if is_mark_token (codes "{") t || is_mark_token (codes "<") t then n + 1
    else (if is_mark_token (codes "}") t || is_mark_token (codes ">") t then n - 1
    else n)

-- how many `{` and `<` the tokens leave open; what closes none doesn't count
abbrev pub unclosed : List TextToken → ℕ
unclosed ts = fold unclosed_behind 0 ts

-- at no place of the tokens are more than n of them open
abbrev pub OpensAtMost : ℕ → List TextToken → Type 0
OpensAtMost n ts = (k : ℕ) → unclosed (take k ts) ≤ n
