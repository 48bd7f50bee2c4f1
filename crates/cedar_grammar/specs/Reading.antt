-- SPDX-License-Identifier: Apache-2.0
-- How a parser goes through the tokens of a schema: each choice is by the next token alone.
use Rattle.std.specs.Prelude.{ℕ, zero, suc, Bool, true, false, List, [], ◌∷◌, ◌++◌, length, codes, Option, Some, None, option_map, Result, Ok, Err}
use Rattle.cedar_tokens.specs.Lexemes.{TextToken}
use Rattle.cedar_tree.specs.Trees.{Node, Place, between, stands, placed, Text, Path, Annotation, Annotations, ByKey, by_key, Annotated, TypeTree, Set, Attrs, no_attrs, AttrDecl, attrs_of, Standard, Enum, PR, Principal, Resource, ContextDecl, Named, Shape, AppDecl, Types, Context, QualName, Declaration, Entity, Action, Common, Namespace, Schema}
use Rattle.cedar_grammar.specs.Grammar.{text_where, is_word_token, is_keyword, is_mark_token, is_ident_token, literal_value, path_of, qualified, annotation_of, is_new_key, attr_of, as_record, as_name, behind_shape, shape_at, alone}

-- a reader gives a value and the tokens that are left, or how many are left where it finds a fault
abbrev pub Reader : Type 0 → Type 0
Reader A = List TextToken → Result (A × List TextToken) ℕ

-- gives x, and takes nothing
abbrev pub done : {A : Type 0} → A → Reader A
done x ts = Ok (x, ts)

-- goes on with what a reader gave
abbrev pub after : {A B : Type 0} → Result (A × List TextToken) ℕ → (A → Reader B) → Result (B × List TextToken) ℕ
after (Err left) g = Err left
after (Ok p) g = g p.0 p.1

infixl 10 ◌>>=◌
abbrev pub ◌>>=◌ : {A B : Type 0} → Reader A → (A → Reader B) → Reader B
f >>= g = λ ts. after (f ts) g

-- f, and then g
infixl 10 ◌>>◌
abbrev pub ◌>>◌ : {A B : Type 0} → Reader A → Reader B → Reader B
f >> g = f >>= λ _. g

-- the value that f makes of the next token, and the tokens behind that
unfoldable pub accepted : {A : Type 0} → (TextToken → Option A) → List TextToken → Option (A × List TextToken)
accepted f [] = None
accepted f (t ∷ ts) = option_map (λ x. (x, ts)) (f t)

-- goes on with what was accepted, or else in the other way
abbrev pub either : {A B : Type 0} → Option (B × List TextToken) → (B → Reader A) → Result (A × List TextToken) ℕ → Result (A × List TextToken) ℕ
either None g other = other
either (Some p) g other = g p.0 p.1

-- g where f makes a value of the next token, which is then taken; else the other way
abbrev pub on_next : {A B : Type 0} → (TextToken → Option B) → (B → Reader A) → Reader A → Reader A
on_next f g other ts = either (accepted f ts) g (other ts)

-- the value that f makes of the next token; a fault where it makes none
abbrev pub expect : {A : Type 0} → (TextToken → Option A) → Reader A
expect f = on_next f done (λ ts. Err (length ts))

-- a loop of fewer than n rounds; a round is given what the rounds after it read
abbrev pub rounds : {A : Type 0} → (Reader A → Reader A) → ℕ → Reader A
rounds round zero ts = Err (length ts)
rounds round (suc n) ts = round (rounds round n) ts

-- each round takes a token at least, or is the last
abbrev pub looped : {A : Type 0} → (Reader A → Reader A) → Reader A
looped round ts = rounds round (suc (length ts)) ts

-- the tokens by which the choices go
abbrev pub a_keyword : List ℕ → TextToken → Option (Node Text)
a_keyword s = text_where (is_keyword s)

abbrev pub a_mark : List ℕ → TextToken → Option (Node Text)
a_mark s = text_where (is_mark_token s)

abbrev pub a_word : TextToken → Option (Node Text)
a_word = text_where is_word_token

abbrev pub an_ident : TextToken → Option (Node Text)
an_ident = text_where is_ident_token

-- a word, or what a literal stands for
unfoldable pub name_at : Reader (Node Text)
name_at = on_next literal_value done (expect a_word)

-- a round of a list: a member, and the next round after a comma
abbrev pub comma_round : {A : Type 0} → Reader A → Reader (List A) → Reader (List A)
comma_round f again =
    f >>= λ x.
    on_next (a_mark (codes ",")) (λ _. again >>= λ xs. done (x ∷ xs)) (done (x ∷ []))

-- members with commas between
unfoldable pub commas_at : {A : Type 0} → Reader A → Reader (List A)
commas_at f = looped (comma_round f)

-- a round of a list in braces: a member, and then `}`, or a comma and `}`, or a comma and the next round
abbrev pub brace_round : {A : Type 0} → Reader A → Reader (List A × Node Text) → Reader (List A × Node Text)
brace_round f again =
    f >>= λ x.
    on_next (a_mark (codes ",")) (λ _.
    on_next (a_mark (codes "}")) (λ closing. done (x ∷ [], closing))
    (again >>= λ r. done (x ∷ r.0, r.1)))
    (expect (a_mark (codes "}")) >>= λ closing. done (x ∷ [], closing))

-- members with commas between and maybe one behind, and the `}`
unfoldable pub braced_at : {A : Type 0} → Reader A → Reader (List A × Node Text)
braced_at f = looped (brace_round f)

-- what follows `[`: members with commas between, or none, and `]`
unfoldable pub brackets_behind : {A : Type 0} → Reader A → Node Text → Reader (Node (List A))
brackets_behind f opening =
    on_next (a_mark (codes "]")) (λ closing. done (placed [] opening.loc closing.loc))
    (commas_at f >>= λ xs. expect (a_mark (codes "]")) >>= λ closing. done (placed xs opening.loc closing.loc))

-- a list in brackets, or one member
unfoldable pub one_or_list_at : {A : Type 0} → Reader (Node A) → Reader (Node (List (Node A)))
one_or_list_at f = on_next (a_mark (codes "[")) (brackets_behind f) (f >>= λ x. done (stands (x ∷ []) x.loc))

-- a round over what follows an identifier of a path: `::`, an identifier and the next round
abbrev pub path_round : Reader (List (Node Text)) → Reader (List (Node Text))
path_round again = on_next (a_mark (codes "::")) (λ _. expect an_ident >>= λ n. again >>= λ others. done (n ∷ others)) (done [])

-- the rest of the path that begins with this identifier
unfoldable pub path_behind : Node Text → Reader Path
path_behind n = looped path_round >>= λ others. done (path_of n others)

unfoldable pub path_at : Reader Path
path_at = expect an_ident >>= path_behind

unfoldable pub types_at : Reader (Node (List Path))
types_at = one_or_list_at path_at

-- a round over what follows a `::` of a qualified id: the id, or an identifier, `::` and the next round
abbrev pub id_round : Reader (List (Node Text) × Node Text) → Reader (List (Node Text) × Node Text)
id_round again =
    on_next literal_value (λ id. done ([], id))
    (expect an_ident >>= λ n. expect (a_mark (codes "::")) >>= λ _. again >>= λ r. done (n ∷ r.0, r.1))

-- what follows an identifier that begins a reference: `::` and the rest, or nothing where it is a name alone
unfoldable pub ref_behind : Node Text → Reader (Node QualName)
ref_behind n =
    on_next (a_mark (codes "::")) (λ _. looped id_round >>= λ r. done (qualified (Some (path_of n r.0)) r.1 n.loc))
    (done (qualified None n n.loc))

-- a reference; a literal and a reserved word are names alone
unfoldable pub ref_at : Reader (Node QualName)
ref_at = on_next an_ident ref_behind (name_at >>= λ id. done (qualified None id id.loc))

-- what follows the key of an annotation
unfoldable pub value_at : Reader (Option (Node (Node Text)))
value_at =
    on_next (a_mark (codes "(")) (λ opening. expect literal_value >>= λ value. expect (a_mark (codes ")")) >>= λ closing. done (Some (placed value opening.loc closing.loc)))
    (done None)

-- what follows the `@` of an annotation behind these
unfoldable pub annotation_behind : Annotations → Node Text → Reader (Node Annotation)
annotation_behind before at = do
  key ← expect (text_where (is_new_key before))
  value ← value_at
  done (annotation_of at.loc key value)

-- what the annotations behind these, fewer than n, say together with these
unfoldable pub annots_from : ℕ → Annotations → Reader ByKey
annots_from zero before ts = Err (length ts)
annots_from (suc n) before ts =
    on_next (a_mark (codes "@")) (λ at. annotation_behind before at >>= λ a. annots_from n (before ++ a ∷ [])) (done (by_key before)) ts

unfoldable pub annots_at : Reader ByKey
annots_at ts = annots_from (suc (length ts)) [] ts

unfoldable pub annotated_at : {A : Type 0} → Reader A → Reader (Annotated A)
annotated_at f = do
  annotations ← annots_at
  x ← f
  done (record { item = x; annotations = annotations })

-- `?` or nothing
unfoldable pub question_at : Reader Bool
question_at = on_next (a_mark (codes "?")) (λ _. done true) (done false)

unfoldable pub attr_at : Reader (Node TypeTree) → Reader (Annotated (Node AttrDecl))
attr_at type = annotated_at do
  n ← name_at
  question ← question_at
  expect (a_mark (codes ":"))
  ty ← type
  done (attr_of n question ty)

-- what follows the `{` of a record
unfoldable pub record_behind : Reader (Node TypeTree) → Node Text → Reader (Node Attrs)
record_behind type opening =
    on_next (a_mark (codes "}")) (λ closing. done (placed no_attrs opening.loc closing.loc))
    (braced_at (attr_at type) >>= λ r. done (placed (attrs_of r.0) opening.loc r.1.loc))

-- what follows `Set`: `<`, a type and `>`, or the rest of a path
unfoldable pub set_behind : Reader (Node TypeTree) → Node Text → Reader (Node TypeTree)
set_behind type set =
    on_next (a_mark (codes "<"))
    (λ _. type >>= λ element. expect (a_mark (codes ">")) >>= λ closing. done (placed (Set element.node element.loc) set.loc closing.loc))
    (path_behind set >>= λ p. done (as_name p))

-- a type, where n is above the number of tokens
unfoldable pub type_at : ℕ → Reader (Node TypeTree)
type_at zero ts = Err (length ts)
type_at (suc n) ts =
    on_next (a_keyword (codes "Set")) (set_behind (type_at n))
    (on_next (a_mark (codes "{")) (λ opening. record_behind (type_at n) opening >>= λ r. done (as_record r))
    (path_at >>= λ p. done (as_name p))) ts

-- a record, or a name
unfoldable pub record_or_path : Reader (Node TypeTree) → Reader ContextDecl
record_or_path type =
    on_next (a_mark (codes "{")) (λ opening. record_behind type opening >>= λ r. done (Shape r))
    (path_at >>= λ p. done (Named p))

-- what may follow the parents of an entity type: `=` and a record or a name, a record, or neither
unfoldable pub shape_reader : Reader (Node TypeTree) → Reader (Option ContextDecl)
shape_reader type =
    on_next (a_mark (codes "=")) (λ _. record_or_path type >>= λ shape. done (Some shape))
    (on_next (a_mark (codes "{")) (λ opening. record_behind type opening >>= λ r. done (Some (Shape r))) (done None))

unfoldable pub tags_at : Reader (Node TypeTree) → Reader (Option (Place × Node TypeTree))
tags_at type = on_next (a_keyword (codes "tags")) (λ tags. type >>= λ ty. done (Some (tags.loc, ty))) (done None)

-- what follows `in`, if it stands next
unfoldable pub above_at : {A : Type 0} → Reader (Node (List A)) → Reader (List A)
above_at f = on_next (a_keyword (codes "in")) (λ _. f >>= λ xs. done xs.node) (done [])

-- what follows the names of entity types that aren't enumerated
unfoldable pub standard_behind : Reader (Node TypeTree) → Node Text → List (Node Text) → Reader (Node Declaration)
standard_behind type entity ns = do
  parents ← above_at types_at
  shape ← shape_reader type
  tags ← tags_at type
  semicolon ← expect (a_mark (codes ";"))
  done (placed (Entity (Standard (record {
    names = ns;
    member_of_types = parents;
    attrs = shape_at shape (behind_shape tags semicolon.loc);
    tags = option_map (λ p. p.1) tags;
  }))) entity.loc semicolon.loc)

-- what follows `enum`
unfoldable pub enum_behind : Node Text → List (Node Text) → Reader (Node Declaration)
enum_behind entity ns = do
  expect (a_mark (codes "["))
  choices ← commas_at (expect literal_value)
  expect (a_mark (codes "]"))
  semicolon ← expect (a_mark (codes ";"))
  done (placed (Entity (Enum (record { names = ns; choices = choices }))) entity.loc semicolon.loc)

-- what follows `entity`
unfoldable pub entity_behind : Reader (Node TypeTree) → Node Text → Reader (Node Declaration)
entity_behind type entity =
    commas_at (expect an_ident) >>= λ ns.
    on_next (a_keyword (codes "enum")) (λ _. enum_behind entity ns) (standard_behind type entity ns)

-- what follows `principal` or `resource`
unfoldable pub scope_behind : Node PR → Reader (Node AppDecl)
scope_behind which = do
  expect (a_mark (codes ":"))
  ts ← types_at
  done (placed (Types which ts.node) which.loc ts.loc)

-- what follows `context`
unfoldable pub context_behind : Reader (Node TypeTree) → Node Text → Reader (Node AppDecl)
context_behind type context =
    expect (a_mark (codes ":")) >>
    on_next (a_mark (codes "{")) (λ opening. record_behind type opening >>= λ r. done (placed (Context (Shape r)) context.loc r.loc))
    (path_at >>= λ p. done (placed (Context (Named p)) context.loc p.loc))

unfoldable pub app_at : Reader (Node TypeTree) → Reader (Node AppDecl)
app_at type =
    on_next (a_keyword (codes "principal")) (λ k. scope_behind (stands Principal k.loc))
    (on_next (a_keyword (codes "resource")) (λ k. scope_behind (stands Resource k.loc))
    (expect (a_keyword (codes "context")) >>= context_behind type))

-- what follows `appliesTo`, if it stands next
unfoldable pub applies_at : Reader (Node TypeTree) → Reader (Option (Node (List (Node AppDecl))))
applies_at type =
    on_next (a_keyword (codes "appliesTo"))
    (λ _. expect (a_mark (codes "{")) >>= λ opening. braced_at (app_at type) >>= λ r. done (Some (placed r.0 opening.loc r.1.loc)))
    (done None)

-- `attributes {}` or nothing
unfoldable pub tail_at : Reader Bool
tail_at = on_next (a_keyword (codes "attributes")) (λ _. expect (a_mark (codes "{")) >> expect (a_mark (codes "}")) >> done true) (done false)

-- what follows `action`
unfoldable pub action_behind : Reader (Node TypeTree) → Node Text → Reader (Node Declaration)
action_behind type action = do
  ns ← commas_at name_at
  parents ← above_at (one_or_list_at ref_at)
  applies ← applies_at type
  tail_at
  semicolon ← expect (a_mark (codes ";"))
  done (placed (Action (record { names = ns; parents = parents; app_decls = applies })) action.loc semicolon.loc)

-- what follows `type`
unfoldable pub type_behind : Reader (Node TypeTree) → Node Text → Reader (Node Declaration)
type_behind type keyword_type = do
  n ← expect an_ident
  expect (a_mark (codes "="))
  ty ← type
  semicolon ← expect (a_mark (codes ";"))
  done (placed (Common (record { name = n; def = ty })) keyword_type.loc semicolon.loc)

unfoldable pub decl_at : Reader (Node TypeTree) → Reader (Node Declaration)
decl_at type =
    on_next (a_keyword (codes "entity")) (entity_behind type)
    (on_next (a_keyword (codes "action")) (action_behind type)
    (expect (a_keyword (codes "type")) >>= type_behind type))

-- a round over the declarations of a namespace: `}`, or a declaration and the next round
abbrev pub decl_round : Reader (Node TypeTree) → Reader (List (Annotated (Node Declaration)) × Node Text) → Reader (List (Annotated (Node Declaration)) × Node Text)
decl_round type again =
    on_next (a_mark (codes "}")) (λ closing. done ([], closing))
    (annotated_at (decl_at type) >>= λ d. again >>= λ r. done (d ∷ r.0, r.1))

-- what follows `namespace`
unfoldable pub namespace_behind : Reader (Node TypeTree) → Node Text → Reader Namespace
namespace_behind type keyword_namespace = do
  p ← path_at
  expect (a_mark (codes "{"))
  r ← looped (decl_round type)
  done (record { name = Some p; decls = r.0; loc = Some (between keyword_namespace.loc r.1.loc) })

-- an item behind these annotations
unfoldable pub item_at : Reader (Node TypeTree) → ByKey → Reader (Annotated Namespace)
item_at type annotations =
    on_next (a_keyword (codes "namespace")) (λ k. namespace_behind type k >>= λ n. done (record { item = n; annotations = annotations }))
    (decl_at type >>= λ d. done (alone annotations d))

-- a round over the items: the end of the tokens, or an item and the next round
abbrev pub item_round : Reader (Node TypeTree) → Reader Schema → Reader Schema
item_round type again [] = Ok ([], [])
item_round type again (t ∷ ts) = (annots_at >>= item_at type >>= λ item. again >>= λ others. done (item ∷ others)) (t ∷ ts)

-- the schema that all tokens are
unfoldable pub schema_at : Reader Schema
schema_at ts = looped (item_round (type_at (suc (length ts)))) ts
