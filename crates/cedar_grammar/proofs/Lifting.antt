-- SPDX-License-Identifier: Apache-2.0
-- What reads at one level of types reads at each higher one.
use Rattle.std.proofs.Common.{ℕ, ◌≤◌, List, Some, None, codes, inl, inr, ⊎_elim, arith}
use Rattle.cedar_tokens.specs.Lexemes.{TextToken}
use Rattle.cedar_grammar.specs.Productions.{Production, gives, ◌>>=◌, ◌>>◌, ◌∣◌, ReadsMany, none, more, many, optional, maybe, separated, trailing}
use Rattle.cedar_tree.specs.Trees.{Node, TypeTree, ByKey}
use Rattle.cedar_grammar.specs.Grammar.{keyword, mark, name, path, ident, idents, names, bracketed, annots, annotated, attr_decl, record_type, type_upto, tags_clause, shape_decl, standard_entity, enum_entity, pr, context_type, app_decl, applies_to, action_decl, type_decl, decl, namespace, item_behind, schema}
use Rattle.cedar_grammar.proofs.Levels.{level_as_nest}

-- whatever R reads, S reads too
pub record Lifts {T A : Type 0} (R S : Production T A) : Type 0 where
  pub reads : (ts : List T) (x : A) (rest : List T) → R.reads ts x rest → S.reads ts x rest

-- a production reads what it reads
pub itself : {T A : Type 0} (R : Production T A) → Lifts R R
itself R = record { reads = λ ts x rest r. r }

-- one after another
pub then_sub : {T A B : Type 0} (R R' : Production T A) (S S' : A → Production T B) → Lifts R R' → ((x : A) → Lifts (S x) (S' x)) → Lifts (R >>= S) (R' >>= S')
then_sub R R' S S' f g = record { reads = λ ts y rest (x, mid, r, s). (x, mid, f.reads ts x mid r, (g x).reads mid y rest s) }

-- one or the other
pub either_sub : {T A : Type 0} (R R' S S' : Production T A) → Lifts R R' → Lifts S S' → Lifts (R ∣ S) (R' ∣ S')
either_sub R R' S S' f g = record { reads = λ ts x rest r. ⊎_elim (λ h. inl (f.reads ts x rest h)) (λ h. inr (g.reads ts x rest h)) r }

-- one after another, any number of times
many_reads : {T A : Type 0} (R R' : Production T A) → Lifts R R' → (ts : List T) (xs : List A) (rest : List T) → ReadsMany R.reads ts xs rest → ReadsMany R'.reads ts xs rest
many_reads R R' f ts _ _ none = none
many_reads R R' f ts _ rest (more {mid = mid} {x = x} {xs = xs} r h) = more (f.reads ts x mid r) (many_reads R R' f mid xs rest h)

pub many_sub : {T A : Type 0} (R R' : Production T A) → Lifts R R' → Lifts (many R) (many R')
many_sub R R' f = record { reads = many_reads R R' f }

-- R before the rest of a production
first_sub : {T A B : Type 0} (R R' : Production T A) (S : A → Production T B) → Lifts R R' → Lifts (R >>= S) (R' >>= S)
first_sub R R' S f = then_sub R R' S S f (λ x. itself (S x))

-- the rest of a production behind R
rest_sub : {T A B : Type 0} (R : Production T A) (S S' : A → Production T B) → ((x : A) → Lifts (S x) (S' x)) → Lifts (R >>= S) (R >>= S')
rest_sub R S S' g = then_sub R R S S' (itself R) g

-- an optional production
maybe_sub : {T A : Type 0} (R R' : Production T A) → Lifts R R' → Lifts (maybe R) (maybe R')
maybe_sub R R' f = either_sub (R >>= λ x. gives (Some x)) (R' >>= λ x. gives (Some x)) (gives None) (gives None) (first_sub R R' _ f) (itself (gives None))

-- a list with separators
trailing_sub : {T S A : Type 0} (separator : Production T S) (R R' : Production T A) → Lifts R R' → Lifts (trailing separator R) (trailing separator R')
trailing_sub separator R R' f =
    first_sub (separated separator R) (separated separator R') _
    (then_sub R R' _ _ f (λ x. first_sub (many (separator >> R)) (many (separator >> R')) _ (many_sub (separator >> R) (separator >> R') (rest_sub separator _ _ (λ _. f)))))

-- between two marks
bracketed_sub : {A : Type 0} (opening closing : List ℕ) (R R' : Production TextToken A) → Lifts R R' → Lifts (bracketed opening closing R) (bracketed opening closing R')
bracketed_sub opening closing R R' f = rest_sub (mark opening) _ _ (λ before. first_sub R R' _ f)

-- with annotations
annotated_sub : {A : Type 0} (R R' : Production TextToken A) → Lifts R R' → Lifts (annotated R) (annotated R')
annotated_sub R R' f = rest_sub annots _ _ (λ annotations. first_sub R R' _ f)

-- what holds of any two kinds of types, of which the second reads whatever the first does
module _ (type other : Production TextToken (Node TypeTree)) (f : Lifts type other) where
  -- each production over types reads with the other types what it reads with these
  attr_sub : Lifts (attr_decl type) (attr_decl other)
  attr_sub =
      annotated_sub _ _
      (rest_sub name _ _ (λ n.
      rest_sub (optional (mark (codes "?"))) _ _ (λ question.
      rest_sub (mark (codes ":")) _ _ (λ _.
      first_sub type other _ f))))

  record_sub : Lifts (record_type type) (record_type other)
  record_sub =
      bracketed_sub (codes "{") (codes "}") _ _
      (either_sub _ _ (gives _) (gives _) (first_sub _ _ _ (trailing_sub (mark (codes ",")) (attr_decl type) (attr_decl other) attr_sub)) (itself (gives _)))

  shape_sub : Lifts (shape_decl type) (shape_decl other)
  shape_sub =
      either_sub _ _ (mark (codes "=") >> path >>= _) (mark (codes "=") >> path >>= _)
      (first_sub (optional (mark (codes "=")) >> record_type type) (optional (mark (codes "=")) >> record_type other) _ (rest_sub (optional (mark (codes "="))) _ _ (λ _. record_sub)))
      (itself (mark (codes "=") >> path >>= _))

  standard_sub : Lifts (standard_entity type) (standard_entity other)
  standard_sub =
      rest_sub (keyword (codes "entity")) _ _ (λ entity.
      rest_sub idents _ _ (λ ns.
      rest_sub _ _ _ (λ parents.
      then_sub _ _ _ _
      (maybe_sub (shape_decl type) (shape_decl other) shape_sub)
      (λ shape. first_sub _ _ _ (maybe_sub (tags_clause type) (tags_clause other) (rest_sub (keyword (codes "tags")) _ _ (λ tags. first_sub type other _ f)))))))

  context_sub : Lifts (context_type type) (context_type other)
  context_sub = either_sub (path >>= _) (path >>= _) _ _ (itself (path >>= _)) (first_sub _ _ _ record_sub)

  app_sub : Lifts (app_decl type) (app_decl other)
  app_sub =
      either_sub (pr >>= _) (pr >>= _) _ _ (itself (pr >>= _))
      (rest_sub (keyword (codes "context")) _ _ (λ context. rest_sub (mark (codes ":")) _ _ (λ _. first_sub _ _ _ context_sub)))

  applies_sub : Lifts (applies_to type) (applies_to other)
  applies_sub = rest_sub (keyword (codes "appliesTo")) _ _ (λ _. bracketed_sub (codes "{") (codes "}") _ _ (trailing_sub (mark (codes ",")) (app_decl type) (app_decl other) app_sub))

  action_sub : Lifts (action_decl type) (action_decl other)
  action_sub =
      rest_sub (keyword (codes "action")) _ _ (λ action.
      rest_sub names _ _ (λ ns.
      rest_sub _ _ _ (λ parents.
      first_sub _ _ _ (maybe_sub (applies_to type) (applies_to other) applies_sub))))

  type_decl_sub : Lifts (type_decl type) (type_decl other)
  type_decl_sub =
      rest_sub (keyword (codes "type")) _ _ (λ keyword_type.
      rest_sub ident _ _ (λ n.
      rest_sub (mark (codes "=")) _ _ (λ _.
      first_sub type other _ f)))

  decl_sub : Lifts (decl type) (decl other)
  decl_sub =
      either_sub _ _ (type_decl type) (type_decl other)
      (either_sub _ _ (action_decl type) (action_decl other)
      (either_sub (standard_entity type) (standard_entity other) enum_entity enum_entity standard_sub (itself enum_entity))
      action_sub)
      type_decl_sub

  namespace_sub : Lifts (namespace type) (namespace other)
  namespace_sub =
      rest_sub (keyword (codes "namespace")) _ _ (λ keyword_namespace.
      rest_sub path _ _ (λ p.
      first_sub _ _ _ (bracketed_sub (codes "{") (codes "}") _ _ (many_sub (annotated (decl type)) (annotated (decl other)) (annotated_sub (decl type) (decl other) decl_sub)))))

  item_sub : (annotations : ByKey) → Lifts (item_behind type annotations) (item_behind other annotations)
  item_sub annotations = either_sub _ _ _ _ (first_sub (namespace type) (namespace other) _ namespace_sub) (first_sub (decl type) (decl other) _ decl_sub)

  -- the whole schema
  pub schema_sub : Lifts (schema type) (schema other)
  schema_sub = many_sub (annots >>= item_behind type) (annots >>= item_behind other) (rest_sub annots _ _ item_sub)

-- a level reads whatever a lower one does
pub type_sub : (m n : ℕ) → m ≤ n → Lifts (type_upto m) (type_upto n)
type_sub m n h = record { reads = λ ts x rest r. let low = ((level_as_nest m ts x rest).0 r).1 in (level_as_nest n ts x rest).1 ((m, r), omega arith) }

-- a schema of some level is one of each higher level
pub schema_lifts : (m n : ℕ) → m ≤ n → Lifts (schema (type_upto m)) (schema (type_upto n))
schema_lifts m n h = schema_sub (type_upto m) (type_upto n) (type_sub m n h)
