-- SPDX-License-Identifier: Apache-2.0
-- The reader of all tokens reads what the grammar reads.
use Rattle.std.proofs.Common.{◌<◌, ℕ, suc, Bool, List, [], ◌∷◌, Some, codes, ap, ◌∙◌, refl, inl, inr, arith}
use Rattle.cedar_tokens.specs.Lexemes.{TextToken}
use Rattle.cedar_tokens.specs.declared.token.TokenKind.TheVariants as kind
use Rattle.cedar_grammar.specs.Productions.{Production, gives, ◌>>=◌, ◌∣◌, ReadsMany, none, more, many}
use Rattle.cedar_tree.specs.Trees.{Node, placed, between, Text, ByKey, Annotated, TypeTree, Declaration, Common, Namespace}
use Rattle.cedar_grammar.specs.Grammar.{keyword, mark, ident, path, bracketed, annotated, standard_entity, enum_entity, action_decl, type_decl, decl, namespace, alone, item_behind}
use Rattle.cedar_grammar.specs.Reading.{Reader, done, expect, looped, a_keyword, a_mark, an_ident, path_at, annotated_at, entity_behind, action_behind, type_behind, decl_at, decl_round, namespace_behind, item_at}
use Rattle.cedar_grammar.proofs.Agreement.{Agrees, gives_agrees, then_agrees, many_agrees}
use Rattle.cedar_grammar.proofs.Viability.{keyword_agrees, mark_agrees, ident_agrees, path_agrees, bracketed_agrees, annotated_agrees, decl_agrees, item_agrees}
use Rattle.cedar_grammar.proofs.Readers.{Tokens, never, takes, Right, Starts, Takes, Sub, bind, then_starts, either_starts, starts_open, never_opens, class_takes, then_takes, either_takes, then_right, later_right, map_right, done_right, on_next_same, expect_right, fewer_right, same_right, looped_right}
use Rattle.cedar_grammar.proofs.Lists.{mark_done}
use Rattle.cedar_grammar.proofs.Tokens.{mark_other}
use Rattle.cedar_grammar.proofs.Choices.{Misses, keyword_starts, the_mark_starts}
use Rattle.cedar_grammar.proofs.Entities.{EntityOn, entity_right}
use Rattle.cedar_grammar.proofs.Actions.{ActionOn, action_right}
use Rattle.cedar_grammar.proofs.Names.{is_colons, path_right}
use Rattle.cedar_grammar.proofs.Annotations.{is_more, annotated_starts, annotated_takes, annotated_right}
use Rattle.cedar_grammar.proofs.Types.{type_goes}

-- what follows `type`
abbrev TypeOn : Production TextToken (Node TypeTree) → Node Text → Production TextToken (Node Declaration)
TypeOn type keyword_type =
    ident >>= λ n. mark (codes "=") >>= λ _. type >>= λ ty. mark (codes ";") >>= λ semicolon.
    gives (placed (Common (record { name = n; def = ty })) keyword_type.loc semicolon.loc)

module _ (type : Production TextToken (Node TypeTree)) where
  -- a declaration, by its first word
  abbrev DeclChoice : Production TextToken (Node Declaration)
  DeclChoice = (keyword (codes "entity") >>= EntityOn type) ∣ ((keyword (codes "action") >>= ActionOn type) ∣ (keyword (codes "type") >>= TypeOn type))

  -- both ways to put it read the same
  decl_there : Sub DeclChoice (decl type)
  decl_there ts v rest (inl (k, mid, rk, inl s)) = inl (inl (inl (k, mid, rk, s)))
  decl_there ts v rest (inl (k, mid, rk, inr s)) = inl (inl (inr (k, mid, rk, s)))
  decl_there ts v rest (inr (inl s)) = inl (inr s)
  decl_there ts v rest (inr (inr s)) = inr s

  decl_back : Sub (decl type) DeclChoice
  decl_back ts v rest (inl (inl (inl (k, mid, rk, s)))) = inl (k, mid, rk, inl s)
  decl_back ts v rest (inl (inl (inr (k, mid, rk, s)))) = inl (k, mid, rk, inr s)
  decl_back ts v rest (inl (inr s)) = inr (inl s)
  decl_back ts v rest (inr s) = inr (inr s)

  -- a declaration begins with one of three words
  decl_starts : (p : TextToken → Bool) → Misses p kind.Word (codes "entity") → Misses p kind.Word (codes "action") → Misses p kind.Word (codes "type") → Starts (decl type) p
  decl_starts p entity action word =
      either_starts (standard_entity type ∣ enum_entity ∣ action_decl type) (type_decl type) p
      (either_starts (standard_entity type ∣ enum_entity) (action_decl type) p
      (either_starts (standard_entity type) enum_entity p
      (then_starts (keyword (codes "entity")) _ p (keyword_starts (codes "entity") p entity))
      (then_starts (keyword (codes "entity")) _ p (keyword_starts (codes "entity") p entity)))
      (then_starts (keyword (codes "action")) _ p (keyword_starts (codes "action") p action)))
      (then_starts (keyword (codes "type")) _ p (keyword_starts (codes "type") p word))

module _ (n : ℕ) (f : Reader (Node TypeTree)) (type : Production TextToken (Node TypeTree)) (a : Right n f type type_goes) where
  -- the reader of what follows `type` reads it
  type_on_right : (keyword_type : Node Text) → Right n (type_behind f keyword_type) (TypeOn type keyword_type) never
  unfolding type_behind
  type_on_right keyword_type =
      then_right n (expect an_ident) _ ident _ never never (expect_right n an_ident ident_agrees never)
      (λ name. then_right n (expect (a_mark (codes "="))) _ (mark (codes "=")) _ never never (expect_right n (a_mark (codes "=")) (mark_agrees (codes "=")) never)
      (λ _. then_right n f _ type _ type_goes never a
      (λ ty. mark_done n (codes ";") _ never)
      (λ ty. starts_open _ type_goes never (then_starts (mark (codes ";")) _ type_goes (the_mark_starts (codes ";") type_goes (λ t k e. rw (k, e) refl)))))
      (λ _. never_opens _ never))
      (λ name. never_opens _ never)

  -- the reader of a declaration reads it
  decl_right : Right n (decl_at f) (decl type) never
  unfolding decl_at
  decl_right =
      same_right n (decl_at f) (DeclChoice type) (decl type) never
      (on_next_same n (a_keyword (codes "entity")) (entity_behind f) _ (EntityOn type) ((keyword (codes "action") >>= ActionOn type) ∣ (keyword (codes "type") >>= TypeOn type)) never (keyword_agrees (codes "entity"))
      (entity_right n f type a)
      (on_next_same n (a_keyword (codes "action")) (action_behind f) _ (ActionOn type) (keyword (codes "type") >>= TypeOn type) never (keyword_agrees (codes "action"))
      (λ k. action_right type k n f a)
      (then_right n (expect (a_keyword (codes "type"))) _ (keyword (codes "type")) _ never never (expect_right n (a_keyword (codes "type")) (keyword_agrees (codes "type")) never) type_on_right (λ k. never_opens _ never))
      (starts_open _ _ never (then_starts (keyword (codes "type")) _ _ (keyword_starts (codes "type") _ (λ t k e. rw (k, e) refl)))))
      (starts_open _ _ never
      (either_starts _ _ _
      (then_starts (keyword (codes "action")) _ _ (keyword_starts (codes "action") _ (λ t k e. rw (k, e) refl)))
      (then_starts (keyword (codes "type")) _ _ (keyword_starts (codes "type") _ (λ t k e. rw (k, e) refl))))))
      (decl_agrees type a.agrees) (decl_there type) (decl_back type)

  -- a declaration takes a token at least
  decl_takes : Takes (decl type)
  decl_takes = record { fewer = λ ts v rest r. choice_takes.fewer ts v rest (decl_back type ts v rest r) }
    where
      choice_takes : Takes (DeclChoice type)
      choice_takes =
          either_takes (keyword (codes "entity") >>= EntityOn type) ((keyword (codes "action") >>= ActionOn type) ∣ (keyword (codes "type") >>= TypeOn type))
          (then_takes (keyword (codes "entity")) (EntityOn type) (class_takes (a_keyword (codes "entity"))) (λ k. (entity_right n f type a k).agrees))
          (either_takes (keyword (codes "action") >>= ActionOn type) (keyword (codes "type") >>= TypeOn type)
          (then_takes (keyword (codes "action")) (ActionOn type) (class_takes (a_keyword (codes "action"))) (λ k. (action_right type k n f a).agrees))
          (then_takes (keyword (codes "type")) (TypeOn type) (class_takes (a_keyword (codes "type"))) (λ k. (type_on_right k).agrees)))

-- ---- namespaces

module _ (type : Production TextToken (Node TypeTree)) where
  -- `}` behind these declarations
  abbrev Closing : List (Annotated (Node Declaration)) → Production TextToken (List (Annotated (Node Declaration)) × Node Text)
  Closing ds = mark (codes "}") >>= λ closing. gives (ds, closing)

  -- declarations and `}`
  abbrev DeclsEnd : Production TextToken (List (Annotated (Node Declaration)) × Node Text)
  DeclsEnd = many (annotated (decl type)) >>= Closing

  -- `}`, or a declaration and the others
  abbrev DeclRound : Production TextToken (List (Annotated (Node Declaration)) × Node Text)
  DeclRound = (mark (codes "}") >>= λ closing. gives ([], closing)) ∣ (annotated (decl type) >>= λ d. DeclsEnd >>= λ r. gives (d ∷ r.0, r.1))

  -- both ways to put it read the same
  decls_there : Sub DeclRound DeclsEnd
  decls_there ts v rest (inl closes) = ([], ts, none, closes)
  decls_there ts v rest (inr (d, mid, rd, (w, end, (ds, m, rds, (c, m', rc, (is, here))), (same, stop)))) =
      (d ∷ ds, m, more rd rds, (c, m', rc, (same ∙ ap (λ (r : List (Annotated (Node Declaration)) × Node Text). (d ∷ r.0, r.1)) is, stop ∙ here)))

  decls_back_from : (ts : Tokens) (ds : List (Annotated (Node Declaration))) (m : Tokens) (v : List (Annotated (Node Declaration)) × Node Text) (rest : Tokens)
      → ReadsMany (annotated (decl type)).reads ts ds m → (Closing ds).reads m v rest → DeclRound.reads ts v rest
  decls_back_from ts _ _ v rest none closes = inl closes
  decls_back_from ts _ m v rest (more {mid = mid} {x = d} {xs = ds} rd rds) (c, m', rc, same) = inr (d, mid, rd, ((ds, c), m', (ds, m, rds, (c, m', rc, (refl, refl))), same))

  decls_back : Sub DeclsEnd DeclRound
  decls_back ts v rest (ds, m, rds, closes) = decls_back_from ts ds m v rest rds closes

  -- beginnings of it are what further tokens complete
  decls_agree : Agrees type → Agrees DeclsEnd
  decls_agree a =
      then_agrees (many (annotated (decl type))) _ (many_agrees (annotated (decl type)) (annotated_agrees (decl type) (decl_agrees type a))) (λ ds.
      then_agrees (mark (codes "}")) _ (mark_agrees (codes "}")) (λ closing. gives_agrees (ds, closing)))

  module _ (keyword_namespace : Node Text) where
    -- what follows `namespace`
    abbrev NamespaceOn : Production TextToken Namespace
    NamespaceOn =
        path >>= λ p. bracketed (codes "{") (codes "}") (many (annotated (decl type))) >>= λ ds.
        gives (record { name = Some p; decls = ds.node; loc = Some (between keyword_namespace.loc ds.loc) })

    -- the same, one token after the other
    abbrev NamespaceBehind : Production TextToken Namespace
    NamespaceBehind =
        path >>= λ p. mark (codes "{") >>= λ _. DeclsEnd >>= λ r.
        gives (record { name = Some p; decls = r.0; loc = Some (between keyword_namespace.loc r.1.loc) })

    -- both ways to put it read the same
    namespace_there : Sub NamespaceBehind NamespaceOn
    namespace_there ts v rest (p, mid, rp, (o, left, ro, (w, end, (ds, m, rds, (c, m', rc, (is, here))), (same, stop)))) = (
      p,
      mid,
      rp,
      (
        placed ds o.loc c.loc,
        m',
        (o, left, ro, (ds, m, rds, (c, m', rc, (refl, refl)))),
        (same ∙ ap (λ (r : List (Annotated (Node Declaration)) × Node Text). record { name = Some p; decls = r.0; loc = Some (between keyword_namespace.loc r.1.loc) }) is, stop ∙ here),
      ),
    )

    namespace_back : Sub NamespaceOn NamespaceBehind
    namespace_back ts v rest (p, mid, rp, (x, end, (o, left, ro, (ds, m, rds, (c, m', rc, (is, here)))), (same, stop))) = (
      p,
      mid,
      rp,
      (
        o,
        left,
        ro,
        (
          (ds, c),
          m',
          (ds, m, rds, (c, m', rc, (refl, refl))),
          (same ∙ ap (λ (x : Node (List (Annotated (Node Declaration)))). record { name = Some p; decls = x.node; loc = Some (between keyword_namespace.loc x.loc) }) is, stop ∙ here),
        ),
      ),
    )

    -- beginnings of it are what further tokens complete
    namespace_on_agrees : Agrees type → Agrees NamespaceOn
    namespace_on_agrees a =
        then_agrees path _ path_agrees (λ p.
        then_agrees (bracketed (codes "{") (codes "}") (many (annotated (decl type)))) _
        (bracketed_agrees (codes "{") (codes "}") (many (annotated (decl type))) (many_agrees (annotated (decl type)) (annotated_agrees (decl type) (decl_agrees type a))))
        (λ ds. gives_agrees _))

  module _ (annotations : ByKey) where
    -- an item, by its first word
    abbrev ItemChoice : Production TextToken (Annotated Namespace)
    ItemChoice =
        (keyword (codes "namespace") >>= λ k. NamespaceOn k >>= λ n. gives (record { item = n; annotations = annotations }))
        ∣ (decl type >>= λ d. gives (alone annotations d))

    -- both ways to put it read the same
    item_there : Sub ItemChoice (item_behind type annotations)
    item_there ts v rest (inl (k, mid, rk, (n, end, rn, same))) = inl (n, end, (k, mid, rk, rn), same)
    item_there ts v rest (inr d) = inr d

    item_back : Sub (item_behind type annotations) ItemChoice
    item_back ts v rest (inl (n, end, (k, mid, rk, rn), same)) = inl (k, mid, rk, (n, end, rn, same))
    item_back ts v rest (inr d) = inr d

    -- an item begins with none of p where p misses its four words
    pub item_starts : (p : TextToken → Bool) → Misses p kind.Word (codes "namespace") → Misses p kind.Word (codes "entity") → Misses p kind.Word (codes "action") → Misses p kind.Word (codes "type") → Starts (item_behind type annotations) p
    item_starts p word entity action type_word =
        either_starts (namespace type >>= λ n. gives (record { item = n; annotations = annotations })) (decl type >>= λ d. gives (alone annotations d)) p
        (then_starts (namespace type) _ p (then_starts (keyword (codes "namespace")) _ p (keyword_starts (codes "namespace") p word)))
        (then_starts (decl type) _ p (decl_starts type p entity action type_word))

module _ (n : ℕ) (f : Reader (Node TypeTree)) (type : Production TextToken (Node TypeTree)) (a : Right n f type type_goes) where
  -- the reader of a declaration with annotations reads it
  annotated_decl_right : Right n (annotated_at (decl_at f)) (annotated (decl type)) never
  annotated_decl_right = annotated_right n (decl_at f) (decl type) never (decl_right n f type a) (starts_open (decl type) is_more never (decl_starts type is_more (λ t k e. rw k refl) (λ t k e. rw k refl) (λ t k e. rw k refl)))

  -- a round over the declarations reads them where the rounds after it do
  decl_step : (k : ℕ) (again : Reader (List (Annotated (Node Declaration)) × Node Text)) → k < n → Right k again (DeclsEnd type) never → Right (suc k) (decl_round f again) (DeclsEnd type) never
  decl_step k again low h =
      same_right (suc k) (decl_round f again) (DeclRound type) (DeclsEnd type) never
      (on_next_same (suc k) (a_mark (codes "}")) (λ closing. done ([], closing)) (bind (annotated_at (decl_at f)) (λ d. bind again (λ r. done (d ∷ r.0, r.1)))) (λ closing. gives ([], closing)) (annotated (decl type) >>= λ d. DeclsEnd type >>= λ r. gives (d ∷ r.0, r.1)) never (mark_agrees (codes "}"))
      (λ closing. done_right (suc k) ([], closing) never)
      (later_right k (annotated_at (decl_at f)) _ (annotated (decl type)) _ never never (fewer_right (suc k) n _ _ never (omega arith) annotated_decl_right) (annotated_takes (decl type) (decl_takes n f type a))
      (λ d. map_right k again (λ r. (d ∷ r.0, r.1)) (DeclsEnd type) never h) (λ d. never_opens _ never))
      (starts_open _ _ never
      (then_starts (annotated (decl type)) _ (takes (a_mark (codes "}")))
      (annotated_starts (decl type) (takes (a_mark (codes "}"))) (λ t e. rw (mark_other (codes "@") (codes "}") t e refl) refl) (decl_starts type (takes (a_mark (codes "}"))) (λ t k e. rw k refl) (λ t k e. rw k refl) (λ t k e. rw k refl))))))
      (decls_agree type a.agrees) (decls_there type) (decls_back type)

  -- the loop over the declarations of a namespace reads them and `}`
  decls_right : Right n (looped (decl_round f)) (DeclsEnd type) never
  decls_right = looped_right n (decl_round f) (DeclsEnd type) never (decls_agree type a.agrees) decl_step

  -- the reader of what follows `namespace` reads it
  namespace_right : (k : Node Text) → Right n (namespace_behind f k) (NamespaceOn type k) never
  unfolding namespace_behind
  namespace_right k =
      same_right n (namespace_behind f k) (NamespaceBehind type k) (NamespaceOn type k) never
      (then_right n path_at _ path _ is_colons never (path_right n)
      (λ p. then_right n (expect (a_mark (codes "{"))) _ (mark (codes "{")) _ never never (expect_right n (a_mark (codes "{")) (mark_agrees (codes "{")) never)
      (λ _. map_right n (looped (decl_round f)) (λ r. record { name = Some p; decls = r.0; loc = Some (between k.loc r.1.loc) }) (DeclsEnd type) never decls_right)
      (λ _. never_opens _ never))
      (λ p. starts_open _ is_colons never (then_starts (mark (codes "{")) _ is_colons (the_mark_starts (codes "{") is_colons (λ t k e. rw (k, e) refl)))))
      (namespace_on_agrees type k a.agrees) (namespace_there type k) (namespace_back type k)

  -- the reader of an item reads it
  pub item_right : (annotations : ByKey) → Right n (item_at f annotations) (item_behind type annotations) never
  unfolding item_at
  item_right annotations =
      same_right n (item_at f annotations) (ItemChoice type annotations) (item_behind type annotations) never
      (on_next_same n (a_keyword (codes "namespace")) _ _ (λ k. NamespaceOn type k >>= λ n. gives (record { item = n; annotations = annotations })) (decl type >>= λ d. gives (alone annotations d)) never (keyword_agrees (codes "namespace"))
      (λ k. map_right n (namespace_behind f k) (λ n. record { item = n; annotations = annotations }) (NamespaceOn type k) never (namespace_right k))
      (map_right n (decl_at f) (λ d. alone annotations d) (decl type) never (decl_right n f type a))
      (starts_open _ _ never (then_starts (decl type) _ _ (decl_starts type (takes (a_keyword (codes "namespace"))) (λ t k e. rw (k, e) refl) (λ t k e. rw (k, e) refl) (λ t k e. rw (k, e) refl)))))
      (item_agrees type a.agrees annotations) (item_there type annotations) (item_back type annotations)

  -- an item takes a token at least
  pub item_takes : (annotations : ByKey) → Takes (item_behind type annotations)
  item_takes annotations =
      either_takes (namespace type >>= λ n. gives (record { item = n; annotations = annotations })) (decl type >>= λ d. gives (alone annotations d))
      (then_takes (namespace type) _ (then_takes (keyword (codes "namespace")) _ (class_takes (a_keyword (codes "namespace"))) (λ k. namespace_on_agrees type k a.agrees)) (λ n. gives_agrees (record { item = n; annotations = annotations })))
      (then_takes (decl type) _ (decl_takes n f type a) (λ d. gives_agrees (alone annotations d)))
