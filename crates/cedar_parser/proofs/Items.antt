-- SPDX-License-Identifier: Apache-2.0
-- The declarations of a namespace and the items of a schema: those so far, and what the tokens that are left read to.
use Rattle.std.proofs.Common.{◌≡◌, ℕ, suc, ◌<◌, ◌==◌, arith, Bool, true, false, List, [], ◌∷◌, ◌++◌, length, codes, Some, None, Ok, Err, refl, sym, ap, subst, ◌∙◌}
use Rattle.std.proofs.lemmas.Bool.Decides.{Decides-eqb}
use Rattle.std.proofs.lemmas.List.{append-nil}
use Rattle.cedar_tokens.specs.Lexemes.{TextToken}
use Rattle.cedar_tokens.specs.declared.lexeme.Lexeme.{Lexeme}
use Rattle.cedar_grammar.specs.Reading.{Reader, accepted, a_mark, annotated_at, decl_at, decl_round, item_round, schema_at, type_at, after, done}
use Rattle.cedar_tree.specs.Trees.{Node, Text, Path, TypeTree, Annotated, Declaration, Namespace, between}
use Rattle.cedar_parser.specs.Behind.{decls_behind, annotated_item}
use Rattle.cedar_parser.specs.Giving.{tokens_of}
use Rattle.cedar_parser.proofs.Loops.{Reached, reached_start, reached_end, reached_more, put_closed, puts_nothing_closed, puts_more_closed, put_first, puts_nothing_first, puts_more_first}

module _ (type : Reader (Node TypeTree)) (start : List TextToken) where
  -- all declarations are those in front and those of the tokens here
  abbrev pub DeclsReached : List (Annotated (Node Declaration)) → List TextToken → Type 0
  DeclsReached front here = Reached (put_closed {C = Node Text}) (decl_round type) start front here

  pub decls_start : DeclsReached [] start
  decls_start = reached_start put_closed puts_nothing_closed (decl_round type) start

  -- the same declarations, said otherwise
  pub decls_as : (front front' : List (Annotated (Node Declaration))) {here : List TextToken} → front ≡ front' → DeclsReached front here → DeclsReached front' here
  decls_as front front' {here = here} e r = subst (λ ds. DeclsReached ds here) e r

  module _ (front : List (Annotated (Node Declaration))) (here : List TextToken) (r : DeclsReached front here) where
    -- the brace
    pub decls_end : (keyword : Node Text) (name : Path) (closing : Node Text) (rest : List TextToken) → Some (closing, rest) ≡ accepted (a_mark (codes "}")) here
        → decls_behind type keyword name start ≡ Ok (record { name = Some name; decls = front; loc = Some (between keyword.loc closing.loc) }, rest)
    unfolding decls_behind
    decls_end keyword name closing rest brace =
        let all = reached_end put_closed (decl_round type) start front here (Ok (([], closing), rest)) r (λ again. rw (← brace) refl) in
        rw (all, append-nil front) refl

    module _ (open_here : None ≡ accepted (a_mark (codes "}")) here) where
      -- no declaration and no brace
      pub decls_none : (keyword : Node Text) (name : Path) (left : ℕ) → annotated_at (decl_at type) here ≡ Err left → decls_behind type keyword name start ≡ Err left
      unfolding decls_behind
      decls_none keyword name left e =
          let all = reached_end put_closed (decl_round type) start front here (Err left) r (λ again. rw (← open_here, e) refl) in
          rw all refl

      -- a declaration
      pub decls_more : (d : Annotated (Node Declaration)) (rest : List TextToken) → length rest < length here → annotated_at (decl_at type) here ≡ Ok (d, rest) → DeclsReached (front ++ d ∷ []) rest
      decls_more d rest fewer e = reached_more put_closed puts_more_closed (decl_round type) start front here d rest r fewer (λ again. rw (← open_here, e) refl)

-- a round over the items where tokens are left
item_step : (type : Reader (Node TypeTree)) (again : Reader (List (Annotated Namespace))) (here : List TextToken) → 0 < length here
    → item_round type again here ≡ after (annotated_item type here) (λ item ts. after (again ts) (λ others. done (item ∷ others)))
unfolding annotated_item
item_step type again [] some = absurd (omega (arith, some))
item_step type again (t ∷ ts) some = refl

item_fault : (type : Reader (Node TypeTree)) (again : Reader (List (Annotated Namespace))) (here : List TextToken) (left : ℕ) → 0 < length here → annotated_item type here ≡ Err left → item_round type again here ≡ Err left
item_fault type again here left some e = rw (item_step type again here some, e) refl

item_next : (type : Reader (Node TypeTree)) (again : Reader (List (Annotated Namespace))) (here : List TextToken) (item : Annotated Namespace) (rest : List TextToken) → 0 < length here → annotated_item type here ≡ Ok (item, rest)
    → item_round type again here ≡ after (again rest) (λ others. done (item ∷ others))
item_next type again here item rest some e = rw (item_step type again here some, e) refl

module _ (start : List TextToken) where
  -- the types of a schema of these tokens
  abbrev pub type_of_all : Reader (Node TypeTree)
  type_of_all = type_at (suc (length start))

  -- all items are those in front and those of the tokens here
  abbrev pub ItemsReached : List (Annotated Namespace) → List TextToken → Type 0
  ItemsReached front here = Reached put_first (item_round type_of_all) start front here

  pub items_start : ItemsReached [] start
  items_start = reached_start put_first puts_nothing_first (item_round type_of_all) start

  module _ (front : List (Annotated Namespace)) (here : List TextToken) (r : ItemsReached front here) where
    -- no token is left
    pub items_end : here ≡ [] → schema_at start ≡ Ok (front, [])
    unfolding schema_at
    items_end e = reached_end put_first (item_round type_of_all) start front here (Ok ([], [])) r (λ again. rw e refl) ∙ ap (λ xs. Ok (xs, [])) (append-nil front)

    -- no item
    pub items_none : 0 < length here → (left : ℕ) → annotated_item type_of_all here ≡ Err left → schema_at start ≡ Err left
    unfolding schema_at
    items_none some left e = reached_end put_first (item_round type_of_all) start front here (Err left) r (λ again. item_fault type_of_all again here left some e)

    -- an item
    pub items_more : 0 < length here → (item : Annotated Namespace) (rest : List TextToken) → length rest < length here → annotated_item type_of_all here ≡ Ok (item, rest) → ItemsReached (front ++ item ∷ []) rest
    items_more some item rest fewer e = reached_more put_first puts_more_first (item_round type_of_all) start front here item rest r fewer (λ again. item_next type_of_all again here item rest some e)

-- whether tokens are left, as the code tests it
pub some_tokens : (text : List ℕ) (lexemes : List Lexeme) (b : Bool) → b ≡ (length lexemes == 0) → b ≡ false → 0 < length (tokens_of text lexemes)
some_tokens text [] b e f = absurd (cc)
some_tokens text (l ∷ ls) b e f = omega arith

no_end : (n : ℕ) → (suc n == 0) ≡ true → ⊥
no_end n e = omega (arith, (Decides-eqb (suc n) 0).0 e)

pub no_tokens : (text : List ℕ) (lexemes : List Lexeme) (b : Bool) → b ≡ (length lexemes == 0) → b ≡ true → tokens_of text lexemes ≡ []
no_tokens text [] b e f = refl
no_tokens text (l ∷ ls) b e f = absurd (no_end (length ls) (sym e ∙ f))
