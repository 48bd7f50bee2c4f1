-- SPDX-License-Identifier: Apache-2.0
-- The reader of actions reads what the grammar reads.
use Rattle.std.proofs.Common.{◌≡◌, ℕ, Bool, true, false, List, Option, Some, None, codes, ap, ◌∙◌, subst, refl, inl, inr}
use Rattle.cedar_tokens.specs.Lexemes.{TextToken}
use Rattle.cedar_tokens.specs.declared.token.TokenKind.TheVariants as kind
use Rattle.cedar_grammar.specs.Productions.{Production, gives, ◌>>=◌, ◌>>◌, ◌∣◌, optional, maybe}
use Rattle.cedar_tree.specs.Trees.{Node, placed, stands, Text, TypeTree, PR, Principal, Resource, Named, Shape, AppDecl, Types, Context, QualName, Declaration, Action}
use Rattle.cedar_grammar.specs.Grammar.{is_keyword, is_mark_token, keyword, mark, name, ident, names, path, types, refs, pr, app_decl, applies_to, attributes_tail}
use Rattle.cedar_grammar.specs.Reading.{Reader, done, expect, a_keyword, a_mark, name_at, commas_at, path_at, types_at, one_or_list_at, ref_at, above_at, record_behind, braced_at, scope_behind, context_behind, app_at, applies_at, tail_at, action_behind}
use Rattle.cedar_grammar.proofs.Agreement.{optional_agrees, maybe_agrees}
use Rattle.cedar_grammar.proofs.Viability.{keyword_agrees, mark_agrees, app_agrees, applies_agree, tail_agrees}
use Rattle.cedar_grammar.proofs.Readers.{Tokens, never, Right, Opens, Starts, Sub, bind, then_starts, either_starts, starts_open, then_opens, never_opens, then_right, map_right, done_right, on_next_same, expect_right, stops_right, same_right}
use Rattle.cedar_grammar.proofs.Lists.{not_taken_starts, gives_not_taken, mark_done, or_comma, commas_right, Braced, braced_right}
use Rattle.cedar_grammar.proofs.Tokens.{mark_other}
use Rattle.cedar_grammar.proofs.Choices.{Misses, keyword_starts, the_mark_starts, or_nothing_opens, maybe_opens, or_in, Above, above_opens, above_right}
use Rattle.cedar_grammar.proofs.Names.{is_colons, name_right, path_starts, path_right, types_right, refs_right, ident_starts}
use Rattle.cedar_grammar.proofs.Types.{InBraces, record_right, type_goes, no_type_goes}

-- ---- what an action applies to

-- what follows `principal` or `resource`
abbrev ScopeBehind : Node PR → Production TextToken (Node AppDecl)
ScopeBehind which = mark (codes ":") >>= λ _. types >>= λ ts. gives (placed (Types which ts.node) which.loc ts.loc)

-- the reader of what follows `principal` or `resource` reads it
scope_right : (n : ℕ) (which : Node PR) → Right n (scope_behind which) (ScopeBehind which) is_colons
unfolding scope_behind
scope_right n which =
    then_right n (expect (a_mark (codes ":"))) _ (mark (codes ":")) _ never is_colons (expect_right n (a_mark (codes ":")) (mark_agrees (codes ":")) never)
    (λ _. map_right n types_at (λ ts. placed (Types which ts.node) which.loc ts.loc) types is_colons (types_right n))
    (λ _. never_opens _ is_colons)

module _ (type : Production TextToken (Node TypeTree)) where
  -- what follows `context`
  abbrev ContextBehind : Node Text → Production TextToken (Node AppDecl)
  ContextBehind context =
      mark (codes ":") >>= λ _.
      (mark (codes "{") >>= λ opening. InBraces type opening >>= λ r. gives (placed (Context (Shape r)) context.loc r.loc))
      ∣ (path >>= λ p. gives (placed (Context (Named p)) context.loc p.loc))

  -- a line of `appliesTo`, by its first word
  abbrev AppChoice : Production TextToken (Node AppDecl)
  AppChoice =
      (keyword (codes "principal") >>= λ k. ScopeBehind (stands Principal k.loc))
      ∣ ((keyword (codes "resource") >>= λ k. ScopeBehind (stands Resource k.loc))
      ∣ (keyword (codes "context") >>= λ k. ContextBehind k))

  -- both ways to put it read the same
  app_there : Sub AppChoice (app_decl type)
  app_there ts v rest (inl (k, mid, rk, s)) = inl (stands Principal k.loc, mid, inl (k, mid, rk, (refl, refl)), s)
  app_there ts v rest (inr (inl (k, mid, rk, s))) = inl (stands Resource k.loc, mid, inr (k, mid, rk, (refl, refl)), s)
  app_there ts v rest (inr (inr (k, mid, rk, (c, left, rc, inl (o, begin, ro, (r, end, rr, same)))))) =
      inr (k, mid, rk, (c, left, rc, (stands (Shape r) r.loc, end, inr (r, end, (o, begin, ro, rr), (refl, refl)), same)))
  app_there ts v rest (inr (inr (k, mid, rk, (c, left, rc, inr (p, end, rp, same))))) =
      inr (k, mid, rk, (c, left, rc, (stands (Named p) p.loc, end, inl (p, end, rp, (refl, refl)), same)))

  -- what follows one of two equal values before equal tokens
  scope_moved : (which which' : Node PR) (mid mid' : Tokens) (v : Node AppDecl) (rest : Tokens) → which ≡ which' → mid ≡ mid' → (ScopeBehind which).reads mid v rest → (ScopeBehind which').reads mid' v rest
  scope_moved which which' mid mid' v rest e e' r = subst (λ (w : Node PR). (ScopeBehind w).reads mid' v rest) e (subst (λ (us : Tokens). (ScopeBehind which).reads us v rest) e' r)

  app_back : Sub (app_decl type) AppChoice
  app_back ts v rest (inl (which, begin, inl (k, mid, rk, (is, here)), s)) = inl (k, mid, rk, scope_moved which (stands Principal k.loc) begin mid v rest is here s)
  app_back ts v rest (inl (which, begin, inr (k, mid, rk, (is, here)), s)) = inr (inl (k, mid, rk, scope_moved which (stands Resource k.loc) begin mid v rest is here s))
  app_back ts v rest (inr (k, mid, rk, (c, left, rc, (x, end', inl (p, end, rp, (is, here)), (same, stop))))) =
      inr (inr (k, mid, rk, (c, left, rc, inr (p, end, rp, (same ∙ ap (λ (d : Node _). placed (Context d.node) k.loc d.loc) is, stop ∙ here)))))
  app_back ts v rest (inr (k, mid, rk, (c, left, rc, (x, end', inr (r, end, (o, begin, ro, rr), (is, here)), (same, stop))))) =
      inr (inr (k, mid, rk, (c, left, rc, inl (o, begin, ro, (r, end, rr, (same ∙ ap (λ (d : Node _). placed (Context d.node) k.loc d.loc) is, stop ∙ here))))))

  -- a line begins with none of p where p misses its three words
  app_starts : (p : TextToken → Bool) → Misses p kind.Word (codes "principal") → Misses p kind.Word (codes "resource") → Misses p kind.Word (codes "context") → Starts (app_decl type) p
  app_starts p principal resource context =
      either_starts _ _ p
      (then_starts pr _ p
      (either_starts (keyword (codes "principal") >>= λ k. gives (stands Principal k.loc)) (keyword (codes "resource") >>= λ k. gives (stands Resource k.loc)) p
      (then_starts (keyword (codes "principal")) _ p (keyword_starts (codes "principal") p principal))
      (then_starts (keyword (codes "resource")) _ p (keyword_starts (codes "resource") p resource))))
      (then_starts (keyword (codes "context")) _ p (keyword_starts (codes "context") p context))

  -- ['appliesTo' '{' App {',' App} [','] '}']
  abbrev Applies : Production TextToken (Option (Node (List (Node AppDecl))))
  Applies = maybe (applies_to type)

  -- the same, one token after the other
  abbrev AppliesChoice : Production TextToken (Option (Node (List (Node AppDecl))))
  AppliesChoice = (keyword (codes "appliesTo") >>= λ _. mark (codes "{") >>= λ opening. Braced (app_decl type) >>= λ r. gives (Some (placed r.0 opening.loc r.1.loc))) ∣ gives None

  -- both ways to put it read the same
  applies_there : Sub AppliesChoice Applies
  applies_there ts v rest (inl (k, mid, rk, (o, begin, ro, (x, end, (xs, last, rx, (c, close, rc, (is, here))), (same, stop))))) =
      inl (placed xs o.loc c.loc, close, (k, mid, rk, (o, begin, ro, (xs, last, rx, (c, close, rc, (refl, refl))))), (same ∙ ap (λ (r : List (Node AppDecl) × Node Text). Some (placed r.0 o.loc r.1.loc)) is, stop ∙ here))
  applies_there ts v rest (inr same) = inr same

  applies_back : Sub Applies AppliesChoice
  applies_back ts v rest (inl (x, end, (k, mid, rk, (o, begin, ro, (xs, last, rx, (c, close, rc, (is, here))))), (same, stop))) =
      inl (k, mid, rk, (o, begin, ro, ((xs, c), close, (xs, last, rx, (c, close, rc, (refl, refl))), (same ∙ ap (λ y. Some y) is, stop ∙ here))))
  applies_back ts v rest (inr same) = inr same

-- ['attributes' '{' '}']
abbrev Tail : Production TextToken Bool
Tail = optional attributes_tail

-- the same, one token after the other
abbrev TailChoice : Production TextToken Bool
TailChoice = (keyword (codes "attributes") >>= λ _. mark (codes "{") >> mark (codes "}") >> gives true) ∣ gives false

-- both ways to put it read the same
tail_there : Sub TailChoice Tail
tail_there ts v rest (inl (k, mid, rk, (c, end, (o, begin, ro, rc), same))) = inl (c, end, (o, begin, (k, mid, rk, ro), rc), same)
tail_there ts v rest (inr same) = inr same

tail_back : Sub Tail TailChoice
tail_back ts v rest (inl (c, end, (o, begin, (k, mid, rk, ro), rc), same)) = inl (k, mid, rk, (c, end, (o, begin, ro, rc), same))
tail_back ts v rest (inr same) = inr same

-- `appliesTo`
abbrev opens_applies : TextToken → Bool
opens_applies t = is_keyword (codes "appliesTo") t

-- `attributes`
abbrev opens_tail : TextToken → Bool
opens_tail t = is_keyword (codes "attributes") t

-- the reader of the tail reads it
tail_right : (n : ℕ) → Right n tail_at Tail opens_tail
unfolding tail_at
tail_right n =
    same_right n tail_at TailChoice Tail opens_tail
    (on_next_same n (a_keyword (codes "attributes")) _ (done false) (λ _. mark (codes "{") >> mark (codes "}") >> gives true) (gives false) opens_tail (keyword_agrees (codes "attributes"))
    (λ _. then_right n (bind (expect (a_mark (codes "{"))) (λ _. expect (a_mark (codes "}")))) _ (mark (codes "{") >> mark (codes "}")) _ never opens_tail
    (then_right n (expect (a_mark (codes "{"))) _ (mark (codes "{")) _ never never (expect_right n (a_mark (codes "{")) (mark_agrees (codes "{")) never) (λ _. expect_right n (a_mark (codes "}")) (mark_agrees (codes "}")) never) (λ _. never_opens _ never))
    (λ _. done_right n true opens_tail)
    (λ _. never_opens _ opens_tail))
    (done_right n false opens_tail)
    (gives_not_taken false (is_keyword (codes "attributes")) opens_tail (λ t e. e)))
    (optional_agrees attributes_tail tail_agrees) tail_there tail_back

module _ (n : ℕ) (f : Reader (Node TypeTree)) (type : Production TextToken (Node TypeTree)) (a : Right n f type type_goes) where
  -- the reader of what follows `context` reads it
  context_right : (context : Node Text) → Right n (context_behind f context) (ContextBehind type context) is_colons
  unfolding context_behind
  context_right context =
      then_right n (expect (a_mark (codes ":"))) _ (mark (codes ":")) _ never is_colons (expect_right n (a_mark (codes ":")) (mark_agrees (codes ":")) never)
      (λ _.
      on_next_same n (a_mark (codes "{")) (λ opening. bind (record_behind f opening) (λ r. done (placed (Context (Shape r)) context.loc r.loc))) (bind path_at (λ p. done (placed (Context (Named p)) context.loc p.loc)))
      (λ opening. InBraces type opening >>= λ r. gives (placed (Context (Shape r)) context.loc r.loc)) (path >>= λ p. gives (placed (Context (Named p)) context.loc p.loc)) is_colons (mark_agrees (codes "{"))
      (λ opening. map_right n (record_behind f opening) (λ r. placed (Context (Shape r)) context.loc r.loc) (InBraces type opening) is_colons (record_right n f type type_goes a (no_type_goes (codes ",") refl refl) (no_type_goes (codes "}") refl refl) opening is_colons))
      (map_right n path_at (λ p. placed (Context (Named p)) context.loc p.loc) path is_colons (path_right n))
      (starts_open (path >>= λ p. gives (placed (Context (Named p)) context.loc p.loc)) _ is_colons (then_starts path _ _ (path_starts _ (not_taken_starts ident (is_mark_token (codes "{")) (ident_starts (codes "{")))))))
      (λ _. never_opens _ is_colons)

  -- the reader of a line reads it
  app_right : Right n (app_at f) (app_decl type) is_colons
  unfolding app_at
  app_right =
      same_right n (app_at f) (AppChoice type) (app_decl type) is_colons
      (on_next_same n (a_keyword (codes "principal")) _ _ (λ k. ScopeBehind (stands Principal k.loc)) ((keyword (codes "resource") >>= λ k. ScopeBehind (stands Resource k.loc)) ∣ (keyword (codes "context") >>= λ k. ContextBehind type k)) is_colons (keyword_agrees (codes "principal"))
      (λ k. scope_right n (stands Principal k.loc))
      (on_next_same n (a_keyword (codes "resource")) _ _ (λ k. ScopeBehind (stands Resource k.loc)) (keyword (codes "context") >>= λ k. ContextBehind type k) is_colons (keyword_agrees (codes "resource"))
      (λ k. scope_right n (stands Resource k.loc))
      (then_right n (expect (a_keyword (codes "context"))) _ (keyword (codes "context")) _ never is_colons (expect_right n (a_keyword (codes "context")) (keyword_agrees (codes "context")) never) context_right (λ k. never_opens _ is_colons))
      (starts_open _ _ is_colons (then_starts (keyword (codes "context")) _ _ (keyword_starts (codes "context") _ (λ t k e. rw (k, e) refl)))))
      (starts_open _ _ is_colons
      (either_starts _ _ _
      (then_starts (keyword (codes "resource")) _ _ (keyword_starts (codes "resource") _ (λ t k e. rw (k, e) refl)))
      (then_starts (keyword (codes "context")) _ _ (keyword_starts (codes "context") _ (λ t k e. rw (k, e) refl))))))
      (app_agrees type a.agrees) (app_there type) (app_back type)

  -- the reader of what an action applies to reads it
  applies_right : Right n (applies_at f) (Applies type) opens_applies
  unfolding applies_at
  applies_right =
      same_right n (applies_at f) (AppliesChoice type) (Applies type) opens_applies
      (on_next_same n (a_keyword (codes "appliesTo")) _ (done None) (λ _. mark (codes "{") >>= λ opening. Braced (app_decl type) >>= λ r. gives (Some (placed r.0 opening.loc r.1.loc))) (gives None) opens_applies (keyword_agrees (codes "appliesTo"))
      (λ _. then_right n (expect (a_mark (codes "{"))) _ (mark (codes "{")) _ never opens_applies (expect_right n (a_mark (codes "{")) (mark_agrees (codes "{")) never)
      (λ opening. map_right n (braced_at (app_at f)) (λ r. Some (placed r.0 opening.loc r.1.loc)) (Braced (app_decl type)) opens_applies
      (stops_right n _ _ never opens_applies (λ t e. refl)
      (braced_right n (app_at f) (app_decl type) is_colons app_right (λ t e. mark_other (codes ",") (codes "::") t e refl) (λ t e. mark_other (codes "}") (codes "::") t e refl)
      (app_starts type (is_mark_token (codes "}")) (λ t k e. rw k refl) (λ t k e. rw k refl) (λ t k e. rw k refl)))))
      (λ _. never_opens _ opens_applies))
      (done_right n None opens_applies)
      (gives_not_taken None (is_keyword (codes "appliesTo")) opens_applies (λ t e. e)))
      (maybe_agrees (applies_to type) (applies_agree type a.agrees)) (applies_there type) (applies_back type)

-- ---- actions

-- the tail begins with none of p where none of p follows and p misses `attributes`
tail_opens : (p : TextToken → Bool) → Misses p kind.Word (codes "attributes") → Opens Tail p p
tail_opens p m =
    or_nothing_opens (attributes_tail >> gives true) false p
    (then_starts attributes_tail _ p
    (then_starts (keyword (codes "attributes") >> mark (codes "{")) _ p
    (then_starts (keyword (codes "attributes")) _ p (keyword_starts (codes "attributes") p m))))

module _ (type : Production TextToken (Node TypeTree)) (action : Node Text) where
  module _ (ns : List (Node Text)) where
    -- what follows the lines
    abbrev TailOn : List (Node QualName) → Option (Node (List (Node AppDecl))) → Production TextToken (Node Declaration)
    TailOn parents applies = Tail >>= λ _. mark (codes ";") >>= λ semicolon. gives (placed (Action (record { names = ns; parents = parents; app_decls = applies })) action.loc semicolon.loc)

    -- what follows the parents
    abbrev AppliesOn : List (Node QualName) → Production TextToken (Node Declaration)
    AppliesOn parents = Applies type >>= TailOn parents

    -- what follows the names
    abbrev ParentsOn : Production TextToken (Node Declaration)
    ParentsOn = Above refs >>= AppliesOn

    -- none of p stands before what follows the lines
    tail_on_opens : (p : TextToken → Bool) → Misses p kind.Word (codes "attributes") → Misses p kind.Punct (codes ";") → (parents : List (Node QualName)) (applies : Option (Node (List (Node AppDecl)))) → Opens (TailOn parents applies) p never
    tail_on_opens p attributes semicolon parents applies =
        then_opens Tail _ p p never (tail_opens p attributes) (λ _. starts_open _ p never (then_starts (mark (codes ";")) _ p (the_mark_starts (codes ";") p semicolon)))

    -- none of p stands before what follows the parents
    applies_on_opens : (p : TextToken → Bool) → Misses p kind.Word (codes "appliesTo") → Misses p kind.Word (codes "attributes") → Misses p kind.Punct (codes ";") → (parents : List (Node QualName)) → Opens (AppliesOn parents) p never
    applies_on_opens p applies attributes semicolon parents =
        then_opens (Applies type) _ p p never
        (maybe_opens (applies_to type) p (then_starts (keyword (codes "appliesTo")) _ p (keyword_starts (codes "appliesTo") p applies)))
        (tail_on_opens p attributes semicolon parents)

    -- none of p stands before what follows the names
    parents_on_open : (p : TextToken → Bool) → Misses p kind.Word (codes "in") → Misses p kind.Word (codes "appliesTo") → Misses p kind.Word (codes "attributes") → Misses p kind.Punct (codes ";") → Opens ParentsOn p never
    parents_on_open p above applies attributes semicolon = then_opens (Above refs) _ p p never (above_opens refs p above) (applies_on_opens p applies attributes semicolon)

  -- what follows `action`
  abbrev pub ActionOn : Production TextToken (Node Declaration)
  ActionOn = names >>= ParentsOn

  -- the reader of what follows `action` reads it
  pub action_right : (n : ℕ) (f : Reader (Node TypeTree)) → Right n f type type_goes → Right n (action_behind f action) ActionOn never
  unfolding action_behind
  action_right n f a =
      then_right n (commas_at name_at) _ names _ (or_comma never) never (commas_right n name_at name never (name_right n never) (λ t e. refl))
      (λ ns.
      then_right n (above_at (one_or_list_at ref_at)) _ (Above refs) _ (or_in is_colons) never (above_right refs n (one_or_list_at ref_at) is_colons (refs_right n))
      (λ parents.
      then_right n (applies_at f) _ (Applies type) _ opens_applies never (applies_right n f type a)
      (λ applies.
      then_right n tail_at _ Tail _ opens_tail never (tail_right n)
      (λ _. mark_done n (codes ";") _ never)
      (λ _. starts_open _ opens_tail never (then_starts (mark (codes ";")) _ opens_tail (the_mark_starts (codes ";") opens_tail (λ t k e. rw k refl)))))
      (tail_on_opens ns opens_applies (λ t k e. rw (k, e) refl) (λ t k e. rw k refl) parents))
      (applies_on_opens ns (or_in is_colons) (λ t k e. rw (k, e) refl) (λ t k e. rw (k, e) refl) (λ t k e. rw (k, e) refl)))
      (λ ns. parents_on_open ns (or_comma never) (λ t k e. rw k refl) (λ t k e. rw k refl) (λ t k e. rw k refl) (λ t k e. rw (k, e) refl))
