-- SPDX-License-Identifier: Apache-2.0
-- The readers of attributes, records and types read what the grammar reads.
use Rattle.std.proofs.Common.{◌≡◌, ◌⊎◌, ◌≤◌, ℕ, zero, suc, Bool, true, false, ◌||◌, List, [], ◌∷◌, codes, bytes_eq, sym, ap, ◌∙◌, subst, refl, inl, inr, arith}
use Rattle.cedar_tokens.specs.Lexemes.{TextToken}
use Rattle.cedar_grammar.specs.Productions.{Production, IsOne, gives, ◌>>=◌, ◌>>◌, ◌∣◌, many, optional, trailing}
use Rattle.cedar_tree.specs.Trees.{Node, Text, Annotated, TypeTree, Set, Attrs, no_attrs, AttrDecl, attrs_of, placed}
use Rattle.cedar_grammar.specs.Grammar.{is_keyword, is_mark_token, is_ident_token, keyword, mark, ident, name, path_of, path, attr_of, attr_decl, record_type, set_type, as_record, as_name, type_upto}
use Rattle.cedar_grammar.specs.Reading.{Reader, done, on_next, expect, a_keyword, a_mark, an_ident, name_at, path_behind, path_at, braced_at, question_at, attr_at, record_behind, set_behind, type_at}
use Rattle.cedar_grammar.proofs.Agreement.{Agrees, gives_agrees, either_agrees, then_agrees, trailing_agrees}
use Rattle.cedar_grammar.proofs.Viability.{mark_agrees, keyword_agrees, path_agrees, attr_agrees, record_agrees, set_agrees, type_agrees}
use Rattle.cedar_grammar.proofs.Readers.{Tokens, Before, never, takes, Right, Starts, Sub, bind, then_starts, starts_open, never_opens, gives_opens, then_opens, many_opens, then_right, map_right, done_right, on_next_right, on_next_same, on_next_split, expect_right, same_right, stops_right, zero_right}
use Rattle.cedar_grammar.proofs.Tokens.{passes, mark_other, mark_no_keyword, keyword_is}
use Rattle.cedar_grammar.proofs.Lists.{Free, not_taken, mark_starts, not_taken_starts, gives_not_taken, mark_done, left_false, right_false, Braced, braced_right}
use Rattle.cedar_grammar.proofs.Names.{other_test, name_right, name_starts, is_colons, path_behind_right, path_right, path_starts, ident_starts}
use Rattle.cedar_grammar.proofs.Annotations.{is_more, annotated_starts, annotated_right}

-- ---- attributes

-- `?`
abbrev is_question : TextToken → Bool
is_question = is_mark_token (codes "?")

question_right : (n : ℕ) → Right n question_at (optional (mark (codes "?"))) is_question
unfolding question_at
question_right n =
    on_next_same n (a_mark (codes "?")) (λ _. done true) (done false) (λ _. gives true) (gives false) is_question (mark_agrees (codes "?"))
    (λ _. done_right n true is_question)
    (done_right n false is_question)
    (gives_not_taken false is_question is_question (λ t e. e))

neither_more : (ts : Tokens) → Before (is_mark_token (codes "@")) ts → Before (is_mark_token (codes "(")) ts → Before is_more ts
neither_more [] h k = tt
neither_more (t ∷ ts) h k = rw (h, k) refl

name_no_more : Starts name is_more
name_no_more = record { starts = λ ts x rest r. neither_more ts ((name_starts (codes "@")).starts ts x rest r) ((name_starts (codes "(")).starts ts x rest r) }

module _ (n : ℕ) (type : Reader (Node TypeTree)) (R : Production TextToken (Node TypeTree)) (p : TextToken → Bool) (a : Right n type R p) where
  -- Attr
  pub attr_right : Right n (attr_at type) (attr_decl R) p
  unfolding attr_at
  attr_right =
      annotated_right n _ _ p
      (then_right n name_at _ name _ never p (name_right n never)
      (λ nm.
      then_right n question_at _ (optional (mark (codes "?"))) _ is_question p (question_right n)
      (λ question.
      then_right n (expect (a_mark (codes ":"))) _ (mark (codes ":")) _ never p (expect_right n (a_mark (codes ":")) (mark_agrees (codes ":")) never)
      (λ _. map_right n type (λ ty. attr_of nm question ty) R p a)
      (λ _. never_opens _ p))
      (λ question. starts_open _ is_question p (then_starts (mark (codes ":")) _ is_question (mark_starts (codes ":") is_question (λ t e. mark_other (codes ":") (codes "?") t e refl)))))
      (λ nm. never_opens _ p))
      (starts_open _ is_more p (then_starts name _ is_more name_no_more))

pub attr_starts : (R : Production TextToken (Node TypeTree)) (s : List ℕ) → bytes_eq (codes "@") s ≡ false → Starts (attr_decl R) (is_mark_token s)
attr_starts R s differ = annotated_starts _ (is_mark_token s) (λ t e. mark_other (codes "@") s t e differ) (then_starts name _ (is_mark_token s) (name_starts s))

-- ---- records

module _ (R : Production TextToken (Node TypeTree)) (opening : Node Text) where
  -- what follows the `{` of a record
  abbrev pub InBraces : Production TextToken (Node Attrs)
  InBraces = ((trailing (mark (codes ",")) (attr_decl R) >>= λ xs. gives (attrs_of xs)) ∣ gives no_attrs) >>= λ x. mark (codes "}") >>= λ closing. gives (placed x opening.loc closing.loc)

  -- `}`, or the attributes and then `}`
  abbrev RecordChoice : Production TextToken (Node Attrs)
  RecordChoice = (mark (codes "}") >>= λ closing. gives (placed no_attrs opening.loc closing.loc)) ∣ (Braced (attr_decl R) >>= λ r. gives (placed (attrs_of r.0) opening.loc r.1.loc))

  record_there : Sub RecordChoice InBraces
  record_there ts v rest (inl r) = (no_attrs, ts, inr (refl, refl), r)
  record_there ts v rest (inr (w, m, (xs, m', rx, (c, m'', rc, (is, stop'))), (same, stop))) =
      (attrs_of xs, m', inl (xs, m', rx, (refl, refl)), (c, m'', rc, (same ∙ ap (λ (u : List (Annotated (Node AttrDecl)) × Node Text). placed (attrs_of u.0) opening.loc u.1.loc) is, stop ∙ stop')))

  record_back : Sub InBraces RecordChoice
  record_back ts v rest (x, m, inl (xs, m', rx, (is, stay)), (c, m'', rc, (same, stop))) =
      inr ((xs, c), m'', (xs, m', rx, (c, m'', subst (λ (us : Tokens). (mark (codes "}")).reads us c m'') stay rc, (refl, refl))), (same ∙ ap (λ (u : Attrs). placed u opening.loc c.loc) is, stop))
  record_back ts v rest (x, m, inr (is, stay), (c, m'', rc, (same, stop))) =
      inl (c, m'', subst (λ (us : Tokens). (mark (codes "}")).reads us c m'') stay rc, (same ∙ ap (λ (u : Attrs). placed u opening.loc c.loc) is, stop))

module _ (n : ℕ) (type : Reader (Node TypeTree)) (R : Production TextToken (Node TypeTree)) (p : TextToken → Bool) (a : Right n type R p) (free_comma : Free (codes ",") p) (free_closing : Free (codes "}") p) where
  in_braces_agrees : (opening : Node Text) → Agrees (InBraces R opening)
  in_braces_agrees opening =
      then_agrees ((trailing (mark (codes ",")) (attr_decl R) >>= λ xs. gives (attrs_of xs)) ∣ gives no_attrs) _
      (either_agrees (trailing (mark (codes ",")) (attr_decl R) >>= λ xs. gives (attrs_of xs)) (gives no_attrs)
      (then_agrees (trailing (mark (codes ",")) (attr_decl R)) _ (trailing_agrees (mark (codes ",")) (attr_decl R) (mark_agrees (codes ",")) (attr_agrees R a.agrees)) (λ xs. gives_agrees (attrs_of xs)))
      (gives_agrees no_attrs))
      (λ x. then_agrees (mark (codes "}")) _ (mark_agrees (codes "}")) (λ closing. gives_agrees (placed x opening.loc closing.loc)))

  -- what follows the `{` of a record
  pub record_right : (opening : Node Text) (q : TextToken → Bool) → Right n (record_behind type opening) (InBraces R opening) q
  unfolding record_behind
  record_right opening q =
      same_right n (record_behind type opening) (RecordChoice R opening) (InBraces R opening) q
      (on_next_same n (a_mark (codes "}")) (λ closing. done (placed no_attrs opening.loc closing.loc)) (bind (braced_at (attr_at type)) (λ r. done (placed (attrs_of r.0) opening.loc r.1.loc)))
      (λ closing. gives (placed no_attrs opening.loc closing.loc)) (Braced (attr_decl R) >>= λ r. gives (placed (attrs_of r.0) opening.loc r.1.loc)) q (mark_agrees (codes "}"))
      (λ closing. done_right n (placed no_attrs opening.loc closing.loc) q)
      (map_right n (braced_at (attr_at type)) (λ r. placed (attrs_of r.0) opening.loc r.1.loc) (Braced (attr_decl R)) q
      (stops_right n (braced_at (attr_at type)) (Braced (attr_decl R)) never q (λ t e. refl)
      (braced_right n (attr_at type) (attr_decl R) p (attr_right n type R p a) free_comma free_closing (attr_starts R (codes "}") refl))))
      (starts_open _ _ q (then_starts (Braced (attr_decl R)) _ _ (then_starts _ _ _ (then_starts _ _ _ (then_starts (attr_decl R) _ _ (not_taken_starts (attr_decl R) (is_mark_token (codes "}")) (attr_starts R (codes "}") refl))))))))
      (in_braces_agrees opening) (record_there R opening) (record_back R opening)

-- ---- types

-- `<` or `::`, with which a type would go on
abbrev pub type_goes : TextToken → Bool
type_goes t = is_mark_token (codes "<") t || is_colons t

-- any other mark
pub no_type_goes : (s : List ℕ) → bytes_eq s (codes "<") ≡ false → bytes_eq s (codes "::") ≡ false → Free s type_goes
no_type_goes s differ differ' t e = rw (mark_other s (codes "<") t e differ, mark_other s (codes "::") t e differ') refl

-- a type that is a name
abbrev pub Named : Production TextToken (Node TypeTree)
Named = path >>= λ p. gives (as_name p)

set_is_ident : (t : TextToken) → is_keyword (codes "Set") t ≡ true → is_ident_token t ≡ true
set_is_ident t e = let is = keyword_is (codes "Set") t e in rw (is.0, is.1) refl

set_ident : (ts : Tokens) (set : Node Text) (m : Tokens) → (keyword (codes "Set")).reads ts set m → ident.reads ts set m
set_ident ts set m rs = record { token = rs.token; front = rs.front; is = other_test (is_keyword (codes "Set")) is_ident_token rs.token set rs.is (set_is_ident rs.token (passes (is_keyword (codes "Set")) rs.token set rs.is)) }

module _ (R : Production TextToken (Node TypeTree)) where
  -- what follows the `<` of a set type
  abbrev InSet : Node Text → Production TextToken (Node TypeTree)
  InSet set = R >>= λ element. mark (codes ">") >>= λ closing. gives (placed (Set element.node element.loc) set.loc closing.loc)

  -- what follows `Set`
  abbrev SetBehind : Node Text → Production TextToken (Node TypeTree)
  SetBehind set = (mark (codes "<") >>= λ _. InSet set) ∣ ((many (mark (codes "::") >> ident) >>= λ others. gives (path_of set others)) >>= λ p. gives (as_name p))

  -- a record, or a name
  abbrev NotSet : Production TextToken (Node TypeTree)
  NotSet = (mark (codes "{") >>= λ opening. InBraces R opening >>= λ r. gives (as_record r)) ∣ Named

  -- a type of the next level
  abbrev Level : Production TextToken (Node TypeTree)
  Level = set_type R ∣ (record_type R >>= λ r. gives (as_record r)) ∣ Named

  type_there : Sub ((keyword (codes "Set") >>= SetBehind) ∣ NotSet) Level
  type_there ts v rest (inl (set, m, rs, inl (c, m1, rc, (e, m2, re, (d, m3, rd, same))))) =
      inl (inl (set, m, rs, (placed e c.loc d.loc, m3, (c, m1, rc, (e, m2, re, (d, m3, rd, (refl, refl)))), same)))
  type_there ts v rest (inl (set, m, rs, inr (p, m', others, same))) = inr (p, m', (set, m, set_ident ts set m rs, others), same)
  type_there ts v rest (inr (inl (o, m, ro, (r, m', rr, same)))) = inl (inr (r, m', (o, m, ro, rr), same))
  type_there ts v rest (inr (inr r)) = inr r

  -- a path from a first identifier that is `Set` or not
  set_or_name : (ts : Tokens) (v : Node TypeTree) (rest : Tokens) (set : Node Text) (m : Tokens) → (one : IsOne an_ident ts set m) → ((many (mark (codes "::") >> ident) >>= λ others. gives (path_of set others)) >>= λ p. gives (as_name p)).reads m v rest
      → (b : Bool) → is_keyword (codes "Set") one.token ≡ b → (keyword (codes "Set") >>= SetBehind).reads ts v rest ⊎ (NotSet.reads ts v rest × Before (takes (a_keyword (codes "Set"))) ts)
  set_or_name ts v rest set m one r true e = inl (set, m, record { token = one.token; front = one.front; is = other_test is_ident_token (is_keyword (codes "Set")) one.token set one.is e }, inr r)
  set_or_name ts v rest set m one (p, m', others, same) false e = inr (inr (p, m', (set, m, one, others), same), subst (Before (takes (a_keyword (codes "Set")))) (sym one.front) (not_taken (is_keyword (codes "Set")) one.token e))

  type_back : (ts : Tokens) (v : Node TypeTree) (rest : Tokens) → Level.reads ts v rest → Before type_goes rest → (keyword (codes "Set") >>= SetBehind).reads ts v rest ⊎ (NotSet.reads ts v rest × Before (takes (a_keyword (codes "Set"))) ts)
  type_back ts v rest (inl (inl (set, m, rs, (e, m3, (c, m1, rc, (el, m2, re, (d, m4, rd, (is, stop')))), (same, stop))))) stops =
      inl (set, m, rs, inl (c, m1, rc, (el, m2, re, (d, m4, rd, (same ∙ ap (λ (u : Node (Node TypeTree)). placed (Set u.node.node u.node.loc) set.loc u.loc) is, stop ∙ stop')))))
  type_back ts v rest (inl (inr (r, m', (o, m, ro, rr), same))) stops =
      inr (inl (o, m, ro, (r, m', rr, same)), subst (Before (takes (a_keyword (codes "Set")))) (sym ro.front) (not_taken (is_keyword (codes "Set")) ro.token (mark_no_keyword (codes "{") (codes "Set") ro.token (passes (is_mark_token (codes "{")) ro.token o ro.is))))
  type_back ts v rest (inr (p, m', (set, m, one, others), same)) stops = set_or_name ts v rest set m one (p, m', others, same) (is_keyword (codes "Set") one.token) refl

module _ (n : ℕ) (type : Reader (Node TypeTree)) (R : Production TextToken (Node TypeTree)) (a : Right n type R type_goes) where
  set_behind_right : (set : Node Text) → Right n (set_behind type set) (SetBehind R set) type_goes
  unfolding set_behind
  set_behind_right set =
      on_next_same n (a_mark (codes "<")) (λ _. bind type (λ element. bind (expect (a_mark (codes ">"))) (λ closing. done (placed (Set element.node element.loc) set.loc closing.loc)))) (bind (path_behind set) (λ p. done (as_name p)))
      (λ _. InSet R set) _ type_goes (mark_agrees (codes "<"))
      (λ _.
      then_right n type _ R _ type_goes type_goes a
      (λ element. mark_done n (codes ">") (λ closing. placed (Set element.node element.loc) set.loc closing.loc) type_goes)
      (λ element. starts_open _ type_goes type_goes (then_starts (mark (codes ">")) _ type_goes (mark_starts (codes ">") type_goes (no_type_goes (codes ">") refl refl)))))
      (map_right n (path_behind set) as_name _ type_goes (stops_right n (path_behind set) _ is_colons type_goes (λ t e. right_false _ _ e) (path_behind_right n set)))
      (then_opens _ _ _ type_goes type_goes
      (then_opens (many (mark (codes "::") >> ident)) _ _ type_goes type_goes
      (many_opens (mark (codes "::") >> ident) _ type_goes (λ t e. not_taken (is_mark_token (codes "<")) t (left_false _ _ e))
      (then_starts (mark (codes "::")) (λ _. ident) _ (not_taken_starts (mark (codes "::")) (is_mark_token (codes "<")) (mark_starts (codes "::") (is_mark_token (codes "<")) (λ t e. mark_other (codes "::") (codes "<") t e refl)))))
      (λ others. gives_opens (path_of set others) type_goes))
      (λ p. gives_opens (as_name p) type_goes))

  not_set_right : Right (suc n) (on_next (a_mark (codes "{")) (λ opening. bind (record_behind type opening) (λ r. done (as_record r))) (bind path_at (λ p. done (as_name p)))) (NotSet R) type_goes
  not_set_right =
      on_next_right n (a_mark (codes "{")) (λ opening. bind (record_behind type opening) (λ r. done (as_record r))) (bind path_at (λ p. done (as_name p)))
      (λ opening. InBraces R opening >>= λ r. gives (as_record r)) Named type_goes (mark_agrees (codes "{"))
      (λ opening.
      map_right n (record_behind type opening) as_record (InBraces R opening) type_goes
      (record_right n type R type_goes a (no_type_goes (codes ",") refl refl) (no_type_goes (codes "}") refl refl) opening type_goes))
      (map_right (suc n) path_at as_name path type_goes (stops_right (suc n) path_at path is_colons type_goes (λ t e. right_false _ _ e) (path_right (suc n))))
      (starts_open _ _ type_goes (then_starts path _ _ (path_starts _ (not_taken_starts ident (is_mark_token (codes "{")) (ident_starts (codes "{"))))))

  level_agrees : Agrees (Level R)
  level_agrees =
      either_agrees _ Named
      (either_agrees (set_type R) (record_type R >>= λ r. gives (as_record r)) (set_agrees R a.agrees) (then_agrees (record_type R) _ (record_agrees R a.agrees) (λ r. gives_agrees (as_record r))))
      (then_agrees path _ path_agrees (λ p. gives_agrees (as_name p)))

  level_right : Right (suc n) (on_next (a_keyword (codes "Set")) (set_behind type) (on_next (a_mark (codes "{")) (λ opening. bind (record_behind type opening) (λ r. done (as_record r))) (bind path_at (λ p. done (as_name p))))) (Level R) type_goes
  level_right =
      on_next_split n (a_keyword (codes "Set")) (set_behind type) _ (SetBehind R) (NotSet R) (Level R) type_goes (keyword_agrees (codes "Set"))
      set_behind_right not_set_right level_agrees (type_there R) (type_back R)

-- Type: of fewer than n tokens all types nest at most k, which isn't less
pub type_right : (n k : ℕ) → n ≤ k → Right n (type_at n) (type_upto k) type_goes
unfolding type_at
type_right zero k h = zero_right (type_at zero) (type_upto k) type_goes (type_agrees k)
type_right (suc n) zero h = absurd (omega arith)
type_right (suc n) (suc k) h = level_right n (type_at n) (type_upto k) (type_right n k (omega arith))
