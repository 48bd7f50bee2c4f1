-- SPDX-License-Identifier: Apache-2.0
-- The readers of lists with commas, in braces and in brackets read what the grammar reads.
use Rattle.std.proofs.Common.{◌≡◌, ◌<◌, ℕ, suc, Bool, true, false, ◌||◌, List, [], ◌∷◌, codes, sym, ap, ◌∙◌, subst, refl, inl, inr, ⊎_elim, arith}
use Rattle.cedar_tokens.specs.Lexemes.{TextToken}
use Rattle.cedar_grammar.specs.Productions.{Production, gives, ◌>>=◌, ◌>>◌, ◌∣◌, ReadsMany, none, more, optional, trailing}
use Rattle.cedar_tree.specs.Trees.{Node, Text, placed, stands}
use Rattle.cedar_grammar.specs.Grammar.{text_where, is_mark_token, mark, commas, bracketed, one_or_list}
use Rattle.cedar_grammar.specs.Reading.{Reader, done, on_next, expect, a_mark, comma_round, commas_at, brace_round, braced_at, brackets_behind, one_or_list_at}
use Rattle.cedar_grammar.proofs.Agreement.{Agrees, gives_agrees, either_agrees, then_agrees, trailing_agrees}
use Rattle.cedar_grammar.proofs.Viability.{mark_agrees, commas_agree, one_or_list_agrees}
use Rattle.cedar_grammar.proofs.Readers.{Tokens, Before, never, takes, Right, Opens, Starts, Sub, bind, class_starts, then_starts, either_starts, starts_open, gives_opens, either_opens, opens_less, before_less, then_right, map_right, done_right, on_next_right, on_next_same, expect_right, fewer_right, stops_right, same_right, looped_right}
use Rattle.cedar_grammar.proofs.Tokens.{passes, mark_other}

-- p holds of no mark s
abbrev pub Free : List ℕ → (TextToken → Bool) → Type 0
Free s p = (t : TextToken) → is_mark_token s t ≡ true → p t ≡ false

-- the token of a test is taken only where the test holds
pub not_taken : (q : TextToken → Bool) (t : TextToken) → q t ≡ false → takes (text_where q) t ≡ false
not_taken q t e = rw e refl

pub left_false : (a b : Bool) → (a || b) ≡ false → a ≡ false
left_false false b e = refl
left_false true b e = absurd (cc)

pub right_false : (a b : Bool) → (a || b) ≡ false → b ≡ false
right_false false b e = e
right_false true b e = absurd (cc)

-- a mark begins with none of p
pub mark_starts : (s : List ℕ) (p : TextToken → Bool) → Free s p → Starts (mark s) p
mark_starts s p free = class_starts (a_mark s) p (λ t x e. free t (passes (is_mark_token s) t x e))

-- what begins with no token of q begins with none that is taken by it
pub not_taken_starts : {A : Type 0} (R : Production TextToken A) (q : TextToken → Bool) → Starts R q → Starts R (takes (text_where q))
not_taken_starts R q a = record { starts = λ ts x rest r. before_less q (takes (text_where q)) (not_taken q) ts (a.starts ts x rest r) }

-- nothing, before what isn't taken
pub gives_not_taken : {A : Type 0} (a : A) (q p : TextToken → Bool) → ((t : TextToken) → p t ≡ false → q t ≡ false) → Opens (gives a) (takes (text_where q)) p
gives_not_taken a q p h = record { opens = λ ts x rest r stop. before_less p (takes (text_where q)) (λ t e. not_taken q t (h t e)) ts (subst (Before p) r.1 stop) }

-- a mark and a value made of it
pub mark_done : {A : Type 0} (n : ℕ) (s : List ℕ) (h : Node Text → A) (p : TextToken → Bool) → Right n (bind (expect (a_mark s)) (λ t. done (h t))) (mark s >>= λ t. gives (h t)) p
mark_done n s h p = map_right n (expect (a_mark s)) h (mark s) p (expect_right n (a_mark s) (mark_agrees s) p)

-- a comma, or one of p
abbrev pub or_comma : (TextToken → Bool) → TextToken → Bool
or_comma p t = is_mark_token (codes ",") t || p t

-- ---- members with commas between

module _ {A : Type 0} (R : Production TextToken A) where
  -- a member, and the others behind a comma
  abbrev CommaRound : Production TextToken (List A)
  CommaRound = R >>= λ x. (mark (codes ",") >>= λ _. commas R >>= λ xs. gives (x ∷ xs)) ∣ gives (x ∷ [])

  commas_there : Sub CommaRound (commas R)
  commas_there ts v rest (x, mid, r, inl (c, left, rc, (xs, end, (y, m, ry, (ys, m', rys, (same', stop'))), (same, stop)))) =
      (x, mid, r, (y ∷ ys, m', more (c, left, rc, ry) rys, (same ∙ ap (λ (zs : List A). x ∷ zs) same', stop ∙ stop')))
  commas_there ts v rest (x, mid, r, inr (same, stop)) = (x, mid, r, ([], mid, none, (same, stop)))

  commas_back_from : (ts : Tokens) (x : A) (mid : Tokens) (xs : List A) (end : Tokens) (v : List A) (rest : Tokens) → R.reads ts x mid → ReadsMany (mark (codes ",") >> R).reads mid xs end → (v ≡ x ∷ xs) × (rest ≡ end) → CommaRound.reads ts v rest
  commas_back_from ts x mid _ _ v rest r none same = (x, mid, r, inr same)
  commas_back_from ts x mid _ end v rest r (more {mid = m} {x = y} {xs = ys} (c, left, rc, ry) rys) same =
      (x, mid, r, inl (c, left, rc, (y ∷ ys, end, (y, m, ry, (ys, end, rys, (refl, refl))), same)))

  commas_back : Sub (commas R) CommaRound
  commas_back ts v rest (x, mid, r, (xs, end, rxs, same)) = commas_back_from ts x mid xs end v rest r rxs same

module _ {A : Type 0} (n : ℕ) (f : Reader A) (R : Production TextToken A) (p : TextToken → Bool) (a : Right n f R p) (free : Free (codes ",") p) where
  comma_step : (k : ℕ) (again : Reader (List A)) → k < n → Right k again (commas R) (or_comma p) → Right (suc k) (comma_round f again) (commas R) (or_comma p)
  comma_step k again low h =
      same_right (suc k) (comma_round f again) (CommaRound R) (commas R) (or_comma p)
      (then_right (suc k) f (λ x. on_next (a_mark (codes ",")) (λ _. bind again (λ xs. done (x ∷ xs))) (done (x ∷ []))) R _ p (or_comma p)
      (fewer_right (suc k) n f R p (omega arith) a)
      (λ x.
      on_next_right k (a_mark (codes ",")) (λ _. bind again (λ xs. done (x ∷ xs))) (done (x ∷ [])) (λ _. commas R >>= λ xs. gives (x ∷ xs)) (gives (x ∷ [])) (or_comma p) (mark_agrees (codes ","))
      (λ _. map_right k again (λ xs. x ∷ xs) (commas R) (or_comma p) h)
      (done_right (suc k) (x ∷ []) (or_comma p))
      (gives_not_taken (x ∷ []) (is_mark_token (codes ",")) (or_comma p) (λ t e. left_false _ _ e)))
      (λ x.
      either_opens _ _ p (or_comma p)
      (starts_open _ p (or_comma p) (then_starts (mark (codes ",")) _ p (mark_starts (codes ",") p free)))
      (opens_less (gives (x ∷ [])) p p p (or_comma p) (λ t e. e) (λ t e. right_false _ _ e) (gives_opens (x ∷ []) p))))
      (commas_agree R a.agrees) (commas_there R) (commas_back R)

  -- R {',' R}
  pub commas_right : Right n (commas_at f) (commas R) (or_comma p)
  unfolding commas_at
  commas_right = looped_right n (comma_round f) (commas R) (or_comma p) (commas_agree R a.agrees) comma_step

-- ---- members with commas between and maybe one behind, and `}`

module _ {A : Type 0} (R : Production TextToken A) where
  -- members with commas between and maybe one behind, and `}`
  abbrev pub Braced : Production TextToken (List A × Node Text)
  Braced = trailing (mark (codes ",")) R >>= λ xs. mark (codes "}") >>= λ closing. gives (xs, closing)

  -- a member, and `}`, or a comma and then `}` or the others
  abbrev BraceRound : Production TextToken (List A × Node Text)
  BraceRound = R >>= λ x. (mark (codes ",") >>= λ _. (mark (codes "}") >>= λ closing. gives (x ∷ [], closing)) ∣ (Braced >>= λ r. gives (x ∷ r.0, r.1))) ∣ (mark (codes "}") >>= λ closing. gives (x ∷ [], closing))

  -- what follows the first member
  record Tail (mid : Tokens) (xs : List A) (closing : Node Text) (rest : Tokens) : Type 0 where
    last_end : Tokens
    comma : Bool
    comma_end : Tokens
    others : ReadsMany (mark (codes ",") >> R).reads mid xs last_end
    ends : (optional (mark (codes ","))).reads last_end comma comma_end
    closes : (mark (codes "}")).reads comma_end closing rest

  from_tail : (ts : Tokens) (x : A) (mid : Tokens) (xs : List A) (closing : Node Text) (rest : Tokens) → R.reads ts x mid → Tail mid xs closing rest → Braced.reads ts (x ∷ xs, closing) rest
  from_tail ts x mid xs closing rest r tail =
      (x ∷ xs, tail.comma_end, (x ∷ xs, tail.last_end, (x, mid, r, (xs, tail.last_end, tail.others, (refl, refl))), (tail.comma, tail.comma_end, tail.ends, (refl, refl))), (closing, rest, tail.closes, (refl, refl)))

  -- a list in braces by its first member and the others
  record Opened (ts : Tokens) (v : List A × Node Text) (rest : Tokens) : Type 0 where
    first : A
    mid : Tokens
    xs : List A
    closing : Node Text
    reads : R.reads ts first mid
    tail : Tail mid xs closing rest
    value : v ≡ (first ∷ xs, closing)

  opened : (ts : Tokens) (v : List A × Node Text) (rest : Tokens) → Braced.reads ts v rest → Opened ts v rest
  opened ts v rest (ys, end, (zs, m, (x, mid, r, (xs, m', rxs, (front, stop))), (b, m'', ends, (front', stop'))), (closing, m''', closes, (value, stop''))) = record {
    first = x;
    mid = mid;
    xs = xs;
    closing = closing;
    reads = r;
    tail = record {
      last_end = m';
      comma = b;
      comma_end = m'';
      others = rxs;
      ends = subst (λ (us : Tokens). (optional (mark (codes ","))).reads us b m'') stop ends;
      closes = subst (λ (us : Tokens). (mark (codes "}")).reads us closing rest) stop' (subst (λ (us : Tokens). (mark (codes "}")).reads end closing us) (sym stop'') closes);
    };
    value = value ∙ ap (λ (us : List A). (us, closing)) (front' ∙ front);
  }

  -- the same, of a value and a rest that are equal to these
  moved : (ts : Tokens) (v w : List A × Node Text) (rest end : Tokens) → (v ≡ w) × (rest ≡ end) → Braced.reads ts w end → Braced.reads ts v rest
  moved ts v w rest end same r = rw (same.0, same.1) r

  braced_there : Sub BraceRound Braced
  braced_there ts v rest (x, mid, r, inl (c, m, rc, inl (closing, end, closes, same))) =
      moved ts v (x ∷ [], closing) rest end same (from_tail ts x mid [] closing end r (record { last_end = mid; comma = true; comma_end = m; others = none; ends = inl (c, m, rc, (refl, refl)); closes = closes }))
  braced_there ts v rest (x, mid, r, inl (c, m, rc, inr (w, end, rw', same))) =
      let o = opened m w end rw' in
      let tail = o.tail in
      moved ts v (x ∷ w.0, w.1) rest end same
      (subst (λ (u : List A × Node Text). Braced.reads ts (x ∷ u.0, u.1) end) (sym o.value)
      (from_tail ts x mid (o.first ∷ o.xs) o.closing end r (record { last_end = tail.last_end; comma = tail.comma; comma_end = tail.comma_end; others = more (c, m, rc, o.reads) tail.others; ends = tail.ends; closes = tail.closes })))
  braced_there ts v rest (x, mid, r, inr (closing, end, closes, same)) =
      moved ts v (x ∷ [], closing) rest end same (from_tail ts x mid [] closing end r (record { last_end = mid; comma = false; comma_end = mid; others = none; ends = inr (refl, refl); closes = closes }))

  braced_back_from : (ts : Tokens) (x : A) (mid : Tokens) (xs : List A) (end : Tokens) (b : Bool) (comma_end : Tokens) (closing : Node Text) (rest : Tokens)
      → R.reads ts x mid → ReadsMany (mark (codes ",") >> R).reads mid xs end → (optional (mark (codes ","))).reads end b comma_end → (mark (codes "}")).reads comma_end closing rest
      → BraceRound.reads ts (x ∷ xs, closing) rest
  braced_back_from ts x mid _ _ b comma_end closing rest r none (inl (c, m, rc, (is, stop))) closes =
      (x, mid, r, inl (c, m, rc, inl (closing, rest, subst (λ (us : Tokens). (mark (codes "}")).reads us closing rest) stop closes, (refl, refl))))
  braced_back_from ts x mid _ _ b comma_end closing rest r none (inr (is, stop)) closes =
      (x, mid, r, inr (closing, rest, subst (λ (us : Tokens). (mark (codes "}")).reads us closing rest) stop closes, (refl, refl)))
  braced_back_from ts x mid _ end b comma_end closing rest r (more {mid = m} {x = y} {xs = ys} (c, left, rc, ry) rys) ends closes =
      let tail : Tail m ys closing rest = record { last_end = end; comma = b; comma_end = comma_end; others = rys; ends = ends; closes = closes } in
      (x, mid, r, inl (c, left, rc, inr ((y ∷ ys, closing), rest, from_tail left y m ys closing rest ry tail, (refl, refl))))

  braced_back : Sub Braced BraceRound
  braced_back ts v rest r =
      let o = opened ts v rest r in
      let tail = o.tail in
      subst (λ (u : List A × Node Text). BraceRound.reads ts u rest) (sym o.value)
      (braced_back_from ts o.first o.mid o.xs tail.last_end tail.comma tail.comma_end o.closing rest o.reads tail.others tail.ends tail.closes)

module _ {A : Type 0} (n : ℕ) (f : Reader A) (R : Production TextToken A) (p : TextToken → Bool) (a : Right n f R p) (free_comma : Free (codes ",") p) (free_closing : Free (codes "}") p) (starts : Starts R (is_mark_token (codes "}"))) where
  braced_agrees : Agrees (Braced R)
  braced_agrees =
      then_agrees (trailing (mark (codes ",")) R) _ (trailing_agrees (mark (codes ",")) R (mark_agrees (codes ",")) a.agrees) (λ xs.
      then_agrees (mark (codes "}")) _ (mark_agrees (codes "}")) (λ closing. gives_agrees (xs, closing)))

  braced_starts : Starts (Braced R) (is_mark_token (codes "}"))
  braced_starts = record { starts = λ ts v rest (ys, end, (zs, m, (x, mid, r, others), last), closes). starts.starts ts x mid r }

  brace_step : (k : ℕ) (again : Reader (List A × Node Text)) → k < n → Right k again (Braced R) never → Right (suc k) (brace_round f again) (Braced R) never
  brace_step k again low h =
      same_right (suc k) (brace_round f again) (BraceRound R) (Braced R) never
      (then_right (suc k) f _ R _ p never
      (fewer_right (suc k) n f R p (omega arith) a)
      (λ x.
      on_next_right k (a_mark (codes ",")) (λ _. on_next (a_mark (codes "}")) (λ closing. done (x ∷ [], closing)) (bind again (λ r. done (x ∷ r.0, r.1)))) (bind (expect (a_mark (codes "}"))) (λ closing. done (x ∷ [], closing)))
      (λ _. (mark (codes "}") >>= λ closing. gives (x ∷ [], closing)) ∣ (Braced R >>= λ r. gives (x ∷ r.0, r.1))) (mark (codes "}") >>= λ closing. gives (x ∷ [], closing)) never (mark_agrees (codes ","))
      (λ _.
      on_next_same k (a_mark (codes "}")) (λ closing. done (x ∷ [], closing)) (bind again (λ r. done (x ∷ r.0, r.1))) (λ closing. gives (x ∷ [], closing)) (Braced R >>= λ r. gives (x ∷ r.0, r.1)) never (mark_agrees (codes "}"))
      (λ closing. done_right k (x ∷ [], closing) never)
      (map_right k again (λ r. (x ∷ r.0, r.1)) (Braced R) never h)
      (starts_open _ _ never (then_starts (Braced R) _ _ (not_taken_starts (Braced R) (is_mark_token (codes "}")) braced_starts))))
      (mark_done (suc k) (codes "}") (λ closing. (x ∷ [], closing)) never)
      (starts_open _ _ never (then_starts (mark (codes "}")) _ _ (not_taken_starts (mark (codes "}")) (is_mark_token (codes ",")) (mark_starts (codes "}") (is_mark_token (codes ",")) (λ t e. mark_other (codes "}") (codes ",") t e refl))))))
      (λ x.
      starts_open _ p never
      (either_starts _ _ p
      (then_starts (mark (codes ",")) _ p (mark_starts (codes ",") p free_comma))
      (then_starts (mark (codes "}")) _ p (mark_starts (codes "}") p free_closing)))))
      braced_agrees (braced_there R) (braced_back R)

  pub braced_right : Right n (braced_at f) (Braced R) never
  unfolding braced_at
  braced_right = looped_right n (brace_round f) (Braced R) never braced_agrees brace_step

-- ---- lists in brackets

module _ {A : Type 0} (R : Production TextToken A) (opening : Node Text) where
  -- what follows `[`
  abbrev pub InBrackets : Production TextToken (Node (List A))
  InBrackets = (commas R ∣ gives []) >>= λ xs. mark (codes "]") >>= λ closing. gives (placed xs opening.loc closing.loc)

  -- `]`, or the members and then `]`
  abbrev BracketChoice : Production TextToken (Node (List A))
  BracketChoice = (mark (codes "]") >>= λ closing. gives (placed [] opening.loc closing.loc)) ∣ (commas R >>= λ xs. mark (codes "]") >>= λ closing. gives (placed xs opening.loc closing.loc))

  brackets_there : Sub BracketChoice InBrackets
  brackets_there ts v rest (inl (closing, mid, closes, same)) = ([], ts, inr (refl, refl), (closing, mid, closes, same))
  brackets_there ts v rest (inr (xs, mid, r, closes)) = (xs, mid, inl r, closes)

  brackets_back : Sub InBrackets BracketChoice
  brackets_back ts v rest (xs, mid, inl r, closes) = inr (xs, mid, r, closes)
  brackets_back ts v rest (xs, mid, inr (none_there, stay), (closing, end, closes, (value, stop))) =
      inl (closing, end, subst (λ (us : Tokens). (mark (codes "]")).reads us closing end) stay closes, (value ∙ ap (λ (us : List A). placed us opening.loc closing.loc) none_there, stop))

module _ {A : Type 0} (n : ℕ) (f : Reader A) (R : Production TextToken A) (p : TextToken → Bool) (a : Right n f R p) (free_comma : Free (codes ",") p) (free_closing : Free (codes "]") p) (starts : Starts R (is_mark_token (codes "]"))) where
  in_brackets_agrees : (opening : Node Text) → Agrees (InBrackets R opening)
  in_brackets_agrees opening =
      then_agrees (commas R ∣ gives []) _ (either_agrees (commas R) (gives []) (commas_agree R a.agrees) (gives_agrees [])) (λ xs.
      then_agrees (mark (codes "]")) _ (mark_agrees (codes "]")) (λ closing. gives_agrees (placed xs opening.loc closing.loc)))

  no_comma : Free (codes "]") (or_comma p)
  no_comma t e = rw (mark_other (codes "]") (codes ",") t e refl) (free_closing t e)

  pub brackets_right : (opening : Node Text) → Right n (brackets_behind f opening) (InBrackets R opening) never
  unfolding brackets_behind
  brackets_right opening =
      let choice =
      on_next_same n (a_mark (codes "]")) (λ closing. done (placed [] opening.loc closing.loc)) (bind (commas_at f) (λ xs. bind (expect (a_mark (codes "]"))) (λ closing. done (placed xs opening.loc closing.loc))))
      (λ closing. gives (placed [] opening.loc closing.loc)) (commas R >>= λ xs. mark (codes "]") >>= λ closing. gives (placed xs opening.loc closing.loc)) never (mark_agrees (codes "]"))
      (λ closing. done_right n (placed [] opening.loc closing.loc) never)
      (then_right n (commas_at f) _ (commas R) _ (or_comma p) never
      (commas_right n f R p a free_comma)
      (λ xs. mark_done n (codes "]") (λ closing. placed xs opening.loc closing.loc) never)
      (λ xs. starts_open _ (or_comma p) never (then_starts (mark (codes "]")) _ (or_comma p) (mark_starts (codes "]") (or_comma p) no_comma))))
      (starts_open _ _ never (then_starts (commas R) _ _ (then_starts R _ _ (not_taken_starts R (is_mark_token (codes "]")) starts))))
      in
      same_right n (brackets_behind f opening) (BracketChoice R opening) (InBrackets R opening) never choice
      (in_brackets_agrees opening) (brackets_there R opening) (brackets_back R opening)

module _ {A : Type 0} (n : ℕ) (f : Reader (Node A)) (R : Production TextToken (Node A)) (p : TextToken → Bool) (a : Right n f R p) (free_comma : Free (codes ",") p) (free_closing : Free (codes "]") p)
    (starts : Starts R (is_mark_token (codes "]"))) (no_opening : Starts R (is_mark_token (codes "["))) where
  -- the same with the list in brackets before the one member
  abbrev ListChoice : Production TextToken (Node (List (Node A)))
  ListChoice = bracketed (codes "[") (codes "]") (commas R ∣ gives []) ∣ (R >>= λ x. gives (stands (x ∷ []) x.loc))

  -- R, or '[' [R {',' R}] ']'
  pub one_or_list_right : Right n (one_or_list_at f) (one_or_list R) p
  unfolding one_or_list_at
  one_or_list_right =
      same_right n (one_or_list_at f) ListChoice (one_or_list R) p
      (on_next_same n (a_mark (codes "[")) (brackets_behind f) (bind f (λ x. done (stands (x ∷ []) x.loc))) (InBrackets R) (R >>= λ x. gives (stands (x ∷ []) x.loc)) p (mark_agrees (codes "["))
      (λ opening. stops_right n (brackets_behind f opening) (InBrackets R opening) never p (λ t e. refl) (brackets_right n f R p a free_comma free_closing starts opening))
      (map_right n f (λ x. stands (x ∷ []) x.loc) R p a)
      (starts_open _ _ p (then_starts R _ _ (not_taken_starts R (is_mark_token (codes "[")) no_opening))))
      (one_or_list_agrees R a.agrees)
      (λ ts x rest r. ⊎_elim (λ h. inr h) (λ h. inl h) r)
      (λ ts x rest r. ⊎_elim (λ h. inr h) (λ h. inl h) r)
