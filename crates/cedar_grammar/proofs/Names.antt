-- SPDX-License-Identifier: Apache-2.0
-- The readers of names, paths and references read what the grammar reads.
use Rattle.std.proofs.Common.{◌≡◌, ◌⊎◌, ℕ, suc, Bool, true, false, List, [], ◌∷◌, Option, Some, None, codes, bytes_eq, sym, ap, ◌∙◌, subst, refl, inl, inr}
use Rattle.cedar_tokens.specs.Lexemes.{TextToken}
use Rattle.cedar_grammar.specs.Productions.{Production, IsOne, gives, ◌>>=◌, ◌>>◌, ◌∣◌, ReadsMany, none, more, many}
use Rattle.cedar_tree.specs.Trees.{Node, Text, Path, QualName}
use Rattle.cedar_grammar.specs.Grammar.{at_token, text_where, is_word_token, is_mark_token, is_ident_token, literal_value, mark, word, str, ident, name, path_of, path, types, qualified, ref, refs}
use Rattle.cedar_grammar.specs.Reading.{Reader, done, expect, looped, a_mark, a_word, an_ident, name_at, path_round, path_behind, path_at, types_at, id_round, ref_behind, ref_at, one_or_list_at}
use Rattle.cedar_grammar.proofs.Agreement.{Agrees, gives_agrees, then_agrees, many_agrees}
use Rattle.cedar_grammar.proofs.Viability.{mark_agrees, word_agrees, str_agrees, ident_agrees, name_agrees, ref_agrees}
use Rattle.cedar_grammar.proofs.Readers.{Tokens, Before, never, takes, Right, Starts, Sub, bind, class_starts, class_takes, then_starts, either_starts, starts_open, never_opens, then_right, later_right, map_right, done_right, on_next_right, on_next_same, split_same, expect_right, same_right, stops_right, looped_right}
use Rattle.cedar_grammar.proofs.Tokens.{passes, mark_other, word_is, ident_is, literal_is, ident_no_mark, word_no_mark, str_no_mark, word_no_literal, str_no_ident}
use Rattle.cedar_grammar.proofs.Lists.{Free, not_taken, gives_not_taken, one_or_list_right}

-- a value of an option that is none
none_is : {A : Type 0} (f : TextToken → Option A) (t : TextToken) → f t ≡ None → takes f t ≡ false
none_is f t e = rw e refl

pub ident_right : (n : ℕ) (p : TextToken → Bool) → Right n (expect an_ident) ident p
ident_right n p = expect_right n an_ident ident_agrees p

pub str_right : (n : ℕ) (p : TextToken → Bool) → Right n (expect literal_value) str p
str_right n p = expect_right n literal_value str_agrees p

pub ident_starts : (s : List ℕ) → Starts ident (is_mark_token s)
ident_starts s = class_starts an_ident (is_mark_token s) (λ t x e. ident_no_mark s t (passes is_ident_token t x e))

pub word_starts : (s : List ℕ) → Starts word (is_mark_token s)
word_starts s = class_starts a_word (is_mark_token s) (λ t x e. word_no_mark s t (word_is t (passes is_word_token t x e)))

pub str_starts : (s : List ℕ) → Starts str (is_mark_token s)
str_starts s = class_starts literal_value (is_mark_token s) (λ t x e. str_no_mark s t (literal_is t x e))

pub name_starts : (s : List ℕ) → Starts name (is_mark_token s)
name_starts s = either_starts word str (is_mark_token s) (word_starts s) (str_starts s)

-- the text of a token that passes another test too
pub other_test : (q r : TextToken → Bool) (t : TextToken) (x : Node Text) → text_where q t ≡ Some x → r t ≡ true → text_where r t ≡ Some x
other_test q r t x is e =
    let passed = passes q t x is in
    let there : text_where r t ≡ Some (at_token t t.text) = rw e refl in
    let here : text_where q t ≡ Some (at_token t t.text) = rw passed refl in
    there ∙ sym here ∙ is

is_ident_word : (t : TextToken) → is_ident_token t ≡ true → is_word_token t ≡ true
is_ident_word t e = rw (ident_is t e).0 refl

-- ---- Name

-- the same with the literal before the word
abbrev NameChoice : Production TextToken (Node Text)
NameChoice = (str >>= λ x. gives x) ∣ word

name_there : Sub NameChoice name
name_there ts v rest (inl (x, mid, r, (same, stop))) = rw (same, stop) (inr r)
name_there ts v rest (inr r) = inl r

name_back : Sub name NameChoice
name_back ts v rest (inl r) = inr r
name_back ts v rest (inr r) = inl (v, rest, r, (refl, refl))

pub name_right : (n : ℕ) (p : TextToken → Bool) → Right n name_at name p
unfolding name_at
name_right n p =
    same_right n name_at NameChoice name p
    (on_next_same n literal_value done (expect a_word) (λ x. gives x) word p str_agrees (λ x. done_right n x p) (expect_right n a_word word_agrees p)
    (starts_open word _ p (class_starts a_word _ (λ t x e. none_is literal_value t (word_no_literal t (word_is t (passes is_word_token t x e)))))))
    name_agrees name_there name_back

-- ---- Path

-- `::`
abbrev pub is_colons : TextToken → Bool
is_colons = is_mark_token (codes "::")

-- the identifiers behind the first of a path
abbrev Others : Production TextToken (List (Node Text))
Others = many (mark (codes "::") >> ident)

-- `::`, an identifier and the others, or nothing
abbrev OthersRound : Production TextToken (List (Node Text))
OthersRound = (mark (codes "::") >>= λ _. ident >>= λ n. Others >>= λ others. gives (n ∷ others)) ∣ gives []

others_agree : Agrees Others
others_agree = many_agrees (mark (codes "::") >> ident) (then_agrees (mark (codes "::")) _ (mark_agrees (codes "::")) (λ _. ident_agrees))

others_there : Sub OthersRound Others
others_there ts v rest (inl (c, m, rc, (n, m', rn, (xs, m'', rs, (same, stop))))) = rw (same, stop) (more (c, m, rc, rn) rs)
others_there ts v rest (inr (same, stop)) = rw (same, stop) none

others_back : Sub Others OthersRound
others_back ts _ _ none = inr (refl, refl)
others_back ts _ rest (more {mid = mid} {x = n} {xs = xs} (c, m, rc, rn) rs) = inl (c, m, rc, (n, mid, rn, (xs, rest, rs, (refl, refl))))

path_step : (k : ℕ) (again : Reader (List (Node Text))) → Right k again Others is_colons → Right (suc k) (path_round again) Others is_colons
path_step k again h =
    same_right (suc k) (path_round again) OthersRound Others is_colons
    (on_next_right k (a_mark (codes "::")) (λ _. bind (expect an_ident) (λ n. bind again (λ others. done (n ∷ others)))) (done [])
    (λ _. ident >>= λ n. Others >>= λ others. gives (n ∷ others)) (gives []) is_colons (mark_agrees (codes "::"))
    (λ _.
    then_right k (expect an_ident) _ ident _ never is_colons (ident_right k never)
    (λ n. map_right k again (λ others. n ∷ others) Others is_colons h)
    (λ n. never_opens _ is_colons))
    (done_right (suc k) [] is_colons)
    (gives_not_taken [] is_colons is_colons (λ t e. e)))
    others_agree others_there others_back

-- what follows the first identifier of a path
pub path_behind_right : (n : ℕ) (first : Node Text) → Right n (path_behind first) (many (mark (codes "::") >> ident) >>= λ others. gives (path_of first others)) is_colons
unfolding path_behind
path_behind_right n first =
    map_right n (looped path_round) (λ others. path_of first others) Others is_colons
    (looped_right n path_round Others is_colons others_agree (λ k again low h. path_step k again h))

pub path_right : (n : ℕ) → Right n path_at path is_colons
unfolding path_at
path_right n =
    then_right n (expect an_ident) path_behind ident _ never is_colons (ident_right n never)
    (λ first. path_behind_right n first)
    (λ first. never_opens _ is_colons)

pub path_starts : (p : TextToken → Bool) → Starts ident p → Starts path p
path_starts p a = then_starts ident _ p a

-- a mark other than `::` is none
pub no_colons : (s : List ℕ) → bytes_eq s (codes "::") ≡ false → Free s is_colons
no_colons s differ t e = mark_other s (codes "::") t e differ

-- Types
pub types_right : (n : ℕ) → Right n types_at types is_colons
unfolding types_at
types_right n =
    one_or_list_right n path_at path is_colons (path_right n) (no_colons (codes ",") refl) (no_colons (codes "]") refl)
    (path_starts (is_mark_token (codes "]")) (ident_starts (codes "]"))) (path_starts (is_mark_token (codes "[")) (ident_starts (codes "[")))

-- ---- Ref

-- an identifier with `::` behind it
abbrev Segment : Production TextToken (Node Text)
Segment = ident >>= λ n. mark (codes "::") >>= λ _. gives n

-- an id behind these
abbrev IdBehind : List (Node Text) → Production TextToken (List (Node Text) × Node Text)
IdBehind ns = str >>= λ id. gives (ns, id)

-- the identifiers with `::` behind them that come before an id, and the id
abbrev Ids : Production TextToken (List (Node Text) × Node Text)
Ids = many Segment >>= λ ns. IdBehind ns

-- an id, or an identifier, `::` and what follows that
abbrev IdRound : Production TextToken (List (Node Text) × Node Text)
IdRound = IdBehind [] ∣ (ident >>= λ n. mark (codes "::") >>= λ _. Ids >>= λ r. gives (n ∷ r.0, r.1))

ids_agree : Agrees Ids
ids_agree =
    then_agrees (many Segment) _
    (many_agrees Segment (then_agrees ident _ ident_agrees (λ n. then_agrees (mark (codes "::")) _ (mark_agrees (codes "::")) (λ _. gives_agrees n))))
    (λ ns. then_agrees str _ str_agrees (λ id. gives_agrees (ns, id)))

ids_there : Sub IdRound Ids
ids_there ts v rest (inl r) = ([], ts, none, r)
ids_there ts v rest (inr (n, m, rn, (c, m', rc, (w, m'', (ns, m3, rs, (id, m4, ri, (same', stop'))), (same, stop))))) =
    (n ∷ ns, m3, more (n, m, rn, (c, m', rc, (refl, refl))) rs, (id, m4, ri, (same ∙ ap (λ (u : List (Node Text) × Node Text). (n ∷ u.0, u.1)) same', stop ∙ stop')))

ids_back_from : (ts : Tokens) (ns : List (Node Text)) (mid : Tokens) (v : List (Node Text) × Node Text) (rest : Tokens) → ReadsMany Segment.reads ts ns mid → (IdBehind ns).reads mid v rest → IdRound.reads ts v rest
ids_back_from ts _ _ v rest none r = inl r
ids_back_from ts _ mid v rest (more {mid = m3} {x = x} {xs = xs} (n, m, rn, (c, m', rc, (same, stop))) rs) (id, m4, ri, (same', stop')) =
    inr (n, m, rn, (c, m', rc, ((xs, id), m4, (xs, mid, subst (λ (us : Tokens). ReadsMany Segment.reads us xs mid) stop rs, (id, m4, ri, (refl, refl))), (same' ∙ ap (λ (y : Node Text). (y ∷ xs, id)) same, stop'))))

ids_back : Sub Ids IdRound
ids_back ts v rest (ns, mid, rs, r) = ids_back_from ts ns mid v rest rs r

id_step : (k : ℕ) (again : Reader (List (Node Text) × Node Text)) → Right k again Ids never → Right (suc k) (id_round again) Ids never
id_step k again h =
    same_right (suc k) (id_round again) IdRound Ids never
    (on_next_right k literal_value (λ id. done ([], id)) (bind (expect an_ident) (λ n. bind (expect (a_mark (codes "::"))) (λ _. bind again (λ r. done (n ∷ r.0, r.1)))))
    (λ id. gives ([], id)) (ident >>= λ n. mark (codes "::") >>= λ _. Ids >>= λ r. gives (n ∷ r.0, r.1)) never str_agrees
    (λ id. done_right k ([], id) never)
    (later_right k (expect an_ident) _ ident _ never never (ident_right (suc k) never) (class_takes an_ident)
    (λ n.
    then_right k (expect (a_mark (codes "::"))) _ (mark (codes "::")) _ never never (expect_right k (a_mark (codes "::")) (mark_agrees (codes "::")) never)
    (λ _. map_right k again (λ r. (n ∷ r.0, r.1)) Ids never h)
    (λ _. never_opens _ never))
    (λ n. never_opens _ never))
    (starts_open _ _ never (then_starts ident _ _ (class_starts an_ident _ (λ t x e. none_is literal_value t (word_no_literal t (ident_is t (passes is_ident_token t x e)).0))))))
    ids_agree ids_there ids_back

-- what follows an identifier that begins a reference
abbrev RefBehind : Node Text → Production TextToken (Node QualName)
RefBehind n = (mark (codes "::") >>= λ _. Ids >>= λ r. gives (qualified (Some (path_of n r.0)) r.1 n.loc)) ∣ gives (qualified None n n.loc)

ref_behind_right : (n : ℕ) (first : Node Text) → Right n (ref_behind first) (RefBehind first) is_colons
unfolding ref_behind
ref_behind_right n first =
    on_next_same n (a_mark (codes "::")) (λ _. bind (looped id_round) (λ r. done (qualified (Some (path_of first r.0)) r.1 first.loc))) (done (qualified None first first.loc))
    (λ _. Ids >>= λ r. gives (qualified (Some (path_of first r.0)) r.1 first.loc)) (gives (qualified None first first.loc)) is_colons (mark_agrees (codes "::"))
    (λ _.
    map_right n (looped id_round) (λ r. qualified (Some (path_of first r.0)) r.1 first.loc) Ids is_colons
    (stops_right n (looped id_round) Ids never is_colons (λ t e. refl) (looped_right n id_round Ids never ids_agree (λ k again low h. id_step k again h))))
    (done_right n (qualified None first first.loc) is_colons)
    (gives_not_taken (qualified None first first.loc) is_colons is_colons (λ t e. e))

-- a name that is a reference alone
abbrev Alone : Production TextToken (Node QualName)
Alone = name >>= λ id. gives (qualified None id id.loc)

-- identifiers with `::` before each, and `::`
record Led (ts : Tokens) (ns : List (Node Text)) (mid : Tokens) : Type 0 where
  end : Tokens
  colons : Node Text
  others : ReadsMany (mark (codes "::") >> ident).reads ts ns end
  last : (mark (codes "::")).reads end colons mid

-- `::`, and identifiers with `::` behind each
record Trailed (ts : Tokens) (ns : List (Node Text)) (mid : Tokens) : Type 0 where
  colons : Node Text
  begin : Tokens
  first : (mark (codes "::")).reads ts colons begin
  segments : ReadsMany Segment.reads begin ns mid

-- these are the same tokens
led : (ts : Tokens) (c : Node Text) (m begin : Tokens) (ns : List (Node Text)) (mid : Tokens) → (mark (codes "::")).reads ts c m → m ≡ begin → ReadsMany Segment.reads begin ns mid → Led ts ns mid
led ts c m _ _ mid r e none = record { end = ts; colons = c; others = none; last = subst (λ (us : Tokens). (mark (codes "::")).reads ts c us) e r }
led ts c m begin _ mid r e (more {mid = m3} {x = x} {xs = xs} (n, m1, rn, (d, m2, rd, (same, stop))) rs) =
    let l = led m1 d m2 m3 xs mid rd (sym stop) rs in
    record { end = l.end; colons = l.colons; others = more (c, m, r, subst (λ (y : Node Text). ident.reads m y m1) (sym same) (subst (λ (us : Tokens). ident.reads us n m1) (sym e) rn)) l.others; last = l.last }

trailed : (ts : Tokens) (ns : List (Node Text)) (end : Tokens) (c : Node Text) (mid : Tokens) → ReadsMany (mark (codes "::") >> ident).reads ts ns end → (mark (codes "::")).reads end c mid → Trailed ts ns mid
trailed ts _ _ c mid none r = record { colons = c; begin = mid; first = r; segments = none }
trailed ts _ end c mid (more {mid = m} {x = n} {xs = ns} (d, m1, rd, rn) rs) r =
    let t = trailed m ns end c mid rs r in
    record { colons = d; begin = m1; first = rd; segments = more (n, m, rn, (t.colons, t.begin, t.first, (refl, refl))) t.segments }

ref_there : Sub ((ident >>= RefBehind) ∣ Alone) ref
ref_there ts v rest (inl (n, m, rn, inl (c, m', rc, (w, m'', (ns, m3, rs, (id, m4, ri, (same', stop'))), (same, stop))))) =
    let l = led m c m' m' ns m3 rc refl rs in
    inl (path_of n ns, l.end, (n, m, rn, (ns, l.end, l.others, (refl, refl))), (l.colons, m3, l.last, (id, m4, ri, (same ∙ ap (λ (u : List (Node Text) × Node Text). qualified (Some (path_of n u.0)) u.1 n.loc) same', stop ∙ stop'))))
ref_there ts v rest (inl (n, m, one, inr same)) =
    inr (n, m, inl (record { token = one.token; front = one.front; is = other_test is_ident_token is_word_token one.token n one.is (is_ident_word one.token (passes is_ident_token one.token n one.is)) }), same)
ref_there ts v rest (inr r) = inr r

-- a word before which a reference is a name alone, or which begins a reference
word_alone : (ts : Tokens) (v : Node QualName) (rest : Tokens) (n : Node Text) (mid : Tokens) → (one : IsOne a_word ts n mid) → (v ≡ qualified None n n.loc) × (rest ≡ mid) → (b : Bool) → is_ident_token one.token ≡ b
    → (ident >>= RefBehind).reads ts v rest ⊎ (Alone.reads ts v rest × Before (takes an_ident) ts)
word_alone ts v rest n mid one same true e = inl (n, mid, record { token = one.token; front = one.front; is = other_test is_word_token is_ident_token one.token n one.is e }, inr same)
word_alone ts v rest n mid one same false e = inr ((n, mid, inl one, same), subst (Before (takes an_ident)) (sym one.front) (not_taken is_ident_token one.token e))

ref_back : (ts : Tokens) (v : Node QualName) (rest : Tokens) → ref.reads ts v rest → Before is_colons rest → (ident >>= RefBehind).reads ts v rest ⊎ (Alone.reads ts v rest × Before (takes an_ident) ts)
ref_back ts v rest (inl (p, end, (n, m, rn, (ns, end', rs, (same, stop))), (c, m3, rc, (id, m4, ri, (same', stop'))))) before =
    let t = trailed m ns end' c m3 rs (subst (λ (us : Tokens). (mark (codes "::")).reads us c m3) stop rc) in
    inl (n, m, rn, inl (t.colons, t.begin, t.first, ((ns, id), m4, (ns, m3, t.segments, (id, m4, ri, (refl, refl))), (same' ∙ ap (λ (q : Path). qualified (Some q) id q.loc) same, stop'))))
ref_back ts v rest (inr (n, mid, inl one, same)) before = word_alone ts v rest n mid one same (is_ident_token one.token) refl
ref_back ts v rest (inr (n, mid, inr one, same)) before =
    inr ((n, mid, inr one, same), subst (Before (takes an_ident)) (sym one.front) (not_taken is_ident_token one.token (str_no_ident one.token (literal_is one.token n one.is))))

pub ref_right : (n : ℕ) → Right n ref_at ref is_colons
unfolding ref_at
ref_right n =
    split_same n an_ident ref_behind (bind name_at (λ id. done (qualified None id id.loc))) RefBehind Alone ref is_colons ident_agrees
    (λ first. ref_behind_right n first)
    (map_right n name_at (λ id. qualified None id id.loc) name is_colons (name_right n is_colons))
    ref_agrees ref_there ref_back

pub ref_starts : (s : List ℕ) → Starts ref (is_mark_token s)
ref_starts s = either_starts _ Alone (is_mark_token s) (then_starts path _ _ (path_starts (is_mark_token s) (ident_starts s))) (then_starts name _ _ (name_starts s))

-- Refs
pub refs_right : (n : ℕ) → Right n (one_or_list_at ref_at) refs is_colons
refs_right n = one_or_list_right n ref_at ref is_colons (ref_right n) (no_colons (codes ",") refl) (no_colons (codes "]") refl) (ref_starts (codes "]")) (ref_starts (codes "["))
