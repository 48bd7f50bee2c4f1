-- SPDX-License-Identifier: Apache-2.0
-- The reader of all tokens finds the schema that they are, or the first token that strays.
use Rattle.std.proofs.Common.{◌≡◌, ◌<◌, ◌≤◌, ℕ, zero, suc, ◌+◌, Bool, true, false, [], ◌∷◌, ◌++◌, length, Result, Ok, Err, append_assoc, ap, ◌∙◌, subst, sym, refl, arith}
use Rattle.std.proofs.lemmas.List.{append-nil}
use Rattle.cedar_tokens.specs.Lexemes.{TextToken}
use Rattle.cedar_grammar.specs.Productions.{Production, gives, ◌>>=◌, ReadsMany, none, more}
use Rattle.cedar_tree.specs.Trees.{Node, Annotated, TypeTree, Namespace, Schema}
use Rattle.cedar_grammar.specs.Grammar.{annots, item_behind, type_upto, schema, Reads, Viable}
use Rattle.cedar_grammar.specs.Reading.{Reader, done, after, rounds, looped, annots_at, type_at, item_at, item_round, schema_at}
use Rattle.cedar_grammar.specs.Stops.{IsFirstStray, Finds}
use Rattle.cedar_grammar.proofs.Agreement.{Agrees, completed, begun, gives_agrees, then_agrees}
use Rattle.cedar_grammar.proofs.Viability.{annots_agree, item_agrees, schema_agrees, type_agrees}
use Rattle.cedar_grammar.proofs.Lifting.{schema_lifts}
use Rattle.cedar_grammar.proofs.Readers.{Tokens, Before, never, Right, Takes, Sub, Says, Leaves, bind, later_takes, says_sub, begins_same, leaves_own, never_opens, starts_open, then_right, later_right, map_right, fewer_right, looped_right}
use Rattle.cedar_grammar.proofs.Schemas.{item_right, item_takes, item_starts}
use Rattle.cedar_grammar.proofs.Annotations.{is_more, annots_right}
use Rattle.cedar_grammar.proofs.Types.{type_goes, type_right}

-- any token
abbrev always : TextToken → Bool
always t = true

module _ (type : Production TextToken (Node TypeTree)) where
  -- Annots Item
  abbrev Item : Production TextToken (Annotated Namespace)
  Item = annots >>= item_behind type

  -- an item and the others
  abbrev Items : Production TextToken Schema
  Items = Item >>= λ x. schema type >>= λ xs. gives (x ∷ xs)

  -- an item and the others are a schema
  items_there : Sub Items (schema type)
  items_there ts v rest (x, mid, r, (xs, end, rs, (is, here))) = subst (λ (ys : Schema). ReadsMany Item.reads ts ys rest) (sym is) (subst (λ (us : Tokens). ReadsMany Item.reads ts (x ∷ xs) us) (sym here) (more r rs))

  -- of some tokens the schema has an item
  items_back : (t : TextToken) (ts all : Tokens) (xs : Schema) (rest : Tokens) → Before always rest → all ≡ t ∷ ts → ReadsMany Item.reads all xs rest → Items.reads all xs rest
  items_back t ts all _ _ stop e none = absurd (let no : Before always (t ∷ ts) = subst (Before always) e stop in let wrong : true ≡ false = no in cc)
  items_back t ts all _ rest stop e (more {mid = mid} {x = x} {xs = xs} r rs) = (x, mid, r, (xs, rest, rs, (refl, refl)))

  -- no tokens have no items
  nothing_there : Takes Item → (all : Tokens) (xs : Schema) (rest : Tokens) → all ≡ [] → ReadsMany Item.reads all xs rest → (xs ≡ []) × (rest ≡ [])
  nothing_there takes all _ _ e none = (refl, e)
  nothing_there takes all _ rest e (more {mid = mid} {x = x} {xs = xs} r rs) = absurd (omega (arith, takes.fewer all x mid r, ap length e))

module _ (n : ℕ) (f : Reader (Node TypeTree)) (type : Production TextToken (Node TypeTree)) (a : Right n f type type_goes) where
  -- beginnings of it are what further tokens complete
  items_agree : Agrees (Items type)
  items_agree = then_agrees (Item type) _ (then_agrees annots (item_behind type) annots_agree (item_agrees type a.agrees)) (λ x. then_agrees (schema type) _ (schema_agrees type a.agrees) (λ xs. gives_agrees (x ∷ xs)))

  -- the reader of an item with annotations reads it
  one_right : Right n (bind annots_at (item_at f)) (Item type) never
  one_right =
      then_right n annots_at (item_at f) annots (item_behind type) is_more never (annots_right n) (item_right n f type a)
      (λ annotations. starts_open (item_behind type annotations) is_more never (item_starts type annotations is_more (λ t k e. rw k refl) (λ t k e. rw k refl) (λ t k e. rw k refl) (λ t k e. rw k refl)))

  -- an item with annotations takes a token at least
  one_takes : Takes (Item type)
  one_takes = later_takes annots (item_behind type) annots_agree (item_takes n f type a)

  module _ (k : ℕ) (again : Reader Schema) (low : k < n) (h : Right k again (schema type) always) where
    -- an item and the next round
    items_right : Right (suc k) (bind (bind annots_at (item_at f)) (λ item. bind again (λ others. done (item ∷ others)))) (Items type) always
    items_right =
        later_right k (bind annots_at (item_at f)) _ (Item type) _ never always (fewer_right (suc k) n _ _ never (omega arith) one_right) one_takes
        (λ item. map_right k again (λ others. item ∷ others) (schema type) always h)
        (λ item. never_opens _ always)

    -- what a round gives is read, and its fault stands behind a beginning
    round_says : (ts : Tokens) → length ts < suc k → Says (schema type) ts (item_round f again ts)
    round_says [] small = none
    round_says (t ∷ ts) small = says_sub (Items type) (schema type) items_agree (schema_agrees type a.agrees) (items_there type) (t ∷ ts) _ (items_right.says (t ∷ ts) small)

    -- a round finds all items, before no further token
    round_finds : (ts : Tokens) (xs : Schema) (rest : Tokens) → length ts < suc k → (schema type).reads ts xs rest → Before always rest → item_round f again ts ≡ Ok (xs, rest)
    round_finds [] xs rest small r stop = let e = nothing_there type one_takes [] xs rest refl r in rw (e.0, e.1) refl
    round_finds (t ∷ ts) xs rest small r stop = items_right.finds (t ∷ ts) xs rest small (items_back type t ts (t ∷ ts) xs rest stop refl r) stop

    -- a round goes through all tokens that are the beginning of items
    round_presses : (ts others : Tokens) → length (ts ++ others) < suc k → (schema type).begins ts → Leaves (length others) (item_round f again (ts ++ others))
    round_presses [] others small begins = leaves_own (schema type) (schema_agrees type a.agrees) others (item_round f again others) (round_says others small)
    round_presses (t ∷ ts) others small begins =
        let c = completed (schema type) (schema_agrees type a.agrees) (t ∷ ts) begins in
        items_right.presses (t ∷ ts) others small (begun (Items type) items_agree (t ∷ ts) (c.0, c.1, items_back type t (ts ++ c.0) (t ∷ ts ++ c.0) c.1 [] tt refl c.2))

    -- a round reads the items where the rounds after it do
    round_right : Right (suc k) (item_round f again) (schema type) always
    round_right = record { agrees = schema_agrees type a.agrees; says = round_says; finds = round_finds; presses = round_presses }

  -- the loop over the items reads them
  schema_right : Right n (looped (item_round f)) (schema type) always
  schema_right = looped_right n (item_round f) (schema type) always (schema_agrees type a.agrees) round_right

-- what the reader of all tokens says and finds, at each level of types above their number
whole_right : (n k : ℕ) → n ≤ k → Right n (looped (item_round (type_at n))) (schema (type_upto k)) always
whole_right n k h = schema_right n (type_at n) (type_upto k) (type_right n k h)

-- what the reader of all tokens is
schema_at-is : (ts : Tokens) → schema_at ts ≡ looped (item_round (type_at (suc (length ts)))) ts
unfolding schema_at
schema_at-is ts = refl

-- a schema that the tokens are is found
pub schema_found : (ts : Tokens) (s : Schema) → Reads ts s → schema_at ts ≡ Ok (s, [])
schema_found ts s (k, r) =
    let high = (schema_lifts k (k + suc (length ts)) (omega arith)).reads ts s [] r in
    schema_at-is ts ∙ (whole_right (suc (length ts)) (k + suc (length ts)) (omega arith)).finds ts s [] (omega arith) high tt

-- the two parts of what is read one after another
record Parts {A B : Type 0} (o : Result (A × Tokens) ℕ) (g : A → Reader B) (y : B) (rest : Tokens) : Type 0 where
  first : A
  mid : Tokens
  was : o ≡ Ok (first, mid)
  then : g first mid ≡ Ok (y, rest)

-- what both read has two parts
parts_of : {A B : Type 0} (o : Result (A × Tokens) ℕ) (g : A → Reader B) (y : B) (rest : Tokens) → after o g ≡ Ok (y, rest) → Parts o g y rest
parts_of (Err left) g y rest e = absurd cc
parts_of (Ok p) g y rest e = record { first = p.0; mid = p.1; was = refl; then = e }

-- equal results have equal parts
ok_pair : {A : Type 0} (x y : A) (ts us : Tokens) → ◌≡◌ {A = Result (A × Tokens) ℕ} (Ok (x, ts)) (Ok (y, us)) → (x ≡ y) × (ts ≡ us)
ok_pair {A} x y ts us e = let pair : ◌≡◌ {A = A × Tokens} (x, ts) (y, us) = cc in (ap (λ p. p.0) pair, ap (λ p. p.1) pair)

-- nothing is left behind a schema
reads_all : (f : Reader (Node TypeTree)) (n : ℕ) (ts : Tokens) (xs : Schema) (rest : Tokens) → rounds (item_round f) n ts ≡ Ok (xs, rest) → rest ≡ []
reads_all f zero ts xs rest e = absurd cc
reads_all f (suc n) [] xs rest e = sym (ok_pair {A = Schema} [] xs [] rest e).1
reads_all f (suc n) (t ∷ ts) xs rest e =
    let p = parts_of (bind annots_at (item_at f) (t ∷ ts)) (λ item. bind (rounds (item_round f) n) (λ others. done (item ∷ others))) xs rest e in
    let q = parts_of (rounds (item_round f) n p.mid) (λ others. done (p.first ∷ others)) xs rest p.then in
    sym (ok_pair (p.first ∷ q.first) xs q.mid rest q.then).1 ∙ reads_all f n p.mid q.first q.mid q.was

-- tokens of which there are none
none_left : (ts : Tokens) → length ts ≡ 0 → ts ≡ []
none_left [] e = refl
none_left (t ∷ ts) e = absurd (omega (arith, e))

-- the tokens that are left begin with one that strays
stray : (ts front rest : Tokens) (m : ℕ) → schema_at ts ≡ Err (suc m) → ts ≡ front ++ rest → length rest ≡ suc m → Viable front
    → (begin : Tokens) × (t : TextToken) × (others : Tokens) × IsFirstStray ts begin t others × (length others ≡ m)
stray ts front [] m e parts count viable = absurd (omega (arith, count))
stray ts front (t ∷ us) m e parts count viable = (front, t, us, record { is = parts; before = viable; here = λ (k, b). no_further k b }, omega (arith, count))
  where
    same : (front ++ t ∷ []) ++ us ≡ ts
    same = append_assoc front (t ∷ []) us ∙ sym parts

    -- no further tokens make it a schema
    no_further : (k : ℕ) → (schema (type_upto k)).begins (front ++ t ∷ []) → ⊥
    no_further k b =
        let a = whole_right (suc (length ts)) (k + suc (length ts)) (omega arith) in
        let c = schema_agrees (type_upto k) (type_agrees k) in
        let high = begins_same (schema (type_upto k)) (schema (type_upto (k + suc (length ts)))) c a.agrees (schema_lifts k (k + suc (length ts)) (omega arith)).reads (front ++ t ∷ []) b in
        let left = a.presses (front ++ t ∷ []) us (omega (arith, ap length same)) high in
        let here : Leaves (length us) (looped (item_round (type_at (suc (length ts)))) ts) = subst (λ (vs : Tokens). Leaves (length us) (looped (item_round (type_at (suc (length ts)))) vs)) same left in
        let wrong : suc m ≤ length us = subst (Leaves (length us)) (sym (schema_at-is ts) ∙ e) here in
        omega (arith, count, wrong)

-- what the reader gives is one of three
finds_from : (ts : Tokens) (r : Result (Schema × Tokens) ℕ) → schema_at ts ≡ r → Finds ts r
finds_from ts (Ok p) e =
    let a = whole_right (suc (length ts)) (suc (length ts)) (omega arith) in
    let says = subst (Says (schema (type_upto (suc (length ts)))) ts) (sym (schema_at-is ts) ∙ e) (a.says ts (omega arith)) in
    let all = reads_all (type_at (suc (length ts))) (suc (length ts)) ts p.0 p.1 (sym (schema_at-is ts) ∙ e) in
    ((suc (length ts), subst (λ (us : Tokens). (schema (type_upto (suc (length ts)))).reads ts p.0 us) all says), all)
finds_from ts (Err zero) e =
    let a = whole_right (suc (length ts)) (suc (length ts)) (omega arith) in
    let says = subst (Says (schema (type_upto (suc (length ts)))) ts) (sym (schema_at-is ts) ∙ e) (a.says ts (omega arith)) in
    let whole : ts ≡ says.front = says.parts ∙ ap (λ (us : Tokens). says.front ++ us) (none_left says.rest says.count) ∙ append-nil says.front in
    record {
      viable = (suc (length ts), subst (λ (us : Tokens). (schema (type_upto (suc (length ts)))).begins us) (sym whole) says.begins);
      unread = λ s r. let found = schema_found ts s r in absurd (cc (found, e));
    }
finds_from ts (Err (suc m)) e =
    let a = whole_right (suc (length ts)) (suc (length ts)) (omega arith) in
    let says = subst (Says (schema (type_upto (suc (length ts)))) ts) (sym (schema_at-is ts) ∙ e) (a.says ts (omega arith)) in
    stray ts says.front says.rest m e says.parts says.count (suc (length ts), says.begins)

-- the reader finds the schema that the tokens are, or where they stop being one
pub schema_finds : (ts : Tokens) → Finds ts (schema_at ts)
schema_finds ts = finds_from ts (schema_at ts) refl

-- tokens are one schema at most
pub one_schema : (ts : Tokens) (s s' : Schema) → Reads ts s → Reads ts s' → s ≡ s'
one_schema ts s s' r r' = (ok_pair s s' [] [] (sym (schema_found ts s r) ∙ schema_found ts s' r')).0
