-- SPDX-License-Identifier: Apache-2.0
-- How many brackets productions open at a time, as what they read tells.
use Rattle.std.proofs.Common.{◌≡◌, ◌≤◌, ◌+◌, ℕ, zero, suc, max, true, false, List, [], ◌∷◌, fold, take, Option, Some, None, sym, subst, inl, inr, arith}
use Rattle.cedar_tokens.specs.Lexemes.{TextToken}
use Rattle.cedar_grammar.specs.Productions.{Production, class, gives, ◌>>=◌, ◌>>◌, ◌∣◌, ReadsMany, none, more, many, ReadsEach, none_yet, then_one, each, optional, maybe, separated, trailing}
use Rattle.cedar_grammar.specs.Grammar.{OpensAtMost, unclosed_behind}

abbrev pub Tokens : Type 0
Tokens = List TextToken

-- at no place more than b are open, where n are before
abbrev pub Within : ℕ → ℕ → Tokens → Type 0
Within b n [] = n ≤ b
Within b n (t ∷ ts) = (n ≤ b) × Within b (unclosed_behind n t) ts

within_take : (b n : ℕ) (ts : Tokens) → Within b n ts → (k : ℕ) → fold unclosed_behind n (take k ts) ≤ b
within_take b n [] w zero = w
within_take b n [] w (suc k) = w
within_take b n (t ∷ ts) w zero = w.0
within_take b n (t ∷ ts) w (suc k) = within_take b (unclosed_behind n t) ts w.1 k

pub opens_within : (b : ℕ) (ts : Tokens) → Within b 0 ts → OpensAtMost b ts
opens_within b ts w k = within_take b 0 ts w k

-- what R reads closes what it opens, and opens at most d of it at a time
pub record Opens {A : Type 0} (R : Production TextToken A) (d : A → ℕ) : Type 0 where
  pub keeps : (ts : Tokens) (x : A) (rest : Tokens) → R.reads ts x rest → (b n : ℕ) → n + d x ≤ b → Within b n rest → Within b n ts

-- what R reads opens nothing
abbrev pub Plain : {A : Type 0} → Production TextToken A → Type 0
Plain R = Opens R (λ _. 0)

-- P holds of what R reads
pub record Tells {A : Type 0} (R : Production TextToken A) (P : A → Type 0) : Type 0 where
  pub tells : (ts : Tokens) (x : A) (rest : Tokens) → R.reads ts x rest → P x

pub tells_gives : {A : Type 0} (a : A) (P : A → Type 0) → P a → Tells (gives a) P
tells_gives a P p = record { tells = λ ts x rest r. subst P (sym r.0) p }

pub tells_then : {A B : Type 0} (R : Production TextToken A) (S : A → Production TextToken B) (P : B → Type 0) → ((x : A) → Tells (S x) P) → Tells (R >>= S) P
tells_then R S P t = record { tells = λ ts y rest (x, mid, r, s). (t x).tells mid y rest s }

-- ---- the ways to put productions together

pub opens_less : {A : Type 0} (R : Production TextToken A) (d e : A → ℕ) → ((x : A) → d x ≤ e x) → Opens R d → Opens R e
opens_less R d e le o = record { keeps = λ ts x rest r b n room w. o.keeps ts x rest r b n (omega (arith, le x, room)) w }

pub opens_gives : {A : Type 0} (a : A) (d : A → ℕ) → Opens (gives a) d
opens_gives a d = record { keeps = λ ts x rest r b n room w. subst (λ (l : Tokens). Within b n l) r.1 w }

-- R first, which opens no more than what all of it may
pub opens_then : {A B : Type 0} (R : Production TextToken A) (S : A → Production TextToken B) (d : A → ℕ) (e : B → ℕ) → Opens R d → ((x : A) → Tells (S x) (λ y. d x ≤ e y)) → ((x : A) → Opens (S x) e) → Opens (R >>= S) e
opens_then R S d e first less others = record {
  keeps = λ ts y rest (x, mid, r, s) b n room w.
      let le = (less x).tells mid y rest s in
      first.keeps ts x mid r b n (omega (arith, le, room)) ((others x).keeps mid y rest s b n room w);
}

-- R first, which opens nothing
pub plain_then : {A B : Type 0} (R : Production TextToken A) (S : A → Production TextToken B) (e : B → ℕ) → Plain R → ((x : A) → Opens (S x) e) → Opens (R >>= S) e
plain_then R S e first others = record { keeps = λ ts y rest (x, mid, r, s) b n room w. first.keeps ts x mid r b n (omega (arith, room)) ((others x).keeps mid y rest s b n room w) }

pub opens_either : {A : Type 0} (R S : Production TextToken A) (d : A → ℕ) → Opens R d → Opens S d → Opens (R ∣ S) d
opens_either {A} R S d one other = record { keeps = by }
  where
    by : (ts : Tokens) (x : A) (rest : Tokens) → (R ∣ S).reads ts x rest → (b n : ℕ) → n + d x ≤ b → Within b n rest → Within b n ts
    by ts x rest (inl r) b n room w = one.keeps ts x rest r b n room w
    by ts x rest (inr s) b n room w = other.keeps ts x rest s b n room w

-- the most that a member opens
abbrev pub greatest : {A : Type 0} → (A → ℕ) → List A → ℕ
greatest d [] = 0
greatest d (x ∷ xs) = max (d x) (greatest d xs)

-- what a member opens that may not be there
abbrev pub of_option : {A : Type 0} → (A → ℕ) → Option A → ℕ
of_option d None = 0
of_option d (Some x) = d x

pub opens_many : {A : Type 0} (R : Production TextToken A) (d : A → ℕ) → Opens R d → Opens (many R) (greatest d)
opens_many {A} R d o = record { keeps = by }
  where
    by : (ts : Tokens) (xs : List A) (rest : Tokens) → ReadsMany R.reads ts xs rest → (b n : ℕ) → n + greatest d xs ≤ b → Within b n rest → Within b n ts
    by ts _ _ none b n room w = w
    by ts _ rest (more {mid = mid} {x = x} {xs = xs} r others) b n room w = o.keeps ts x mid r b n (omega (arith, room)) (by mid xs rest others b n (omega (arith, room)) w)

pub plain_many : {A : Type 0} (R : Production TextToken A) → Plain R → Plain (many R)
plain_many {A} R o = record { keeps = by }
  where
    by : (ts : Tokens) (xs : List A) (rest : Tokens) → ReadsMany R.reads ts xs rest → (b n : ℕ) → n + 0 ≤ b → Within b n rest → Within b n ts
    by ts _ _ none b n room w = w
    by ts _ rest (more {mid = mid} {x = x} {xs = xs} r others) b n room w = o.keeps ts x mid r b n room (by mid xs rest others b n room w)

pub plain_each : {A : Type 0} (R : List A → Production TextToken A) → ((xs : List A) → Plain (R xs)) → Plain (each R)
plain_each {A} R o = record { keeps = by }
  where
    by : (ts : Tokens) (xs : List A) (rest : Tokens) → ReadsEach (λ ys. (R ys).reads) ts xs rest → (b n : ℕ) → n + 0 ≤ b → Within b n rest → Within b n ts
    by ts _ _ none_yet b n room w = w
    by ts _ rest (then_one {mid = mid} {x = x} {xs = xs} before r) b n room w = by ts xs mid before b n room ((o xs).keeps mid x rest r b n room w)

pub plain_optional : {A : Type 0} (R : Production TextToken A) → Plain R → Plain (optional R)
plain_optional R o = opens_either (R >> gives true) (gives false) (λ _. 0) (plain_then R (λ _. gives true) (λ _. 0) o (λ _. opens_gives true (λ _. 0))) (opens_gives false (λ _. 0))

pub opens_maybe : {A : Type 0} (R : Production TextToken A) (d : A → ℕ) → Opens R d → Opens (maybe R) (of_option d)
opens_maybe R d o =
    opens_either (R >>= λ x. gives (Some x)) (gives None) (of_option d)
    (opens_then R _ d (of_option d) o (λ x. tells_gives (Some x) (λ y. d x ≤ of_option d y) (omega arith)) (λ x. opens_gives (Some x) (of_option d)))
    (opens_gives None (of_option d))

pub plain_maybe : {A : Type 0} (R : Production TextToken A) → Plain R → Plain (maybe R)
plain_maybe R o = opens_either (R >>= λ x. gives (Some x)) (gives None) (λ _. 0) (plain_then R _ (λ _. 0) o (λ x. opens_gives (Some x) (λ _. 0))) (opens_gives None (λ _. 0))

pub opens_separated : {S A : Type 0} (separator : Production TextToken S) (R : Production TextToken A) (d : A → ℕ) → Plain separator → Opens R d → Opens (separated separator R) (greatest d)
opens_separated separator R d plain o =
    opens_then R _ d (greatest d) o
    (λ x. tells_then (many (separator >> R)) _ (λ ys. d x ≤ greatest d ys) (λ xs. tells_gives (x ∷ xs) (λ ys. d x ≤ greatest d ys) (omega arith)))
    (λ x. opens_then (many (separator >> R)) _ (greatest d) (greatest d) (opens_many (separator >> R) d (plain_then separator (λ _. R) d plain (λ _. o)))
    (λ xs. tells_gives (x ∷ xs) (λ ys. greatest d xs ≤ greatest d ys) (omega arith))
    (λ xs. opens_gives (x ∷ xs) (greatest d)))

pub plain_separated : {S A : Type 0} (separator : Production TextToken S) (R : Production TextToken A) → Plain separator → Plain R → Plain (separated separator R)
plain_separated separator R plain o =
    plain_then R _ (λ _. 0) o
    (λ x. plain_then (many (separator >> R)) _ (λ _. 0) (plain_many (separator >> R) (plain_then separator (λ _. R) (λ _. 0) plain (λ _. o)))
    (λ xs. opens_gives (x ∷ xs) (λ _. 0)))

pub opens_trailing : {S A : Type 0} (separator : Production TextToken S) (R : Production TextToken A) (d : A → ℕ) → Plain separator → Opens R d → Opens (trailing separator R) (greatest d)
opens_trailing separator R d plain o =
    opens_then (separated separator R) _ (greatest d) (greatest d) (opens_separated separator R d plain o)
    (λ xs. tells_then (optional separator) _ (λ ys. greatest d xs ≤ greatest d ys) (λ _. tells_gives xs (λ ys. greatest d xs ≤ greatest d ys) (omega arith)))
    (λ xs. plain_then (optional separator) _ (greatest d) (plain_optional separator plain) (λ _. opens_gives xs (greatest d)))

-- ---- single tokens

-- a token that opens and closes nothing
abbrev pub IsStill : TextToken → Type 0
IsStill t = (n : ℕ) → unclosed_behind n t ≡ n

pub plain_class : {A : Type 0} (f : TextToken → Option A) → ((t : TextToken) (x : A) → f t ≡ Some x → IsStill t) → Plain (class f)
plain_class f still = record {
  keeps = λ ts x rest r b n room w. subst (λ (l : Tokens). Within b n l) (sym r.front) (omega (arith, room), subst (λ m. Within b m rest) (sym (still r.token x r.is n)) w);
}

-- a token behind which m are open
pub within_token : (b n m : ℕ) (t : TextToken) (rest ts : Tokens) → ts ≡ t ∷ rest → unclosed_behind n t ≡ m → n ≤ b → Within b m rest → Within b n ts
within_token b n m t rest ts front behind room w = subst (λ (l : Tokens). Within b n l) (sym front) (room, subst (λ k. Within b k rest) (sym behind) w)
