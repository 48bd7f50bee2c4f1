-- SPDX-License-Identifier: Apache-2.0
-- A reader finds exactly what a production reads, and its fault where no reading begins so: a law for each way to put readers together.
use Rattle.std.proofs.Common.{◌≡◌, ◌⊎◌, ◌<◌, ◌≤◌, ℕ, zero, suc, Bool, true, false, List, [], ◌∷◌, ◌++◌, Option, Some, None, option_map, Result, Ok, Err, length, length-append, append_assoc, sym, ap, ◌∙◌, subst, refl, inl, inr, ⊎_elim, arith}
use Rattle.std.proofs.lemmas.List.{append-nil}
use Rattle.cedar_tokens.specs.Lexemes.{TextToken}
use Rattle.cedar_grammar.specs.Productions.{Production, IsOne, class, gives, ◌>>=◌, ◌∣◌, ReadsMany, none, more, many}
use Rattle.cedar_grammar.specs.Reading.{Reader, done, after, accepted, either, on_next, expect, rounds, looped}
use Rattle.cedar_grammar.proofs.Agreement.{Agrees, completed, begun, gives_agrees, either_agrees, then_agrees}

-- the tokens of a text
abbrev pub Tokens : Type 0
Tokens = List TextToken

-- no token follows, or one that isn't among those of p
abbrev pub Before : (TextToken → Bool) → Tokens → Type 0
Before p [] = Unit {0}
Before p (t ∷ ts) = p t ≡ false

-- no token
abbrev pub never : TextToken → Bool
never t = false

-- whether an option has a value
abbrev pub is_some : {A : Type 0} → Option A → Bool
is_some None = false
is_some (Some x) = true

-- the tokens of which f makes a value
abbrev pub takes : {A : Type 0} → (TextToken → Option A) → TextToken → Bool
takes f t = is_some (f t)

-- the tokens before the fault are the beginning of a reading
pub record Fault {A : Type 0} (R : Production TextToken A) (ts : Tokens) (left : ℕ) : Type 0 where
  pub front : Tokens
  pub rest : Tokens
  pub parts : ts ≡ front ++ rest
  pub count : length rest ≡ left
  pub begins : R.begins front

-- what a reader gives is read, and its fault stands behind a beginning
abbrev pub Says : {A : Type 0} → Production TextToken A → Tokens → Result (A × Tokens) ℕ → Type 0
Says R ts (Ok q) = R.reads ts q.0 q.1
Says R ts (Err left) = Fault R ts left

-- no more than k tokens are left
abbrev pub Leaves : {A : Type 0} → ℕ → Result (A × Tokens) ℕ → Type 0
Leaves k (Ok q) = length q.1 ≤ k
Leaves k (Err left) = left ≤ k

-- of fewer than n tokens f reads what R reads, where no token of p follows
pub record Right {A : Type 0} (n : ℕ) (f : Reader A) (R : Production TextToken A) (p : TextToken → Bool) : Type 0 where
  pub agrees : Agrees R
  pub says : (ts : Tokens) → length ts < n → Says R ts (f ts)
  pub finds : (ts : Tokens) (x : A) (rest : Tokens) → length ts < n → R.reads ts x rest → Before p rest → f ts ≡ Ok (x, rest)
  -- it goes through all tokens that are the beginning of a reading
  pub presses : (ts others : Tokens) → length (ts ++ others) < n → R.begins ts → Leaves (length others) (f (ts ++ others))

-- a reading of R begins with none of p where none of q follows
pub record Opens {A : Type 0} (R : Production TextToken A) (p q : TextToken → Bool) : Type 0 where
  pub opens : (ts : Tokens) (x : A) (rest : Tokens) → R.reads ts x rest → Before q rest → Before p ts

-- a reading of R begins with none of p
pub record Starts {A : Type 0} (R : Production TextToken A) (p : TextToken → Bool) : Type 0 where
  pub starts : (ts : Tokens) (x : A) (rest : Tokens) → R.reads ts x rest → Before p ts

-- a reading of R takes a token at least
pub record Takes {A : Type 0} (R : Production TextToken A) : Type 0 where
  pub fewer : (ts : Tokens) (x : A) (rest : Tokens) → R.reads ts x rest → length rest < length ts

-- each reading of R is one of S
abbrev pub Sub : {A : Type 0} → Production TextToken A → Production TextToken A → Type 0
Sub {A} R S = (ts : Tokens) (x : A) (rest : Tokens) → R.reads ts x rest → S.reads ts x rest

-- f, and then g
abbrev pub bind : {A B : Type 0} → Reader A → (A → Reader B) → Reader B
bind f g = λ ts. after (f ts) g

-- ---- first tokens

pub before_less : (p q : TextToken → Bool) → ((t : TextToken) → p t ≡ false → q t ≡ false) → (ts : Tokens) → Before p ts → Before q ts
before_less p q h [] b = tt
before_less p q h (t ∷ ts) b = h t b

pub class_starts : {A : Type 0} (f : TextToken → Option A) (p : TextToken → Bool) → ((t : TextToken) (x : A) → f t ≡ Some x → p t ≡ false) → Starts (class f) p
class_starts f p h = record { starts = λ ts x rest r. subst (Before p) (sym r.front) (h r.token x r.is) }

pub then_starts : {A B : Type 0} (R : Production TextToken A) (S : A → Production TextToken B) (p : TextToken → Bool) → Starts R p → Starts (R >>= S) p
then_starts R S p a = record { starts = λ ts y rest (x, mid, r, s). a.starts ts x mid r }

pub either_starts : {A : Type 0} (R S : Production TextToken A) (p : TextToken → Bool) → Starts R p → Starts S p → Starts (R ∣ S) p
either_starts R S p a b = record { starts = λ ts x rest r. ⊎_elim (λ h. a.starts ts x rest h) (λ h. b.starts ts x rest h) r }

pub starts_open : {A : Type 0} (R : Production TextToken A) (p q : TextToken → Bool) → Starts R p → Opens R p q
starts_open R p q a = record { opens = λ ts x rest r stop. a.starts ts x rest r }

pub never_before : (ts : Tokens) → Before never ts
never_before [] = tt
never_before (t ∷ ts) = refl

pub never_opens : {A : Type 0} (R : Production TextToken A) (q : TextToken → Bool) → Opens R never q
never_opens R q = record { opens = λ ts x rest r stop. never_before ts }

pub gives_opens : {A : Type 0} (a : A) (p : TextToken → Bool) → Opens (gives a) p p
gives_opens a p = record { opens = λ ts x rest r stop. subst (Before p) r.1 stop }

pub then_opens : {A B : Type 0} (R : Production TextToken A) (S : A → Production TextToken B) (p m q : TextToken → Bool) → Opens R p m → ((x : A) → Opens (S x) m q) → Opens (R >>= S) p q
then_opens R S p m q a b = record { opens = λ ts y rest (x, mid, r, s) stop. a.opens ts x mid r ((b x).opens mid y rest s stop) }

pub either_opens : {A : Type 0} (R S : Production TextToken A) (p q : TextToken → Bool) → Opens R p q → Opens S p q → Opens (R ∣ S) p q
either_opens R S p q a b = record { opens = λ ts x rest r stop. ⊎_elim (λ h. a.opens ts x rest h stop) (λ h. b.opens ts x rest h stop) r }

-- readings one after another begin as each does, or are none
pub many_opens : {A : Type 0} (R : Production TextToken A) (p q : TextToken → Bool) → ((t : TextToken) → q t ≡ false → p t ≡ false) → Starts R p → Opens (many R) p q
many_opens {A} R p q h a = record { opens = λ ts xs rest r stop. of ts xs rest r stop }
  where
    of : (ts : Tokens) (xs : List A) (rest : Tokens) → ReadsMany R.reads ts xs rest → Before q rest → Before p ts
    of ts _ _ none stop = before_less q p h ts stop
    of ts _ rest (more {mid = mid} {x = x} r others) stop = a.starts ts x mid r

-- less is asked of the opening, or more of what follows
pub opens_less : {A : Type 0} (R : Production TextToken A) (p p' q q' : TextToken → Bool) → ((t : TextToken) → p t ≡ false → p' t ≡ false) → ((t : TextToken) → q' t ≡ false → q t ≡ false) → Opens R p q → Opens R p' q'
opens_less R p p' q q' h k a = record { opens = λ ts x rest r stop. before_less p p' h ts (a.opens ts x rest r (before_less q' q k rest stop)) }

-- ---- numbers of tokens

pub class_takes : {A : Type 0} (f : TextToken → Option A) → Takes (class f)
class_takes f = record { fewer = λ ts x rest r. rw r.front (omega arith) }

-- what is left is no more than what was there
pub keeps : {A : Type 0} (R : Production TextToken A) → Agrees R → (ts : Tokens) (x : A) (rest : Tokens) → R.reads ts x rest → length rest ≤ length ts
keeps R a ts x rest r = let f = a.took ts x rest r in omega (arith, ap length f.parts, length-append f.front rest)

pub then_takes : {A B : Type 0} (R : Production TextToken A) (S : A → Production TextToken B) → Takes R → ((x : A) → Agrees (S x)) → Takes (R >>= S)
then_takes R S a b = record { fewer = λ ts y rest (x, mid, r, s). omega (arith, a.fewer ts x mid r, keeps (S x) (b x) mid y rest s) }

-- the same where the first may be empty
pub later_takes : {A B : Type 0} (R : Production TextToken A) (S : A → Production TextToken B) → Agrees R → ((x : A) → Takes (S x)) → Takes (R >>= S)
later_takes R S a b = record { fewer = λ ts y rest (x, mid, r, s). omega (arith, keeps R a ts x mid r, (b x).fewer mid y rest s) }

pub either_takes : {A : Type 0} (R S : Production TextToken A) → Takes R → Takes S → Takes (R ∣ S)
either_takes R S a b = record { fewer = λ ts x rest r. ⊎_elim (λ h. a.fewer ts x rest h) (λ h. b.fewer ts x rest h) r }

-- what a reader says leaves no more than was there
pub leaves_own : {A : Type 0} (R : Production TextToken A) → Agrees R → (ts : Tokens) (o : Result (A × Tokens) ℕ) → Says R ts o → Leaves (length ts) o
leaves_own R a ts (Ok q) r = keeps R a ts q.0 q.1 r
leaves_own R a ts (Err left) r = omega (arith, r.count, ap length r.parts, length-append r.front r.rest)

pub leaves_more : {A : Type 0} (j k : ℕ) → j ≤ k → (o : Result (A × Tokens) ℕ) → Leaves j o → Leaves k o
leaves_more j k h (Ok q) l = omega arith
leaves_more j k h (Err left) l = omega arith

-- ---- one after another

-- what follows a reading of R says it of both
pub says_behind : {A B : Type 0} (R : Production TextToken A) (S : A → Production TextToken B) → Agrees R → (ts : Tokens) (x : A) (mid : Tokens) → R.reads ts x mid → (o : Result (B × Tokens) ℕ) → Says (S x) mid o → Says (R >>= S) ts o
says_behind R S a ts x mid r (Ok q) s = (x, mid, r, s)
says_behind R S a ts x mid r (Err left) s =
    let f = a.took ts x mid r in
    record {
      front = f.front ++ s.front;
      rest = s.rest;
      parts = f.parts ∙ ap (λ (us : Tokens). f.front ++ us) s.parts ∙ sym (append_assoc f.front s.front s.rest);
      count = s.count;
      begins = inr (x, s.front, f.reads s.front, s.begins);
    }

says_then : {A B : Type 0} (n m : ℕ) (R : Production TextToken A) (g : A → Reader B) (S : A → Production TextToken B) (q : TextToken → Bool)
    → Agrees R → ((x : A) → Right m (g x) (S x) q) → ((ts : Tokens) (x : A) (rest : Tokens) → R.reads ts x rest → length ts < n → length rest < m)
    → (ts : Tokens) → length ts < n → (o : Result (A × Tokens) ℕ) → Says R ts o → Says (R >>= S) ts (after o g)
says_then n m R g S q a b drops ts low (Ok w) r = says_behind R S a ts w.0 w.1 r (g w.0 w.1) ((b w.0).says w.1 (drops ts w.0 w.1 r low))
says_then n m R g S q a b drops ts low (Err left) r = record { front = r.front; rest = r.rest; parts = r.parts; count = r.count; begins = inl r.begins }

leaves_then : {A B : Type 0} (n m : ℕ) (R : Production TextToken A) (g : A → Reader B) (S : A → Production TextToken B) (q : TextToken → Bool)
    → Agrees R → ((x : A) → Right m (g x) (S x) q) → ((ts : Tokens) (x : A) (rest : Tokens) → R.reads ts x rest → length ts < n → length rest < m)
    → (ts : Tokens) (k : ℕ) → length ts < n → (o : Result (A × Tokens) ℕ) → Says R ts o → Leaves k o → Leaves k (after o g)
leaves_then n m R g S q a b drops ts k low (Ok w) r l =
    leaves_more (length w.1) k l (g w.0 w.1) (leaves_own (S w.0) (b w.0).agrees w.1 (g w.0 w.1) ((b w.0).says w.1 (drops ts w.0 w.1 r low)))
leaves_then n m R g S q a b drops ts k low (Err left) r l = l

-- the first token of a beginning of S
begins_before : {B : Type 0} (S : Production TextToken B) (p q : TextToken → Bool) → Agrees S → Opens S p q → (t : TextToken) (ts : Tokens) → S.begins (t ∷ ts) → p t ≡ false
begins_before S p q a o t ts b = let c = a.completes (t ∷ ts) b in o.opens ((t ∷ ts) ++ (c.further ++ [])) c.value [] (c.reads []) tt

presses_then : {A B : Type 0} (n m : ℕ) (f : Reader A) (R : Production TextToken A) (g : A → Reader B) (S : A → Production TextToken B) (p q : TextToken → Bool)
    → Right n f R p → ((x : A) → Right m (g x) (S x) q) → ((x : A) → Opens (S x) p q) → ((ts : Tokens) (x : A) (rest : Tokens) → R.reads ts x rest → length ts < n → length rest < m)
    → (ts others : Tokens) → length (ts ++ others) < n → (x : A) (mid : Tokens) → R.reads ts x mid → (S x).begins mid → Leaves (length others) (after (f (ts ++ others)) g)
presses_then n m f R g S p q a b o drops ts others low x [] r s =
    let begins = a.agrees.fronts ts [] x [] (subst (λ (us : Tokens). R.reads us x []) (sym (append-nil ts)) r) (omega arith) in
    leaves_then n m R g S q a.agrees b drops (ts ++ others) (length others) low (f (ts ++ others)) (a.says (ts ++ others) low) (a.presses ts others low begins)
presses_then n m f R g S p q a b o drops ts others low x (t ∷ mid) r s =
    let w = a.agrees.took ts x (t ∷ mid) r in
    let same : ts ++ others ≡ w.front ++ (t ∷ mid ++ others) = ap (λ (us : Tokens). us ++ others) w.parts ∙ append_assoc w.front (t ∷ mid) others in
    let read = subst (λ (us : Tokens). R.reads us x (t ∷ mid ++ others)) (sym same) (w.reads (t ∷ mid ++ others)) in
    let found = a.finds (ts ++ others) x (t ∷ mid ++ others) low read (begins_before (S x) p q (b x).agrees (o x) t mid s) in
    subst (λ (r : Result (_ × Tokens) ℕ). Leaves (length others) (after r g)) (sym found) ((b x).presses (t ∷ mid) others (drops (ts ++ others) x (t ∷ mid ++ others) read low) s)

-- the law of one after another, where the second is asked of fewer than m tokens
both_right : {A B : Type 0} (n m : ℕ) (f : Reader A) (g : A → Reader B) (R : Production TextToken A) (S : A → Production TextToken B) (p q : TextToken → Bool)
    → Right n f R p → ((x : A) → Right m (g x) (S x) q) → ((x : A) → Opens (S x) p q) → ((ts : Tokens) (x : A) (rest : Tokens) → R.reads ts x rest → length ts < n → length rest < m)
    → Right n (bind f g) (R >>= S) q
both_right n m f g R S p q a b o drops = record {
  agrees = then_agrees R S a.agrees (λ x. (b x).agrees);
  says = λ ts low. says_then n m R g S q a.agrees b drops ts low (f ts) (a.says ts low);
  finds = λ ts y rest low (x, mid, r, s) stop.
      ap (λ w. after w g) (a.finds ts x mid low r ((o x).opens mid y rest s stop)) ∙ (b x).finds mid y rest (drops ts x mid r low) s stop;
  presses = λ ts others low begins.
      ⊎_elim
      (λ h. leaves_then n m R g S q a.agrees b drops (ts ++ others) (length others) low (f (ts ++ others)) (a.says (ts ++ others) low) (a.presses ts others low h))
      (λ (x, mid, r, s). presses_then n m f R g S p q a b o drops ts others low x mid r s)
      begins;
}

-- R, and then S
pub then_right : {A B : Type 0} (n : ℕ) (f : Reader A) (g : A → Reader B) (R : Production TextToken A) (S : A → Production TextToken B) (p q : TextToken → Bool)
    → Right n f R p → ((x : A) → Right n (g x) (S x) q) → ((x : A) → Opens (S x) p q) → Right n (bind f g) (R >>= S) q
then_right n f g R S p q a b o = both_right n n f g R S p q a b o (λ ts x rest r low. omega (arith, keeps R a.agrees ts x rest r))

-- the same where R takes a token at least
pub later_right : {A B : Type 0} (n : ℕ) (f : Reader A) (g : A → Reader B) (R : Production TextToken A) (S : A → Production TextToken B) (p q : TextToken → Bool)
    → Right (suc n) f R p → Takes R → ((x : A) → Right n (g x) (S x) q) → ((x : A) → Opens (S x) p q) → Right (suc n) (bind f g) (R >>= S) q
later_right n f g R S p q a t b o = both_right (suc n) n f g R S p q a b o (λ ts x rest r low. omega (arith, t.fewer ts x rest r))

-- no token, and a value
pub done_right : {A : Type 0} (n : ℕ) (a : A) (p : TextToken → Bool) → Right n (done a) (gives a) p
done_right n a p = record {
  agrees = gives_agrees a;
  says = λ ts low. (refl, refl);
  finds = λ ts x rest low r stop. rw (r.0, r.1) refl;
  presses = λ ts others low begins. rw begins (omega arith);
}

-- the value made of another
pub map_right : {A B : Type 0} (n : ℕ) (f : Reader A) (h : A → B) (R : Production TextToken A) (p : TextToken → Bool) → Right n f R p → Right n (bind f (λ x. done (h x))) (R >>= λ x. gives (h x)) p
map_right n f h R p a = then_right n f (λ x. done (h x)) R (λ x. gives (h x)) p p a (λ x. done_right n (h x) p) (λ x. gives_opens (h x) p)

-- ---- by the next token

none_accepted : {A : Type 0} (f : TextToken → Option A) (ts : Tokens) → Before (takes f) ts → accepted f ts ≡ None
unfolding accepted
none_accepted f [] b = refl
none_accepted {A} f (t ∷ ts) b = none_of (f t) b ts
  where
    none_of : (o : Option A) → is_some o ≡ false → (ts : Tokens) → option_map {U = A × Tokens} (λ x. (x, ts)) o ≡ None
    none_of None e ts = refl
    none_of (Some x) e ts = absurd (cc)

one_accepted : {A : Type 0} (f : TextToken → Option A) (ts : Tokens) (x : A) (rest : Tokens) → IsOne f ts x rest → accepted f ts ≡ Some (x, rest)
unfolding accepted
one_accepted f ts x rest one = rw (one.front, one.is) refl

-- what one of two says both say
pub says_left : {A : Type 0} (R S : Production TextToken A) (ts : Tokens) (o : Result (A × Tokens) ℕ) → Says R ts o → Says (R ∣ S) ts o
says_left R S ts (Ok q) r = inl r
says_left R S ts (Err left) r = record { front = r.front; rest = r.rest; parts = r.parts; count = r.count; begins = inl r.begins }

pub says_right : {A : Type 0} (R S : Production TextToken A) (ts : Tokens) (o : Result (A × Tokens) ℕ) → Says S ts o → Says (R ∣ S) ts o
says_right R S ts (Ok q) r = inr r
says_right R S ts (Err left) r = record { front = r.front; rest = r.rest; parts = r.parts; count = r.count; begins = inr r.begins }

-- beginnings are the same where readings are
pub begins_same : {A : Type 0} (R S : Production TextToken A) → Agrees R → Agrees S → Sub R S → (ts : Tokens) → R.begins ts → S.begins ts
begins_same R S a b sub ts h = let c = completed R a ts h in begun S b ts (c.0, c.1, sub (ts ++ c.0) c.1 [] c.2)

-- what is said of R is said of an S that reads no less
pub says_sub : {A : Type 0} (R S : Production TextToken A) → Agrees R → Agrees S → Sub R S → (ts : Tokens) (o : Result (A × Tokens) ℕ) → Says R ts o → Says S ts o
says_sub R S a b sub ts (Ok q) r = sub ts q.0 q.1 r
says_sub R S a b sub ts (Err left) r = record { front = r.front; rest = r.rest; parts = r.parts; count = r.count; begins = begins_same R S a b sub r.front r.begins }

-- by the next token: g where f makes a value of it, or else the other; both together read what U reads
module _ {A B : Type 0} (n : ℕ) (f : TextToken → Option B) (g : B → Reader A) (other : Reader A) (S : B → Production TextToken A) (T U : Production TextToken A) (p : TextToken → Bool)
    (c : Agrees (class f)) (b : (x : B) → Right n (g x) (S x) p) (d : Right (suc n) other T p) (u : Agrees U) (there : Sub ((class f >>= S) ∣ T) U)
    (back : (ts : Tokens) (x : A) (rest : Tokens) → U.reads ts x rest → Before p rest → ((x' : B) × (mid : Tokens) × IsOne f ts x' mid × (S x').reads mid x rest) ⊎ (T.reads ts x rest × Before (takes f) ts)) where
  -- what f takes and S behind it, or T
  abbrev Choice : Production TextToken A
  Choice = (class f >>= S) ∣ T

  -- what is read of a first token, of which f makes o, and the others
  abbrev at_first : TextToken → Tokens → Option B → Result (A × Tokens) ℕ
  at_first t ts o = either (option_map {U = B × Tokens} (λ x. (x, ts)) o) g (other (t ∷ ts))

  choice_says : (t : TextToken) (ts : Tokens) → length (t ∷ ts) < suc n → (o : Option B) → f t ≡ o → Says Choice (t ∷ ts) (at_first t ts o)
  choice_says t ts low None e = says_right (class f >>= S) T (t ∷ ts) (other (t ∷ ts)) (d.says (t ∷ ts) low)
  choice_says t ts low (Some x) e =
      says_left (class f >>= S) T (t ∷ ts) (g x ts)
      (says_behind (class f) S c (t ∷ ts) x ts (record { token = t; front = refl; is = e }) (g x ts) ((b x).says ts (omega arith)))

  says_choice : (ts : Tokens) → length ts < suc n → Says Choice ts (on_next f g other ts)
  unfolding accepted
  says_choice [] low = says_right (class f >>= S) T [] (other []) (d.says [] low)
  says_choice (t ∷ ts) low = choice_says t ts low (f t) refl

  choice_agrees : Agrees Choice
  choice_agrees = either_agrees (class f >>= S) T (then_agrees (class f) S c (λ x. (b x).agrees)) d.agrees

  finds_choice : (ts : Tokens) (x : A) (rest : Tokens) → length ts < suc n → U.reads ts x rest → Before p rest → on_next f g other ts ≡ Ok (x, rest)
  finds_choice ts x rest low r stop =
      ⊎_elim
      (λ (y, mid, one, s). ap (λ o. either o g (other ts)) (one_accepted f ts y mid one) ∙ (b y).finds mid x rest (omega (arith, ap length one.front)) s stop)
      (λ (r', none_there). ap (λ o. either o g (other ts)) (none_accepted f ts none_there) ∙ d.finds ts x rest low r' stop)
      (back ts x rest r stop)

  -- where f makes a value of the first token, what is left is left behind that
  presses_taken : (t : TextToken) (ts others : Tokens) (x : B) → f t ≡ Some x → Leaves (length others) (g x (ts ++ others)) → Leaves (length others) (on_next f g other ((t ∷ ts) ++ others))
  presses_taken t ts others x e l =
      subst (λ (o : Option (B × Tokens)). Leaves (length others) (either o g (other ((t ∷ ts) ++ others)))) (sym (one_accepted f ((t ∷ ts) ++ others) x (ts ++ others) (record { token = t; front = refl; is = e }))) l

  presses_choice : (ts others : Tokens) → length (ts ++ others) < suc n → U.begins ts → Leaves (length others) (on_next f g other (ts ++ others))
  presses_choice [] others low begins = leaves_own Choice choice_agrees others (on_next f g other others) (says_choice others low)
  presses_choice (t ∷ ts) others low begins =
      let w = u.completes (t ∷ ts) begins in
      ⊎_elim
      (λ (x, mid, one, s).
      let left : ts ++ (w.further ++ []) ≡ mid = cc (one.front) in
      let same : one.token ≡ t = cc (one.front) in
      let begun = (b x).agrees.fronts ts (w.further ++ []) w.value [] (subst (λ (us : Tokens). (S x).reads us w.value []) (sym left) s) (omega arith) in
      presses_taken t ts others x (ap f (sym same) ∙ one.is) ((b x).presses ts others (omega arith) begun))
      (λ (r, none_there).
      let begun = d.agrees.fronts (t ∷ ts) (w.further ++ []) w.value [] r (omega arith) in
      subst (λ (o : Option (B × Tokens)). Leaves (length others) (either o g (other ((t ∷ ts) ++ others))))
      (sym (none_accepted f ((t ∷ ts) ++ others) none_there))
      (d.presses (t ∷ ts) others low begun))
      (back ((t ∷ ts) ++ (w.further ++ [])) w.value [] (w.reads []) tt)

  pub on_next_split : Right (suc n) (on_next f g other) U p
  on_next_split = record {
    agrees = u;
    says = λ ts low. says_sub Choice U choice_agrees u there ts (on_next f g other ts) (says_choice ts low);
    finds = finds_choice;
    presses = presses_choice;
  }

-- the same, where the other begins with no token of which f makes a value
pub on_next_right : {A B : Type 0} (n : ℕ) (f : TextToken → Option B) (g : B → Reader A) (other : Reader A) (S : B → Production TextToken A) (T : Production TextToken A) (p : TextToken → Bool)
    → Agrees (class f) → ((x : B) → Right n (g x) (S x) p) → Right (suc n) other T p → Opens T (takes f) p → Right (suc n) (on_next f g other) ((class f >>= S) ∣ T) p
on_next_right n f g other S T p c b d apart =
    on_next_split n f g other S T ((class f >>= S) ∣ T) p c b d
    (either_agrees (class f >>= S) T (then_agrees (class f) S c (λ x. (b x).agrees)) d.agrees)
    (λ ts x rest r. r)
    (λ ts x rest r stop. ⊎_elim (λ h. inl h) (λ h. inr (h, apart.opens ts x rest h stop)) r)

-- a token of which f makes a value
module _ {A : Type 0} (n : ℕ) (f : TextToken → Option A) (c : Agrees (class f)) where
  expect_first : (t : TextToken) (ts : Tokens) (o : Option A) → f t ≡ o → Says (class f) (t ∷ ts) (either (option_map {U = A × Tokens} (λ x. (x, ts)) o) done (Err (length (t ∷ ts))))
  expect_first t ts None e = record { front = []; rest = t ∷ ts; parts = refl; count = refl; begins = inl refl }
  expect_first t ts (Some x) e = record { token = t; front = refl; is = e }

  expect_says : (ts : Tokens) → Says (class f) ts (expect f ts)
  unfolding accepted
  expect_says [] = record { front = []; rest = []; parts = refl; count = refl; begins = inl refl }
  expect_says (t ∷ ts) = expect_first t ts (f t) refl

  expect_finds : (ts : Tokens) (x : A) (rest : Tokens) → IsOne f ts x rest → expect f ts ≡ Ok (x, rest)
  expect_finds ts x rest one = ap (λ o. either o done (Err (length ts))) (one_accepted f ts x rest one)

  expect_presses : (ts others : Tokens) → (class f).begins ts → Leaves (length others) (expect f (ts ++ others))
  expect_presses ts others (inl e) = subst (λ (us : Tokens). Leaves (length others) (expect f (us ++ others))) (sym e) (leaves_own (class f) c others (expect f others) (expect_says others))
  expect_presses ts others (inr (x, one)) =
      let same : ts ++ others ≡ one.token ∷ others = ap (λ (us : Tokens). us ++ others) one.front in
      subst (Leaves (length others)) (sym (expect_finds (ts ++ others) x others (record { token = one.token; front = same; is = one.is }))) (omega arith)

  pub expect_right : (p : TextToken → Bool) → Right n (expect f) (class f) p
  expect_right p = record {
    agrees = c;
    says = λ ts low. expect_says ts;
    finds = λ ts x rest low r stop. expect_finds ts x rest r;
    presses = λ ts others low begins. expect_presses ts others begins;
  }

-- ---- the same law of fewer tokens, of fewer that follow, of another production, and of another reader

pub fewer_right : {A : Type 0} (m n : ℕ) (f : Reader A) (R : Production TextToken A) (p : TextToken → Bool) → m ≤ n → Right n f R p → Right m f R p
fewer_right m n f R p h a = record {
  agrees = a.agrees;
  says = λ ts low. a.says ts (omega arith);
  finds = λ ts x rest low r stop. a.finds ts x rest (omega arith) r stop;
  presses = λ ts others low begins. a.presses ts others (omega arith) begins;
}

pub stops_right : {A : Type 0} (n : ℕ) (f : Reader A) (R : Production TextToken A) (p q : TextToken → Bool) → ((t : TextToken) → q t ≡ false → p t ≡ false) → Right n f R p → Right n f R q
stops_right n f R p q h a = record {
  agrees = a.agrees;
  says = a.says;
  finds = λ ts x rest low r stop. a.finds ts x rest low r (before_less q p h rest stop);
  presses = a.presses;
}

pub same_right : {A : Type 0} (n : ℕ) (f : Reader A) (R S : Production TextToken A) (p : TextToken → Bool) → Right n f R p → Agrees S → Sub R S → Sub S R → Right n f S p
same_right n f R S p a b there back = record {
  agrees = b;
  says = λ ts low. says_sub R S a.agrees b there ts (f ts) (a.says ts low);
  finds = λ ts x rest low r stop. a.finds ts x rest low (back ts x rest r) stop;
  presses = λ ts others low begins. a.presses ts others low (begins_same S R b a.agrees back ts begins);
}

pub reader_right : {A : Type 0} (n : ℕ) (f g : Reader A) (R : Production TextToken A) (p : TextToken → Bool) → ((ts : Tokens) → f ts ≡ g ts) → Right n f R p → Right n g R p
reader_right n f g R p e a = record {
  agrees = a.agrees;
  says = λ ts low. subst (Says R ts) (e ts) (a.says ts low);
  finds = λ ts x rest low r stop. sym (e ts) ∙ a.finds ts x rest low r stop;
  presses = λ ts others low begins. subst (Leaves (length others)) (e (ts ++ others)) (a.presses ts others low begins);
}

-- ---- loops

-- of no tokens at all anything holds
pub zero_right : {A : Type 0} (f : Reader A) (R : Production TextToken A) (p : TextToken → Bool) → Agrees R → Right zero f R p
zero_right f R p a = record {
  agrees = a;
  says = λ ts low. absurd (omega arith);
  finds = λ ts x rest low r stop. absurd (omega arith);
  presses = λ ts others low begins. absurd (omega arith);
}

-- by the next token, where both ways are asked of the same tokens
pub on_next_same : {A B : Type 0} (n : ℕ) (f : TextToken → Option B) (g : B → Reader A) (other : Reader A) (S : B → Production TextToken A) (T : Production TextToken A) (p : TextToken → Bool)
    → Agrees (class f) → ((x : B) → Right n (g x) (S x) p) → Right n other T p → Opens T (takes f) p → Right n (on_next f g other) ((class f >>= S) ∣ T) p
on_next_same zero f g other S T p c b d apart = zero_right (on_next f g other) ((class f >>= S) ∣ T) p (either_agrees (class f >>= S) T (then_agrees (class f) S c (λ x. (b x).agrees)) d.agrees)
on_next_same (suc n) f g other S T p c b d apart = on_next_right n f g other S T p c (λ x. fewer_right n (suc n) (g x) (S x) p (omega arith) (b x)) d apart

pub split_same : {A B : Type 0} (n : ℕ) (f : TextToken → Option B) (g : B → Reader A) (other : Reader A) (S : B → Production TextToken A) (T U : Production TextToken A) (p : TextToken → Bool)
    → Agrees (class f) → ((x : B) → Right n (g x) (S x) p) → Right n other T p → Agrees U → Sub ((class f >>= S) ∣ T) U
    → ((ts : Tokens) (x : A) (rest : Tokens) → U.reads ts x rest → Before p rest → ((x' : B) × (mid : Tokens) × IsOne f ts x' mid × (S x').reads mid x rest) ⊎ (T.reads ts x rest × Before (takes f) ts))
    → Right n (on_next f g other) U p
split_same zero f g other S T U p c b d u there back = zero_right (on_next f g other) U p u
split_same (suc n) f g other S T U p c b d u there back = on_next_split n f g other S T U p c (λ x. fewer_right n (suc n) (g x) (S x) p (omega arith) (b x)) d u there back

module _ {A : Type 0} (m : ℕ) (round : Reader A → Reader A) (R : Production TextToken A) (p : TextToken → Bool) (a : Agrees R)
    (step : (n : ℕ) (again : Reader A) → n < m → Right n again R p → Right (suc n) (round again) R p) where
  rounds_right : (n : ℕ) → n ≤ m → Right n (rounds round n) R p
  rounds_right zero h = zero_right (rounds round zero) R p a
  rounds_right (suc n) h = step n (rounds round n) (omega arith) (rounds_right n (omega arith))

  -- a loop reads R where each round does, if the rounds after it do
  pub looped_right : Right m (looped round) R p
  looped_right = record {
    agrees = a;
    says = λ ts low. (rounds_right (suc (length ts)) (omega arith)).says ts (omega arith);
    finds = λ ts x rest low r stop. (rounds_right (suc (length ts)) (omega arith)).finds ts x rest (omega arith) r stop;
    presses = λ ts others low begins. (rounds_right (suc (length (ts ++ others))) (omega arith)).presses ts others (omega arith) begins;
  }
