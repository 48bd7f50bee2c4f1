-- SPDX-License-Identifier: Apache-2.0
-- `begins` holds of exactly the tokens that some further tokens complete to a reading, for each way to put productions together.
use Rattle.std.proofs.Common.{◌≡◌, ◌<◌, ◌≤◌, true, false, List, [], ◌∷◌, ◌++◌, Option, Some, None, length, length-append, append_assoc, sym, ap, ◌∙◌, subst, refl, inl, inr, ⊎_elim, arith}
use Rattle.std.proofs.lemmas.List.{append-nil}
use Rattle.std.proofs.lemmas.Bool.{cases_lt}
use Rattle.cedar_grammar.specs.Productions.{Production, IsOne, class, gives, ◌>>=◌, ◌>>◌, ◌∣◌, ReadsMany, none, more, many, ReadsEach, none_yet, then_one, each, optional, maybe, separated, trailing, Completable}

-- the tokens that a reading takes, which are read to the same before whatever follows
pub record Front {T A : Type 0} (R : Production T A) (ts : List T) (x : A) (rest : List T) : Type 0 where
  pub front : List T
  pub parts : ts ≡ front ++ rest
  pub reads : (tail : List T) → R.reads (front ++ tail) x tail

-- further tokens that make a reading, before whatever follows
pub record Completion {T A : Type 0} (R : Production T A) (ts : List T) : Type 0 where
  pub further : List T
  pub value : A
  pub reads : (tail : List T) → R.reads (ts ++ (further ++ tail)) value tail

pub record Agrees {T A : Type 0} (R : Production T A) : Type 0 where
  pub took : (ts : List T) (x : A) (rest : List T) → R.reads ts x rest → Front R ts x rest
  pub completes : (ts : List T) → R.begins ts → Completion R ts
  pub fronts : (ts others : List T) (x : A) (rest : List T) → R.reads (ts ++ others) x rest → length rest ≤ length others → R.begins ts
  pub empty : R.begins []

-- the law of a production that agrees
pub completed : {T A : Type 0} (R : Production T A) → Agrees R → (ts : List T) → R.begins ts → Completable R ts
completed R a ts b =
    let c = a.completes ts b in
    (c.further, c.value, subst (λ (us : List _). R.reads (ts ++ us) c.value []) (append-nil c.further) (c.reads []))

pub begun : {T A : Type 0} (R : Production T A) → Agrees R → (ts : List T) → Completable R ts → R.begins ts
begun R a ts (others, x, r) = a.fronts ts others x [] r (omega arith)

-- of two ways to cut a list, the one whose rest is longer leaves the other's rest behind some tokens
pub record Cut {T : Type 0} (ts others front rest : List T) : Type 0 where
  pub between : List T
  pub left : ts ≡ front ++ between
  pub right : rest ≡ between ++ others

cons_same : {T : Type 0} (t u : T) (ts us : List T) → t ≡ u → ts ≡ us → t ∷ ts ≡ u ∷ us
cons_same t u ts us e f = rw (e, f) refl

nothing : {T : Type 0} (ts : List T) → length ts ≤ 0 → ts ≡ []
nothing [] h = refl
nothing (t ∷ ts) h = absurd (omega arith)

cut : {T : Type 0} (ts others front rest : List T) → ts ++ others ≡ front ++ rest → length others ≤ length rest → Cut ts others front rest
cut ts others [] rest e h = record { between = ts; left = refl; right = sym e }
cut [] others (f ∷ front) rest e h = absurd (too_long others (f ∷ front) rest e h (omega arith))
  where
    too_long : {T : Type 0} (others front rest : List T) → others ≡ front ++ rest → length others ≤ length rest → 0 < length front → ⊥
    too_long others front rest e h some = omega (arith, ap length e, length-append front rest)
cut (t ∷ ts) others (f ∷ front) rest e h =
    let same : t ≡ f = cc in
    let tails : ts ++ others ≡ front ++ rest = cc in
    let c = cut ts others front rest tails h in
    record { between = c.between; left = cons_same t f ts (front ++ c.between) same c.left; right = c.right }

pub class_agrees : {T A : Type 0} (f : T → Option A) (t : T) (x : A) → f t ≡ Some x → Agrees (class f)
class_agrees {T} {A} f t x is = record {
  took = λ ts y rest r. record { front = r.token ∷ []; parts = r.front; reads = λ tail. record { token = r.token; front = refl; is = r.is } };
  completes = λ ts b.
      ⊎_elim
      (λ e. record { further = t ∷ []; value = x; reads = λ tail. record { token = t; front = rw e refl; is = is } })
      (λ (y, w). record { further = []; value = y; reads = λ tail. record { token = w.token; front = rw w.front refl; is = w.is } })
      b;
  fronts = λ ts others y rest r short. one_front ts others y rest r short;
  empty = inl refl;
}
  where
    one_front : (ts others : List T) (y : A) (rest : List T) → IsOne f (ts ++ others) y rest → length rest ≤ length others → (class f).begins ts
    one_front [] others y rest r short = inl refl
    one_front (u ∷ []) others y rest r short = let same : u ≡ r.token = cc (r.front) in inr (y, record { token = r.token; front = rw same refl; is = r.is })
    one_front (u ∷ v ∷ us) others y rest r short = absurd (omega (arith, ap length r.front, length-append us others))

pub gives_agrees : {T A : Type 0} (a : A) → Agrees (gives {T = T} a)
gives_agrees a = record {
  took = λ ts x rest r. record { front = []; parts = sym r.1; reads = λ tail. (r.0, refl) };
  completes = λ ts b. record { further = []; value = a; reads = λ tail. (refl, rw b refl) };
  fronts = λ ts others x rest r short. nothing ts (omega (arith, ap length r.1, length-append ts others));
  empty = refl;
}

pub either_agrees : {T A : Type 0} (R S : Production T A) → Agrees R → Agrees S → Agrees (R ∣ S)
either_agrees R S a b = record {
  took = λ ts x rest r.
      ⊎_elim
      (λ h. let f = a.took ts x rest h in record { front = f.front; parts = f.parts; reads = λ tail. inl (f.reads tail) })
      (λ h. let f = b.took ts x rest h in record { front = f.front; parts = f.parts; reads = λ tail. inr (f.reads tail) })
      r;
  completes = λ ts begins.
      ⊎_elim
      (λ h. let c = a.completes ts h in record { further = c.further; value = c.value; reads = λ tail. inl (c.reads tail) })
      (λ h. let c = b.completes ts h in record { further = c.further; value = c.value; reads = λ tail. inr (c.reads tail) })
      begins;
  fronts = λ ts others x rest r short. ⊎_elim (λ h. inl (a.fronts ts others x rest h short)) (λ h. inr (b.fronts ts others x rest h short)) r;
  empty = inl a.empty;
}

pub then_agrees : {T A B : Type 0} (R : Production T A) (S : A → Production T B) → Agrees R → ((x : A) → Agrees (S x)) → Agrees (R >>= S)
then_agrees {T} {A} {B} R S a b = record {
  took = λ ts y rest (x, mid, r, s).
      let f = a.took ts x mid r in
      let g = (b x).took mid y rest s in
      record {
        front = f.front ++ g.front;
        parts = f.parts ∙ ap (λ (us : List T). f.front ++ us) g.parts ∙ sym (append_assoc f.front g.front rest);
        reads = λ tail. rw append_assoc (x, g.front ++ tail, f.reads (g.front ++ tail), g.reads tail);
      };
  completes = λ ts begins.
      ⊎_elim
      (λ h.
      let c = a.completes ts h in
      let d = (b c.value).completes [] (b c.value).empty in
      record {
        further = c.further ++ d.further;
        value = d.value;
        reads = λ tail. rw append_assoc (c.value, d.further ++ tail, c.reads (d.further ++ tail), d.reads tail);
      })
      (λ (x, mid, r, s).
      let f = a.took ts x mid r in
      let d = (b x).completes mid s in
      record {
        further = d.further;
        value = d.value;
        reads = λ tail. rw (f.parts, append_assoc) (x, mid ++ (d.further ++ tail), f.reads (mid ++ (d.further ++ tail)), d.reads tail);
      })
      begins;
  fronts = λ ts others y rest (x, mid, r, s) short.
      ⊎_elim
      (λ (h : length mid < length others). inl (a.fronts ts others x mid r (omega arith)))
      (λ (h : length others ≤ length mid).
      let f = a.took (ts ++ others) x mid r in
      let c = cut ts others f.front mid f.parts h in
      inr (x, c.between, subst (λ (us : List T). R.reads us x c.between) (sym c.left) (f.reads c.between), (b x).fronts c.between others y rest (subst (λ (us : List T). (S x).reads us y rest) c.right s) short))
      (cases_lt (length mid) (length others));
  empty = inl a.empty;
}

-- readings one after another take their tokens as one reading does
many_took : {T A : Type 0} (R : Production T A) → Agrees R → (ts : List T) (xs : List A) (rest : List T) → ReadsMany R.reads ts xs rest → Front (many R) ts xs rest
many_took R a ts _ _ none = record { front = []; parts = refl; reads = λ tail. none }
many_took {T} R a ts _ rest (more {mid = mid} {x = x} {xs = xs} r h) =
    let f = a.took ts x mid r in
    let g = many_took R a mid xs rest h in
    record {
      front = f.front ++ g.front;
      parts = f.parts ∙ ap (λ (us : List T). f.front ++ us) g.parts ∙ sym (append_assoc f.front g.front rest);
      reads = λ tail. rw append_assoc (more (f.reads (g.front ++ tail)) (g.reads tail));
    }

-- a last reading after the others
many_last : {T A : Type 0} (R : Production T A) (ts : List T) (xs : List A) (mid rest : List T) (x : A) → ReadsMany R.reads ts xs mid → R.reads mid x rest → ReadsMany R.reads ts (xs ++ x ∷ []) rest
many_last R ts _ _ rest x none r = more r none
many_last R ts _ mid rest x (more {mid = next} {xs = xs} s h) r = more s (many_last R next xs mid rest x h r)

many_fronts : {T A : Type 0} (R : Production T A) → Agrees R → (ts others all : List T) (xs : List A) (rest : List T) → ReadsMany R.reads all xs rest → all ≡ ts ++ others → length rest ≤ length others → (many R).begins ts
many_fronts R a ts others all _ _ none e short = inl (nothing ts (omega (arith, ap length e, length-append ts others)))
many_fronts {T} R a ts others all _ rest (more {mid = mid} {x = x} {xs = xs} r h) e short =
    let here = subst (λ (us : List T). R.reads us x mid) e r in
    ⊎_elim
    (λ (less : length mid < length others). inr ([], ts, none, a.fronts ts others x mid here (omega arith)))
    (λ (h' : length others ≤ length mid).
    let f = a.took (ts ++ others) x mid here in
    let c = cut ts others f.front mid f.parts h' in
    let first = subst (λ (us : List T). R.reads us x c.between) (sym c.left) (f.reads c.between) in
    ⊎_elim
    (λ (e' : c.between ≡ []). inr (x ∷ [], c.between, more first none, subst (λ (us : List T). R.begins us) (sym e') a.empty))
    (λ (ys, end, reads, begins). inr (x ∷ ys, end, more first reads, begins))
    (many_fronts R a c.between others mid xs rest h c.right short))
    (cases_lt (length mid) (length others))

pub many_agrees : {T A : Type 0} (R : Production T A) → Agrees R → Agrees (many R)
many_agrees {T} R a = record {
  took = λ ts xs rest h. many_took R a ts xs rest h;
  completes = λ ts begins.
      ⊎_elim
      (λ (e : ts ≡ []). record { further = []; value = []; reads = λ tail. rw e none })
      (λ (xs, mid, h, b).
      let f = many_took R a ts xs mid h in
      let c = a.completes mid b in
      record {
        further = c.further;
        value = xs ++ c.value ∷ [];
        reads = λ tail. rw (f.parts, append_assoc) (many_last R (f.front ++ (mid ++ (c.further ++ tail))) xs (mid ++ (c.further ++ tail)) tail c.value (f.reads (mid ++ (c.further ++ tail))) (c.reads tail));
      })
      begins;
  fronts = λ ts others xs rest h short. many_fronts R a ts others (ts ++ others) xs rest h refl short;
  empty = inl refl;
}

-- readings, each as the values before it say, take their tokens as one reading does
each_took : {T A : Type 0} (R : List A → Production T A) → ((xs : List A) → Agrees (R xs)) → (ts : List T) (xs : List A) (rest : List T) → ReadsEach (λ ys. (R ys).reads) ts xs rest → Front (each R) ts xs rest
each_took R a ts _ _ none_yet = record { front = []; parts = refl; reads = λ tail. none_yet }
each_took {T} R a ts _ rest (then_one {mid = mid} {x = x} {xs = xs} h r) =
    let f = each_took R a ts xs mid h in
    let g = (a xs).took mid x rest r in
    record {
      front = f.front ++ g.front;
      parts = f.parts ∙ ap (λ (us : List T). f.front ++ us) g.parts ∙ sym (append_assoc f.front g.front rest);
      reads = λ tail. rw append_assoc (then_one (f.reads (g.front ++ tail)) (g.reads tail));
    }

each_fronts : {T A : Type 0} (R : List A → Production T A) → ((xs : List A) → Agrees (R xs)) → (ts others all : List T) (xs : List A) (rest : List T) → ReadsEach (λ ys. (R ys).reads) all xs rest
    → all ≡ ts ++ others → length rest ≤ length others → (each R).begins ts
each_fronts R a ts others all _ _ none_yet e short = inl (nothing ts (omega (arith, ap length e, length-append ts others)))
each_fronts {T} R a ts others all _ rest (then_one {mid = mid} {x = x} {xs = xs} h r) e short =
    ⊎_elim
    (λ (less : length mid < length others). each_fronts R a ts others all xs mid h e (omega arith))
    (λ (h' : length others ≤ length mid).
    let f = each_took R a all xs mid h in
    let c = cut ts others f.front mid (sym e ∙ f.parts) h' in
    inr (xs, c.between, subst (λ (us : List T). ReadsEach (λ ys. (R ys).reads) us xs c.between) (sym c.left) (f.reads c.between), (a xs).fronts c.between others x rest (subst (λ (us : List T). (R xs).reads us x rest) c.right r) short))
    (cases_lt (length mid) (length others))

pub each_agrees : {T A : Type 0} (R : List A → Production T A) → ((xs : List A) → Agrees (R xs)) → Agrees (each R)
each_agrees {T} R a = record {
  took = λ ts xs rest h. each_took R a ts xs rest h;
  completes = λ ts begins.
      ⊎_elim
      (λ (e : ts ≡ []). record { further = []; value = []; reads = λ tail. rw e none_yet })
      (λ (xs, mid, h, b).
      let f = each_took R a ts xs mid h in
      let c = (a xs).completes mid b in
      record {
        further = c.further;
        value = xs ++ c.value ∷ [];
        reads = λ tail. rw (f.parts, append_assoc) (then_one (f.reads (mid ++ (c.further ++ tail))) (c.reads tail));
      })
      begins;
  fronts = λ ts others xs rest h short. each_fronts R a ts others (ts ++ others) xs rest h refl short;
  empty = inl refl;
}

pub optional_agrees : {T A : Type 0} (R : Production T A) → Agrees R → Agrees (optional R)
optional_agrees R a =
    either_agrees (R >> gives true) (gives false) (then_agrees R (λ _. gives true) a (λ _. gives_agrees true)) (gives_agrees false)

pub maybe_agrees : {T A : Type 0} (R : Production T A) → Agrees R → Agrees (maybe R)
maybe_agrees R a =
    either_agrees (R >>= λ x. gives (Some x)) (gives None) (then_agrees R _ a (λ x. gives_agrees (Some x))) (gives_agrees None)

pub separated_agrees : {T S A : Type 0} (separator : Production T S) (R : Production T A) → Agrees separator → Agrees R → Agrees (separated separator R)
separated_agrees separator R s a =
    then_agrees R _ a (λ x.
    then_agrees (many (separator >> R)) _ (many_agrees (separator >> R) (then_agrees separator (λ _. R) s (λ _. a))) (λ xs.
    gives_agrees (x ∷ xs)))

pub trailing_agrees : {T S A : Type 0} (separator : Production T S) (R : Production T A) → Agrees separator → Agrees R → Agrees (trailing separator R)
trailing_agrees separator R s a =
    then_agrees (separated separator R) _ (separated_agrees separator R s a) (λ xs.
    then_agrees (optional separator) _ (optional_agrees separator s) (λ _. gives_agrees xs))
