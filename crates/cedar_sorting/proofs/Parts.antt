-- SPDX-License-Identifier: Apache-2.0
-- The stack of a search in parts, one for each position on the way: the positions of a part reach one another.
use Rattle.std.proofs.Common.{◌≡◌, ℕ, ◌+◌, ◌<◌, ◌≤◌, ◌⊎◌, inl, inr, Bool, true, false, cond, min, List, [], ◌∷◌, ◌++◌, length, replicate, reverse, take, set, get_or, zero, suc, Contains, ⊎_elim, refl, sym, ap, ◌∙◌, subst, arith}
use Rattle.std.proofs.lemmas.Bool.{cases_eq, cases_lt}
use Rattle.std.proofs.lemmas.List.{take_more, take_all, take-append-le, get_or_append_left, get_or_push, get_or-set_same, get_or-set_other, length-set, length_push, length-take-le, length-replicate, reverse-append, get_or-take, get_or_default}
use Rattle.std.proofs.lemmas.List.Elements.{Contains-append_left, Contains-append_right, Contains-push, Contains-push_cases}
use Rattle.cedar_closure.proofs.ChainLaws.{Reaches-push, Reaches-append, Reaches-along}
use Rattle.cedar_closure.specs.Chains.{Reaches, one}
use Rattle.cedar_closure.specs.Marks.{Leads}
use Rattle.cedar_sorting.specs.Searched.{IsLeastToReturn, Searched, IsPlaced, seen_at, returning, merged, with_part}
use Rattle.cedar_sorting.specs.declared.least_cycle.Frame.{Frame}

no_both : {b : Bool} → b ≡ true → b ≡ false → ⊥
no_both is not = absurd cc

nothing : {X : Type 0} {x : X} → Contains [] x → ⊥
nothing (k, l, e) = omega arith

-- a chain of any number of steps
abbrev Comes : List (List ℕ) → ℕ → ℕ → Type 0
Comes rows a b = (a ≡ b) ⊎ Reaches (Leads rows) a b

comes_then : (rows : List (List ℕ)) {a b c : ℕ} → Comes rows a b → Comes rows b c → Comes rows a c
comes_then rows {a} {b} {c} x y = ⊎_elim (λ e. subst (λ n. Comes rows n c) (sym e) y) (λ r. inr (⊎_elim (λ e. subst (λ n. Reaches (Leads rows) a n) e r) (λ s. Reaches-append r s) y)) x

returns_by : (rows : List (List ℕ)) {a b c : ℕ} → Leads rows a b → Comes rows b c → Reaches (Leads rows) a c
returns_by rows {a} {b} {c} x y = ⊎_elim (λ e. subst (λ n. Reaches (Leads rows) a n) e (one x)) (λ r. Reaches-append (one x) r) y

-- it was seen, and isn't on the stack
abbrev pub IsDone : List Bool → List ℕ → ℕ → Type 0
IsDone seen stack i = (seen_at seen i ≡ true) × (Contains stack i → ⊥)

-- it is done, or on the stack no lower than the place
abbrev pub Falls : List Bool → List ℕ → ℕ → ℕ → Type 0
Falls seen stack low j = IsDone seen stack j ⊎ ((q : ℕ) × (low ≤ q) × (q < length stack) × (get_or stack q 0 ≡ j))

falls_lower : (seen : List Bool) (stack : List ℕ) {low low' j : ℕ} → low' ≤ low → Falls seen stack low j → Falls seen stack low' j
falls_lower seen stack l f = ⊎_elim (λ d. inl d) (λ x. inr (x.0, omega (arith, l, x.1), x.2, x.3)) f

-- the part of the stack below `top` that is this frame's
pub record Part (rows : List (List ℕ)) (seen : List Bool) (stack : List ℕ) (f : Frame) (top : ℕ) : Type 0 where
  pub low_base : f.low ≤ f.base
  pub base_top : f.base < top
  pub stands : get_or stack f.base 0 ≡ f.at
  pub there : (p : ℕ) → f.base ≤ p → p < top → Comes rows f.at (get_or stack p 0)
  pub back : (p : ℕ) → f.base ≤ p → p < top → Comes rows (get_or stack p 0) f.at
  pub falls : Comes rows f.at (get_or stack f.low 0)
  pub passed : (j : ℕ) → Contains (take f.next (get_or rows f.at [])) j → Falls seen stack f.low j
  pub whole : (p j : ℕ) → f.base < p → p < top → Leads rows (get_or stack p 0) j → Falls seen stack f.low j
  pub least_on : (p : ℕ) × (f.base ≤ p) × (p < top) × (get_or stack p 0 ≡ f.least)
  pub least : (p : ℕ) → f.base ≤ p → p < top → f.least ≤ get_or stack p 0
  pub returns : f.returns ≡ true → Reaches (Leads rows) f.at f.at
  pub single : f.returns ≡ false → (top ≤ f.base + 1) × (f.low ≡ f.base) × ((j : ℕ) → Contains (take f.next (get_or rows f.at [])) j → j ≡ f.at → ⊥)

abbrev pub IsLinked : List (List ℕ) → List Frame → ℕ → Type 0
IsLinked rows [] at = Unit {0}
IsLinked rows (f ∷ fs) at = Leads rows f.at at

-- the parts, the topmost first
abbrev pub Parts : List (List ℕ) → List Bool → List ℕ → ℕ → List Frame → Type 0
Parts rows seen stack top [] = top ≡ 0
Parts rows seen stack top (f ∷ fs) = Part rows seen stack f top × IsLinked rows fs f.at × Parts rows seen stack f.base fs

-- each position on the stack reaches the one on top of the way
on_top : {rows : List (List ℕ)} {seen : List Bool} {stack : List ℕ} (top : ℕ) (f : Frame) (fs : List Frame) → Parts rows seen stack top (f ∷ fs) → (p : ℕ) → p < top → Comes rows (get_or stack p 0) f.at
on_top top f [] parts p l = ⊎_elim (λ below. absurd (omega (arith, below, parts.2))) (λ over. parts.0.back p over l) (cases_lt p f.base)
on_top {rows} top f (g ∷ fs) parts p l = ⊎_elim (λ below. comes_then rows (on_top f.base g fs parts.2 p below) (inr (one parts.1))) (λ over. parts.0.back p over l) (cases_lt p f.base)

module _ (rows : List (List ℕ)) (seen seen' : List Bool) (stack stack' : List ℕ) (out : (low j : ℕ) → Falls seen stack low j → Falls seen' stack' low j) where
  part_moved : (f : Frame) (top : ℕ) → ((p : ℕ) → p < top → get_or stack' p 0 ≡ get_or stack p 0) → Part rows seen stack f top → Part rows seen' stack' f top
  part_moved f top same part = record {
    low_base = part.low_base;
    base_top = part.base_top;
    stands = same f.base part.base_top ∙ part.stands;
    there = λ p l m. subst (Comes rows f.at) (sym (same p m)) (part.there p l m);
    back = λ p l m. subst (λ n. Comes rows n f.at) (sym (same p m)) (part.back p l m);
    falls = subst (Comes rows f.at) (sym (same f.low (omega (arith, part.low_base, part.base_top)))) part.falls;
    passed = λ j h. out f.low j (part.passed j h);
    whole = λ p j l m h. out f.low j (part.whole p j l m (subst (λ n. Leads rows n j) (same p m) h));
    least_on = (part.least_on.0, part.least_on.1, part.least_on.2, same part.least_on.0 part.least_on.2 ∙ part.least_on.3);
    least = λ p l m. subst (λ n. f.least ≤ n) (sym (same p m)) (part.least p l m);
    returns = part.returns;
    single = part.single;
  }

  parts_moved : (fs : List Frame) (top : ℕ) → ((p : ℕ) → p < top → get_or stack' p 0 ≡ get_or stack p 0) → Parts rows seen stack top fs → Parts rows seen' stack' top fs
  parts_moved [] top same parts = parts
  parts_moved (f ∷ fs) top same parts = (part_moved f top same parts.0, parts.1, parts_moved fs f.base (λ p l. same p (omega (arith, l, parts.0.base_top))) parts.2)

pub record Searching (rows : List (List ℕ)) (old : List Bool) (start : ℕ) (seen : List Bool) (places stack : List ℕ) (found : ℕ) (fs : List Frame) : Type 0 where
  pub parts : Parts rows seen stack (length stack) fs
  pub placed : IsPlaced places stack
  pub opened : (p : ℕ) → p < length stack → seen_at seen (get_or stack p 0) ≡ true
  pub inside : (p : ℕ) → p < length stack → get_or stack p 0 < length rows
  pub long : length seen ≡ length rows
  pub places_long : length places ≡ length rows
  pub closed : (i j : ℕ) → IsDone seen stack i → Leads rows i j → IsDone seen stack j
  pub returns : found < length rows → Reaches (Leads rows) found found
  pub bound : (i : ℕ) → IsDone seen stack i → Reaches (Leads rows) i i → found ≤ i
  pub kept : (i : ℕ) → seen_at old i ≡ true → seen_at seen i ≡ true
  pub has : seen_at seen start ≡ true

same_place : (places stack : List ℕ) → IsPlaced places stack → (p q : ℕ) → p < length stack → q < length stack → get_or stack p 0 ≡ get_or stack q 0 → p ≡ q
same_place places stack placed p q l m e = sym (placed p l) ∙ ap (λ n. get_or places n 0) e ∙ placed q m

module _ {rows : List (List ℕ)} {old : List Bool} {start : ℕ} {seen : List Bool} {places stack : List ℕ} {found : ℕ} {top : Frame} {fs : List Frame} (s : Searching rows old start seen places stack found (top ∷ fs)) where
  part : Part rows seen stack top (length stack)
  part = s.parts.0

  module _ (to : ℕ) (more : top.next < length (get_or rows top.at [])) (is : to ≡ get_or (get_or rows top.at []) top.next 0) where
    leads : Leads rows top.at to
    leads = (top.next, more, get_or_default (get_or rows top.at []) top.next to 0 more ∙ sym is)

    one_more : (j : ℕ) → Contains (take (top.next + 1) (get_or rows top.at [])) j → Contains (take top.next (get_or rows top.at [])) j ⊎ (to ≡ j)
    one_more j h = ⊎_elim (λ x. inl x) (λ x. inr (is ∙ x)) (Contains-push_cases (take top.next (get_or rows top.at [])) (get_or (get_or rows top.at []) top.next 0) j (subst (λ l. Contains l j) (take_more (get_or rows top.at []) top.next 0 more) h))

    -- a step to a position that is done
    pub Searching-done : IsDone seen stack to → Searching rows old start seen places stack found (record top { next = top.next + 1 } ∷ fs)
    Searching-done done = record {
      parts = (
        record {
          low_base = part.low_base;
          base_top = part.base_top;
          stands = part.stands;
          there = part.there;
          back = part.back;
          falls = part.falls;
          passed = λ j h. ⊎_elim (part.passed j) (λ e. inl (subst (IsDone seen stack) e done)) (one_more j h);
          whole = part.whole;
          least_on = part.least_on;
          least = part.least;
          returns = part.returns;
          single = λ no. let (short, low, others) = part.single no in (short, low, λ j h same. ⊎_elim (λ x. others j x same) (λ e. done.1 (top.base, part.base_top, get_or_default stack top.base to 0 part.base_top ∙ part.stands ∙ sym same ∙ sym e)) (one_more j h));
        },
        s.parts.1,
        s.parts.2,
      );
      placed = s.placed;
      opened = s.opened;
      inside = s.inside;
      long = s.long;
      places_long = s.places_long;
      closed = s.closed;
      returns = s.returns;
      bound = s.bound;
      kept = s.kept;
      has = s.has;
    }

    -- a step to a position on the stack
    pub Searching-open : (place : ℕ) → place < length stack → get_or stack place 0 ≡ to → Searching rows old start seen places stack found (returning (record top { next = top.next + 1 }) place ∷ fs)
    Searching-open place on at = record {
      parts = (
        record {
          low_base = omega (arith, part.low_base);
          base_top = part.base_top;
          stands = part.stands;
          there = part.there;
          back = part.back;
          falls = ⊎_elim (λ e. subst (λ n. Comes rows top.at (get_or stack n 0)) (sym e) part.falls) (λ e. subst (λ n. Comes rows top.at (get_or stack n 0)) (sym e) (inr (subst (Reaches (Leads rows) top.at) (sym at) (one leads)))) least_of;
          passed = λ j h. ⊎_elim (λ x. falls_lower seen stack lower (part.passed j x)) (λ e. inr (place, omega arith, on, at ∙ e)) (one_more j h);
          whole = λ p j l m h. falls_lower seen stack lower (part.whole p j l m h);
          least_on = part.least_on;
          least = part.least;
          returns = λ _. returns_by rows leads (subst (λ n. Comes rows n top.at) at (on_top (length stack) top fs s.parts place on));
          single = λ no. absurd (no_both refl no);
        },
        s.parts.1,
        s.parts.2,
      );
      placed = s.placed;
      opened = s.opened;
      inside = s.inside;
      long = s.long;
      places_long = s.places_long;
      closed = s.closed;
      returns = s.returns;
      bound = s.bound;
      kept = s.kept;
      has = s.has;
    } where
      lower : min top.low place ≤ top.low
      lower = omega arith

      least_of : (min top.low place ≡ top.low) ⊎ (min top.low place ≡ place)
      least_of = ⊎_elim (λ l. inl (omega (arith, l))) (λ l. inr (omega (arith, l))) (cases_lt top.low place)

    -- a step to a new position
    pub Searching-new : to < length rows → seen_at seen to ≡ false → (seen' : List Bool) (places' stack' : List ℕ) → seen' ≡ set seen to true → places' ≡ set places to (length stack) → stack' ≡ stack ++ to ∷ []
        → Searching rows old start seen' places' stack' found (record { at = to; next = 0; base = length stack; low = length stack; least = to; returns = false } ∷ record top { next = top.next + 1 } ∷ fs)
    Searching-new below new seen' places' stack' seen_is places_is stack_is =
        subst (λ x. Searching rows old start x places' stack' found frames) (sym seen_is) (subst (λ x. Searching rows old start (set seen to true) x stack' found frames) (sym places_is) (subst (λ x. Searching rows old start (set seen to true) (set places to (length stack)) x found frames) (sym stack_is) (record {
          parts = (entered, leads, (stepped, s.parts.1, others.2));
          placed = λ p l. ⊎_elim (λ low. ap (λ n. get_or (set places to (length stack)) n 0) (before p low) ∙ get_or-set_other places to (get_or stack p 0) (length stack) 0 (λ e. other p low e) ∙ s.placed p low)
              (λ high. let last : p ≡ length stack = omega (arith, l, high, length_push stack to) in ap (λ n. get_or (set places to (length stack)) n 0) (get_or_push stack to 0 p (sym last)) ∙ get_or-set_same places to (length stack) 0 place_inside ∙ sym last) (cases_lt p (length stack));
          opened = λ p l. ⊎_elim (λ low. ap (seen_at (set seen to true)) (before p low) ∙ get_or-set_other seen to (get_or stack p 0) true false (λ e. other p low e) ∙ s.opened p low)
              (λ high. let last : p ≡ length stack = omega (arith, l, high, length_push stack to) in ap (seen_at (set seen to true)) (get_or_push stack to 0 p (sym last)) ∙ get_or-set_same seen to true false seen_inside) (cases_lt p (length stack));
          inside = λ p l. ⊎_elim (λ low. subst (λ n. n < length rows) (sym (before p low)) (s.inside p low)) (λ high. subst (λ n. n < length rows) (sym (get_or_push stack to 0 p (omega (arith, l, high, length_push stack to)))) below) (cases_lt p (length stack));
          long = length-set seen to true ∙ s.long;
          places_long = length-set places to (length stack) ∙ s.places_long;
          closed = λ i j d h. done_still j (s.closed i j (was_done i d) h);
          returns = s.returns;
          bound = λ i d r. s.bound i (was_done i d) r;
          kept = λ i h. still_seen i (s.kept i h);
          has = still_seen start s.has;
        })))
      where
        frames : List Frame
        frames = record { at = to; next = 0; base = length stack; low = length stack; least = to; returns = false } ∷ record top { next = top.next + 1 } ∷ fs

        seen_inside : to < length seen
        seen_inside = omega (arith, below, s.long)

        place_inside : to < length places
        place_inside = omega (arith, below, s.places_long)

        other : (p : ℕ) → p < length stack → get_or stack p 0 ≡ to → ⊥
        other p l e = no_both (sym (ap (seen_at seen) e) ∙ s.opened p l) new

        before : (p : ℕ) → p < length stack → get_or (stack ++ to ∷ []) p 0 ≡ get_or stack p 0
        before p l = get_or_append_left stack (to ∷ []) 0 p l

        still_seen : (i : ℕ) → seen_at seen i ≡ true → seen_at (set seen to true) i ≡ true
        still_seen i h = get_or-set_other seen to i true false (λ e. no_both (sym (ap (seen_at seen) e) ∙ h) new) ∙ h

        done_still : (j : ℕ) → IsDone seen stack j → IsDone (set seen to true) (stack ++ to ∷ []) j
        done_still j d = (still_seen j d.0, λ c. ⊎_elim d.1 (λ e. no_both (ap (seen_at seen) e ∙ d.0) new) (Contains-push_cases stack to j c))

        was_done : (i : ℕ) → IsDone (set seen to true) (stack ++ to ∷ []) i → IsDone seen stack i
        was_done i d = (sym (get_or-set_other seen to i true false (λ e. d.1 (subst (Contains (stack ++ to ∷ [])) (sym e) (Contains-push stack to)))) ∙ d.0, λ c. d.1 (Contains-append_left stack (to ∷ []) i c))

        out : (low j : ℕ) → Falls seen stack low j → Falls (set seen to true) (stack ++ to ∷ []) low j
        out low j f = ⊎_elim (λ d. inl (done_still j d)) (λ x. inr (x.0, x.1, omega (arith, x.2, length_push stack to), before x.0 x.2 ∙ x.3)) f

        others : Parts rows (set seen to true) (stack ++ to ∷ []) (length stack) (top ∷ fs)
        others = parts_moved rows seen (set seen to true) stack (stack ++ to ∷ []) out (top ∷ fs) (length stack) before s.parts

        stepped : Part rows (set seen to true) (stack ++ to ∷ []) (record top { next = top.next + 1 }) (length stack)
        stepped = record {
          low_base = part.low_base;
          base_top = part.base_top;
          stands = others.0.stands;
          there = others.0.there;
          back = others.0.back;
          falls = others.0.falls;
          passed = λ j h. ⊎_elim (others.0.passed j) (λ e. inr (length stack, omega (arith, part.low_base, part.base_top), omega (arith, length_push stack to), get_or_push stack to 0 (length stack) refl ∙ e)) (one_more j h);
          whole = others.0.whole;
          least_on = others.0.least_on;
          least = others.0.least;
          returns = part.returns;
          single = λ no. let (short, low, others) = part.single no in (short, low, λ j h same. ⊎_elim (λ x. others j x same) (λ e. other top.base part.base_top (part.stands ∙ sym same ∙ sym e)) (one_more j h));
        }

        at_last : (p : ℕ) → length stack ≤ p → p < length (stack ++ to ∷ []) → get_or (stack ++ to ∷ []) p 0 ≡ to
        at_last p l m = get_or_push stack to 0 p (omega (arith, l, m, length_push stack to))

        entered : Part rows (set seen to true) (stack ++ to ∷ []) (record { at = to; next = 0; base = length stack; low = length stack; least = to; returns = false }) (length (stack ++ to ∷ []))
        entered = record {
          low_base = omega arith;
          base_top = omega (arith, length_push stack to);
          stands = get_or_push stack to 0 (length stack) refl;
          there = λ p l m. inl (sym (at_last p l m));
          back = λ p l m. inl (at_last p l m);
          falls = inl (sym (get_or_push stack to 0 (length stack) refl));
          passed = λ j h. absurd (nothing h);
          whole = λ p j l m h. absurd (omega (arith, l, m, length_push stack to));
          least_on = (length stack, omega arith, omega (arith, length_push stack to), get_or_push stack to 0 (length stack) refl);
          least = λ p l m. subst (λ n. to ≤ n) (sym (at_last p l m)) (omega arith);
          returns = λ e. absurd (no_both e refl);
          single = λ _. (omega (arith, length_push stack to), refl, λ j h same. nothing h);
        }

  module _ (over : length (get_or rows top.at []) ≤ top.next) where
    passed_all : (j : ℕ) → Leads rows top.at j → Falls seen stack top.low j
    passed_all j h = part.passed j (subst (λ l. Contains l j) (sym (take_all top.next (get_or rows top.at []) over)) h)

    whole_part : (p j : ℕ) → top.base ≤ p → p < length stack → Leads rows (get_or stack p 0) j → Falls seen stack top.low j
    whole_part p j l m h = ⊎_elim (λ e. passed_all j (subst (λ n. Leads rows n j) (ap (λ n. get_or stack n 0) e ∙ part.stands) h)) (λ n. part.whole p j (omega (arith, l, n)) m h) (cases_eq p top.base)

    on_or_not : (i : ℕ) → ((p : ℕ) × (p < length stack) × (get_or stack p 0 ≡ i)) ⊎ (Contains stack i → ⊥)
    on_or_not i = ⊎_elim (λ l. ⊎_elim (λ e. inl (get_or places i 0, l, e)) (λ n. inr (λ c. n (stands_there c))) (cases_eq (get_or stack (get_or places i 0) 0) i)) (λ l. inr (λ c. let (k, m, e) = c in let at = place_of c in omega (arith, l, at, m))) (cases_lt (get_or places i 0) (length stack)) where
      place_of : (c : Contains stack i) → get_or places i 0 ≡ c.0
      place_of c = ap (λ n. get_or places n 0) (sym (get_or_default stack c.0 0 i c.1 ∙ c.2)) ∙ s.placed c.0 c.1

      stands_there : Contains stack i → get_or stack (get_or places i 0) 0 ≡ i
      stands_there c = ap (λ n. get_or stack n 0) (place_of c) ∙ get_or_default stack c.0 0 i c.1 ∙ c.2

    -- a way from a part leads back into it
    around : {x : ℕ} → Comes rows x top.at → Reaches (Leads rows) top.at top.at → Comes rows top.at x → Reaches (Leads rows) x x
    around {x} to circle from =
        let out : Reaches (Leads rows) x top.at = ⊎_elim (λ e. subst (λ n. Reaches (Leads rows) n top.at) (sym e) circle) (λ r. r) to in
        ⊎_elim (λ e. subst (Reaches (Leads rows) x) e out) (λ r. Reaches-append out r) from

    module _ (closes : top.low ≡ top.base) where
      base_inside : top.base < length stack
      base_inside = part.base_top

      kept_at : (p : ℕ) → p < top.base → get_or (take top.base stack) p 0 ≡ get_or stack p 0
      kept_at p l = get_or-take top.base stack p 0 l

      shorter : length (take top.base stack) ≡ top.base
      shorter = length-take-le top.base stack (omega (arith, base_inside))

      on_still : (i : ℕ) → Contains (take top.base stack) i → (p : ℕ) × (p < top.base) × (get_or stack p 0 ≡ i)
      on_still i c = let (k, l, e) = c in let low : k < top.base = omega (arith, l, shorter) in (k, low, sym (kept_at k low) ∙ get_or_default (take top.base stack) k 0 i l ∙ e)

      done_still : (i : ℕ) → IsDone seen stack i → IsDone seen (take top.base stack) i
      done_still i d = (d.0, λ c. let (p, l, e) = on_still i c in let m : p < length stack = omega (arith, l, base_inside) in d.1 (p, m, get_or_default stack p i 0 m ∙ e))

      newly : (p : ℕ) → top.base ≤ p → p < length stack → IsDone seen (take top.base stack) (get_or stack p 0)
      newly p l m = (s.opened p m, λ c. let (k, n, e) = on_still (get_or stack p 0) c in let same = same_place places stack s.placed k p (omega (arith, n, base_inside)) m e in omega (arith, same, n, l))

      was : (i : ℕ) → IsDone seen (take top.base stack) i → IsDone seen stack i ⊎ ((p : ℕ) × (top.base ≤ p) × (p < length stack) × (get_or stack p 0 ≡ i))
      was i d = ⊎_elim (λ x. ⊎_elim (λ low. absurd (d.1 (x.0, omega (arith, low, shorter), get_or_default (take top.base stack) x.0 i 0 (omega (arith, low, shorter)) ∙ kept_at x.0 low ∙ x.2))) (λ high. inr (x.0, high, x.1, x.2)) (cases_lt x.0 top.base)) (λ n. inl (d.0, n)) (on_or_not i)

      out : (low j : ℕ) → Falls seen stack low j → Falls seen (take top.base stack) low j
      out low j f = ⊎_elim (λ d. inl (done_still j d)) (λ x. ⊎_elim (λ below. inr (x.0, x.1, omega (arith, below, shorter), kept_at x.0 below ∙ x.3)) (λ high. inl (subst (IsDone seen (take top.base stack)) x.3 (newly x.0 high x.2))) (cases_lt x.0 top.base)) f

      falls_in : (j : ℕ) → Falls seen stack top.low j → IsDone seen (take top.base stack) j
      falls_in j f = ⊎_elim (done_still j) (λ x. subst (IsDone seen (take top.base stack)) x.3 (newly x.0 (omega (arith, x.1, closes)) x.2)) f

      stays : (b c : ℕ) → IsDone seen stack b → Leads rows b c → IsDone seen stack c
      stays b c d h = s.closed b c d h

      -- a part of one position that no way led back to
      lone : top.returns ≡ false → (i p : ℕ) → top.base ≤ p → p < length stack → get_or stack p 0 ≡ i → Reaches (Leads rows) i i → ⊥
      lone alone i p l m e r =
          let (short, low, others) = part.single alone in
          let at_base : p ≡ top.base = omega (arith, l, m, short) in
          let same : i ≡ top.at = sym e ∙ ap (λ n. get_or stack n 0) at_base ∙ part.stands in
          let r' : Reaches (Leads rows) top.at top.at = subst (λ n. Reaches (Leads rows) n n) same r in
          let d = Reaches-along (IsDone seen stack) stays (λ b h. ⊎_elim (λ d. d) (λ x. absurd (others b (subst (λ l. Contains l b) (sym (take_all top.next (get_or rows top.at []) over)) h) (sym x.3 ∙ ap (λ n. get_or stack n 0) (omega (arith, x.1, x.2, short, closes)) ∙ part.stands))) (passed_all b h)) r' in
          d.1 (top.base, base_inside, get_or_default stack top.base top.at 0 base_inside ∙ part.stands)

      counted : (b : Bool) → top.returns ≡ b → (with_part found b top.least < length rows → Reaches (Leads rows) (with_part found b top.least) (with_part found b top.least))
          × ((i : ℕ) → IsDone seen (take top.base stack) i → Reaches (Leads rows) i i → with_part found b top.least ≤ i)
      counted false alone = (s.returns, λ i d r. ⊎_elim (λ w. s.bound i w r) (λ x. absurd (lone alone i x.0 x.1 x.2 x.3 r)) (was i d))
      counted true is =
          let (p, l, m, e) = part.least_on in
          let circle : Reaches (Leads rows) top.least top.least = subst (λ n. Reaches (Leads rows) n n) e (around (part.back p l m) (part.returns is) (part.there p l m)) in (
            λ below. ⊎_elim (λ lt. subst (λ n. Reaches (Leads rows) n n) (omega (arith, lt)) (s.returns (omega (arith, lt, below)))) (λ ge. subst (λ n. Reaches (Leads rows) n n) (omega (arith, ge)) circle) (cases_lt found top.least),
            λ i d r. ⊎_elim (λ w. let bound = s.bound i w r in omega (arith, bound)) (λ x. let bound = part.least x.0 x.1 x.2 in let is_i = x.3 in omega (arith, bound, is_i)) (was i d),
          )

      -- the part on top of the stack is done
      pub Searching-close : (stack' : List ℕ) (found' : ℕ) (fs' : List Frame) → stack' ≡ take top.base stack → found' ≡ with_part found top.returns top.least → fs' ≡ fs → Searching rows old start seen places stack' found' fs'
      Searching-close stack' found' fs' stack_is found_is fs_is = subst (λ x. Searching rows old start seen places stack' found' x) (sym fs_is) (subst (λ x. Searching rows old start seen places x found' fs) (sym stack_is) (subst (λ x. Searching rows old start seen places (take top.base stack) x fs) (sym found_is) (record {
        parts = subst (λ n. Parts rows seen (take top.base stack) n fs) (sym shorter) (parts_moved rows seen seen stack (take top.base stack) out fs top.base kept_at s.parts.2);
        placed = λ p l. let low : p < top.base = omega (arith, l, shorter) in ap (λ n. get_or places n 0) (kept_at p low) ∙ s.placed p (omega (arith, low, base_inside));
        opened = λ p l. let low : p < top.base = omega (arith, l, shorter) in ap (seen_at seen) (kept_at p low) ∙ s.opened p (omega (arith, low, base_inside));
        inside = λ p l. let low : p < top.base = omega (arith, l, shorter) in subst (λ n. n < length rows) (sym (kept_at p low)) (s.inside p (omega (arith, low, base_inside)));
        long = s.long;
        places_long = s.places_long;
        closed = λ i j d h. ⊎_elim (λ w. done_still j (s.closed i j w h)) (λ x. falls_in j (whole_part x.0 j x.1 x.2 (subst (λ n. Leads rows n j) (sym x.3) h))) (was i d);
        returns = (counted top.returns refl).0;
        bound = (counted top.returns refl).1;
        kept = s.kept;
        has = s.has;
      })))

-- the part on top of the stack leads back to the one below
module _ {rows : List (List ℕ)} {old : List Bool} {start : ℕ} {seen : List Bool} {places stack : List ℕ} {found : ℕ} {top f : Frame} {fs : List Frame} (s : Searching rows old start seen places stack found (top ∷ f ∷ fs)) (over : length (get_or rows top.at []) ≤ top.next) (open_still : top.low < top.base) where
  upper : Part rows seen stack top (length stack)
  upper = s.parts.0

  lower : Part rows seen stack f top.base
  lower = s.parts.2.0

  linked : Leads rows f.at top.at
  linked = s.parts.1

  comes_back : Comes rows top.at f.at
  comes_back = comes_then rows upper.falls (on_top top.base f fs s.parts.2 top.low open_still)

  either : (a b : ℕ) → (min a b ≡ a) ⊎ (min a b ≡ b)
  either a b = ⊎_elim (λ l. inl (omega (arith, l))) (λ l. inr (omega (arith, l))) (cases_lt a b)

  pub Searching-merge : (top' : Frame) (fs' : List Frame) → top' ≡ merged f top → fs' ≡ fs → Searching rows old start seen places stack found (top' ∷ fs')
  Searching-merge top' fs' top_is fs_is = subst (λ x. Searching rows old start seen places stack found (x ∷ fs')) (sym top_is) (subst (λ x. Searching rows old start seen places stack found (merged f top ∷ x)) (sym fs_is) (record {
    parts = (
      record {
        low_base = omega (arith, lower.low_base);
        base_top = omega (arith, lower.base_top, upper.base_top);
        stands = lower.stands;
        there = λ p l m. ⊎_elim (λ low. lower.there p l low) (λ high. comes_then rows (inr (one linked)) (upper.there p high m)) (cases_lt p top.base);
        back = λ p l m. ⊎_elim (λ low. lower.back p l low) (λ high. comes_then rows (upper.back p high m) comes_back) (cases_lt p top.base);
        falls = ⊎_elim (λ e. subst (λ n. Comes rows f.at (get_or stack n 0)) (sym e) lower.falls) (λ e. subst (λ n. Comes rows f.at (get_or stack n 0)) (sym e) (comes_then rows (inr (one linked)) upper.falls)) (either f.low top.low);
        passed = λ j h. falls_lower seen stack (omega arith) (lower.passed j h);
        whole = λ p j l m h. ⊎_elim (λ low. falls_lower seen stack (omega arith) (lower.whole p j l low h)) (λ high. falls_lower seen stack (omega arith) (whole_part s over p j high m h)) (cases_lt p top.base);
        least_on = ⊎_elim (λ e. (lower.least_on.0, lower.least_on.1, omega (arith, lower.least_on.2, upper.base_top), lower.least_on.3 ∙ sym e))
            (λ e. (upper.least_on.0, omega (arith, upper.least_on.1, lower.base_top), upper.least_on.2, upper.least_on.3 ∙ sym e)) (either f.least top.least);
        least = λ p l m. ⊎_elim (λ low. omega (arith, lower.least p l low)) (λ high. omega (arith, upper.least p high m)) (cases_lt p top.base);
        returns = λ _. returns_by rows linked comes_back;
        single = λ no. absurd (no_both refl no);
      },
      s.parts.2.1,
      s.parts.2.2,
    );
    placed = s.placed;
    opened = s.opened;
    inside = s.inside;
    long = s.long;
    places_long = s.places_long;
    closed = s.closed;
    returns = s.returns;
    bound = s.bound;
    kept = s.kept;
    has = s.has;
  }))

pub Searching-start : {rows : List (List ℕ)} {seen : List Bool} (places : List ℕ) {found : ℕ} (start : ℕ) (seen' : List Bool) (places' stack : List ℕ) (fs : List Frame) → start < length rows → Searched rows seen found → length places ≡ length rows → seen_at seen start ≡ false
    → seen' ≡ set seen start true → places' ≡ set places start 0 → stack ≡ start ∷ [] → fs ≡ []
    → Searching rows seen start seen' places' stack found (record { at = start; next = 0; base = 0; low = 0; least = start; returns = false } ∷ fs)
Searching-start {rows} {seen} places {found} start seen' places' stack fs below s long new seen_is places_is stack_is none =
    subst (λ x. Searching rows seen start seen' places' stack found (top ∷ x)) (sym none) (subst (λ x. Searching rows seen start x places' stack found (top ∷ [])) (sym seen_is) (subst (λ x. Searching rows seen start (set seen start true) x stack found (top ∷ [])) (sym places_is) (subst (λ x. Searching rows seen start (set seen start true) (set places start 0) x found (top ∷ [])) (sym stack_is) (record {
      parts = (
        record {
          low_base = omega arith;
          base_top = omega arith;
          stands = refl;
          there = λ p l m. inl (sym (only p m));
          back = λ p l m. inl (only p m);
          falls = inl refl;
          passed = λ j h. absurd (nothing h);
          whole = λ p j l m h. absurd (omega (arith, l, m));
          least_on = (0, omega arith, omega arith, refl);
          least = λ p l m. subst (λ n. start ≤ n) (sym (only p m)) (omega arith);
          returns = λ e. absurd (no_both e refl);
          single = λ _. (omega arith, refl, λ j h same. nothing h);
        },
        tt,
        refl,
      );
      placed = λ p l. ap (λ n. get_or (set places start 0) n 0) (only p l) ∙ get_or-set_same places start 0 0 (omega (arith, below, long)) ∙ omega (arith, l);
      opened = λ p l. ap (seen_at (set seen start true)) (only p l) ∙ get_or-set_same seen start true false inside;
      inside = λ p l. subst (λ n. n < length rows) (sym (only p l)) below;
      long = length-set seen start true ∙ s.long;
      places_long = length-set places start 0 ∙ long;
      closed = λ i j d h. let (was, other) = before i d in done (s.closed i j was h);
      returns = s.returns;
      bound = λ i d r. s.bound i (before i d).0 r;
      kept = λ i h. still i h;
      has = get_or-set_same seen start true false inside;
    }))))
  where
    top : Frame
    top = record { at = start; next = 0; base = 0; low = 0; least = start; returns = false }

    inside : start < length seen
    inside = omega (arith, below, s.long)

    only : (p : ℕ) → p < length (start ∷ []) → get_or (start ∷ []) p 0 ≡ start
    only zero l = refl
    only (suc p) l = absurd (omega (arith, l))

    before : (i : ℕ) → IsDone (set seen start true) (start ∷ []) i → (seen_at seen i ≡ true) × (i ≡ start → ⊥)
    before i d = let other : i ≡ start → ⊥ = (λ e. d.1 (0, omega arith, sym e)) in (sym (get_or-set_other seen start i true false other) ∙ d.0, other)

    still : (i : ℕ) → seen_at seen i ≡ true → seen_at (set seen start true) i ≡ true
    still i h = get_or-set_other seen start i true false (λ e. no_both (sym (ap (seen_at seen) e) ∙ h) new) ∙ h

    done : {j : ℕ} → seen_at seen j ≡ true → IsDone (set seen start true) (start ∷ []) j
    done {j} h = (still j h, λ c. let (k, l, e) = c in no_both (ap (seen_at seen) (sym (only k l) ∙ get_or_default (start ∷ []) k 0 j l ∙ e) ∙ h) new)

-- after the last part
pub Searching-end : {rows : List (List ℕ)} {old : List Bool} {start : ℕ} {seen : List Bool} {places stack : List ℕ} {found : ℕ} {fs : List Frame} → Searching rows old start seen places stack found fs → fs ≡ [] → Searched rows seen found
Searching-end {rows} {old} {start} {seen} {places} {stack} {found} {fs} s none = record {
  long = s.long;
  closed = λ i j h l. (s.closed i j (done h) l).0;
  returns = s.returns;
  bound = λ i h r. s.bound i (done h) r;
} where
  empty : length stack ≡ 0
  empty = subst (λ x. Parts rows seen stack (length stack) x) none s.parts

  done : {i : ℕ} → seen_at seen i ≡ true → IsDone seen stack i
  done h = (h, λ c. omega (arith, empty, c.1))

-- what stands on the way after a push and before a pop
pub pushed-frame : (path path' : List Frame) (f : Frame) → path' ≡ path ++ f ∷ [] → reverse path' ≡ f ∷ reverse path
pushed-frame path path' f is = ap reverse is ∙ reverse-append path (f ∷ [])

-- the positions below `start` were seen
pub record SearchedTo (rows : List (List ℕ)) (start : ℕ) (seen : List Bool) (places : List ℕ) (found : ℕ) : Type 0 where
  pub searched : Searched rows seen found
  pub long : length places ≡ length rows
  pub has : (i : ℕ) → i < start → seen_at seen i ≡ true

all_unseen : (n i : ℕ) → seen_at (replicate n false) i ≡ false
all_unseen zero i = refl
all_unseen (suc n) zero = refl
all_unseen (suc n) (suc i) = all_unseen n i

pub SearchedTo-start : (rows : List (List ℕ)) (seen : List Bool) (places : List ℕ) → seen ≡ replicate (length rows) false → places ≡ replicate (length rows) 0 → SearchedTo rows 0 seen places (length rows)
SearchedTo-start rows seen places seen_is places_is = record {
  searched = record {
    long = ap length seen_is ∙ length-replicate (length rows) false;
    closed = λ i j h l. absurd (none i h);
    returns = λ l. absurd (omega (arith, l));
    bound = λ i h r. absurd (none i h);
  };
  long = ap length places_is ∙ length-replicate (length rows) 0;
  has = λ i l. absurd (omega (arith, l));
} where
  none : (i : ℕ) → seen_at seen i ≡ true → ⊥
  none i h = no_both h (ap (λ x. seen_at x i) seen_is ∙ all_unseen (length rows) i)

module _ {rows : List (List ℕ)} {start : ℕ} {seen : List Bool} {places : List ℕ} {found : ℕ} (s : SearchedTo rows start seen places found) where
  pub SearchedTo-next : (seen' : List Bool) (places' : List ℕ) (found' : ℕ) → length places' ≡ length places → Searched rows seen' found' → seen_at seen' start ≡ true → ((i : ℕ) → seen_at seen i ≡ true → seen_at seen' i ≡ true) → SearchedTo rows (start + 1) seen' places' found'
  SearchedTo-next seen' places' found' as_long searched this kept = record {
    searched = searched;
    long = as_long ∙ s.long;
    has = λ i l. ⊎_elim (λ e. ap (seen_at seen') e ∙ this) (λ n. kept i (s.has i (omega (arith, l, n)))) (cases_eq i start);
  }

  pub SearchedTo-known : seen_at seen start ≡ true → SearchedTo rows (start + 1) seen places found
  SearchedTo-known this = record {
    searched = s.searched;
    long = s.long;
    has = λ i l. ⊎_elim (λ e. ap (seen_at seen) e ∙ this) (λ n. s.has i (omega (arith, l, n))) (cases_eq i start);
  }

  pub SearchedTo-end : length rows ≤ start → IsLeastToReturn rows found
  SearchedTo-end all = record {
    returns = s.searched.returns;
    bound = λ i l r. s.searched.bound i (s.has i (omega (arith, l, all))) r;
  }
