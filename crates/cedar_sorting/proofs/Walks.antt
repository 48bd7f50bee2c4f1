-- SPDX-License-Identifier: Apache-2.0
-- A walk through rows that puts positions behind those of their rows.
use Rattle.std.proofs.Common.{◌≡◌, ℕ, ◌+◌, ◌-◌, ◌*◌, ◌<◌, ◌≤◌, ◌⊎◌, inl, inr, List, [], ◌∷◌, ◌++◌, length, map, replicate, reverse, take, set, get_or, zero, suc, All, Contains, ⊎_elim, refl, sym, ap, ◌∙◌, subst, arith}
use Rattle.std.proofs.lemmas.Bool.{cases_eq}
use Rattle.std.proofs.lemmas.List.{take_more, take_all, take-append-le, get_or_append_left, get_or_push, get_or-set_same, get_or-set_other, length-set, length-replicate, length_push, get_or_default, reverse-append}
use Rattle.std.proofs.lemmas.List.Elements.{All-push, Contains-append_left, Contains-append_right, Contains-push, Contains-push_cases}
use Rattle.std.proofs.lemmas.List.Quantifiers.{all_pairs_push}
use Rattle.std.specs.List.{AllByRecursion, AllPairs}
use Rattle.cedar_closure.proofs.ChainLaws.{Reaches-push}
use Rattle.cedar_closure.specs.Chains.{Reaches, one}
use Rattle.cedar_closure.specs.Marks.{Leads}
use Rattle.cedar_sorting.specs.Orders.{IsOrder}
use Rattle.cedar_sorting.specs.Walked.{Sorted, SortedMore, mark_at}
use Rattle.cedar_sorting.specs.declared.mark.Mark.{Mark}
use Rattle.cedar_sorting.specs.declared.mark.Mark.TheVariants.{New, Open, Done}
use Rattle.cedar_sorting.specs.declared.depth_first.Step.{Step}

both : {X : Type 0} {P Q R : X → Type 0} (xs : List X) → ((x : X) → P x → Q x → R x) → AllByRecursion P xs → AllByRecursion Q xs → AllByRecursion R xs
both [] f ps qs = tt
both (x ∷ xs) f ps qs = (f x ps.0 qs.0, both xs f ps.1 qs.1)

one_of : {X : Type 0} (P : X → Type 0) (xs : List X) (x : X) → AllByRecursion P xs → Contains xs x → P x
one_of P [] x all (k, l, e) = absurd (omega arith)
one_of P (y ∷ ys) x all (zero, l, e) = subst P e all.0
one_of P (y ∷ ys) x all (suc k, l, e) = one_of P ys x all.1 (k, omega arith, e)

nothing : {X : Type 0} {x : X} → Contains [] x → ⊥
nothing (k, l, e) = omega arith

head_or_tail : {X : Type 0} (y : X) (ys : List X) (x : X) → Contains (y ∷ ys) x → (y ≡ x) ⊎ Contains ys x
head_or_tail y ys x (zero, l, e) = inl e
head_or_tail y ys x (suc k, l, e) = inr (k, omega arith, e)

new_open : {m : Mark} → m ≡ New → m ≡ Open → ⊥
new_open a b = absurd cc

open_done : {m : Mark} → m ≡ Open → m ≡ Done → ⊥
open_done a b = absurd cc

new_done : {m : Mark} → m ≡ New → m ≡ Done → ⊥
new_done a b = absurd cc

-- the positions on the way, the latest first
abbrev pub on_way : ℕ → List Step → List ℕ
on_way at steps = at ∷ map (λ s. s.at) steps

-- no two are the same
abbrev Apart : List ℕ → Type 0
Apart [] = Unit {0}
Apart (x ∷ xs) = AllByRecursion (λ y. x ≡ y → ⊥) xs × Apart xs

-- what was passed of each row is done, but for the step to the position after it
abbrev Climbs : List (List ℕ) → List ℕ → ℕ → List Step → Type 0
Climbs rows order at [] = Unit {0}
Climbs rows order at (s ∷ ss) = ((j : ℕ) → Contains (take s.next (get_or rows s.at [])) j → Contains order j ⊎ (at ≡ j)) × Leads rows s.at at × Climbs rows order s.at ss

pub record Walking (rows : List (List ℕ)) (old : List ℕ) (start : ℕ) (marks : List Mark) (order : List ℕ) (steps : List Step) (at next : ℕ) : Type 0 where
  pub sorted : Sorted rows marks order
  pub opens : AllByRecursion (λ i. mark_at marks i ≡ Open) (on_way at steps)
  pub on : (i : ℕ) → mark_at marks i ≡ Open → Contains (on_way at steps) i
  pub apart : Apart (on_way at steps)
  pub inside : AllByRecursion (λ i. i < length rows) (on_way at steps)
  pub climbs : Climbs rows order at steps
  pub seen : (j : ℕ) → Contains (take next (get_or rows at [])) j → Contains order j
  pub kept : (i : ℕ) → Contains old i → Contains order i
  pub begun : Contains order start ⊎ Contains (on_way at steps) start

-- a mark that opens a new position leaves what is done
opened : {rows : List (List ℕ)} {marks : List Mark} {order : List ℕ} (to : ℕ) → Sorted rows marks order → to < length marks → mark_at marks to ≡ New → Sorted rows (set marks to Open) order
opened {rows} {marks} {order} to s inside new = record {
  long = length-set marks to Open ∙ s.long;
  within = s.within;
  apart = s.apart;
  behind = s.behind;
  done = λ i h. ⊎_elim (λ same. absurd (open_done (get_or-set_same marks to Open New inside) (ap (mark_at (set marks to Open)) (sym same) ∙ h))) (λ other. s.done i (sym (get_or-set_other marks to i Open New other) ∙ h)) (cases_eq i to);
  marked = λ i h. get_or-set_other marks to i Open New (λ same. new_done (ap (mark_at marks) same ∙ new) (s.marked i h)) ∙ s.marked i h;
}

pub Walking-start : {rows : List (List ℕ)} {marks : List Mark} {order : List ℕ} (start : ℕ) (marks' : List Mark) (steps : List Step) → start < length rows → Sorted rows marks order → ((i : ℕ) → mark_at marks i ≡ Open → ⊥) → mark_at marks start ≡ New → marks' ≡ set marks start Open → steps ≡ [] → Walking rows order start marks' order steps start 0
Walking-start {rows} {marks} {order} start marks' steps below s closed new is none = subst (λ m. Walking rows order start m order steps start 0) (sym is) (subst (λ ss. Walking rows order start (set marks start Open) order ss start 0) (sym none) (record {
  sorted = opened start s inside new;
  opens = (get_or-set_same marks start Open New inside, tt);
  on = λ i h. ⊎_elim (λ same. (0, omega arith, sym same)) (λ other. absurd (closed i (sym (get_or-set_other marks start i Open New other) ∙ h))) (cases_eq i start);
  apart = (tt, tt);
  inside = (below, tt);
  climbs = tt;
  seen = λ j h. absurd (nothing h);
  kept = λ i h. h;
  begun = inr (0, omega arith, refl);
})) where
  inside : start < length marks
  inside = omega (arith, below, s.long)

module _ {rows : List (List ℕ)} {old : List ℕ} {start : ℕ} {marks : List Mark} {order : List ℕ} {steps : List Step} {at next : ℕ} (w : Walking rows old start marks order steps at next) where
  -- one step to a new position
  pub Walking-new : (to : ℕ) (steps' : List Step) (marks' : List Mark) → next < length (get_or rows at []) → to ≡ get_or (get_or rows at []) next 0 → to < length rows → mark_at marks to ≡ New → steps' ≡ record { at = at; next = next + 1 } ∷ steps → marks' ≡ set marks to Open → Walking rows old start marks' order steps' to 0
  Walking-new to steps' marks' more is below new pushed set_it = subst (λ m. Walking rows old start m order steps' to 0) (sym set_it) (subst (λ ss. Walking rows old start (set marks to Open) order ss to 0) (sym pushed) (record {
    sorted = opened to w.sorted inside new;
    opens = (get_or-set_same marks to Open New inside, both (on_way at steps) (λ i o d. get_or-set_other marks to i Open New (λ same. d (sym same)) ∙ o) w.opens others);
    on = λ i h. ⊎_elim (λ same. (0, omega arith, sym same)) (λ other. Contains-append_right (to ∷ []) (on_way at steps) i (w.on i (sym (get_or-set_other marks to i Open New other) ∙ h))) (cases_eq i to);
    apart = (others, w.apart);
    inside = (below, w.inside);
    climbs = (passed, leads, w.climbs);
    seen = λ j h. absurd (nothing h);
    kept = w.kept;
    begun = ⊎_elim (λ h. inl h) (λ h. inr (Contains-append_right (to ∷ []) (on_way at steps) start h)) w.begun;
  })) where
    inside : to < length marks
    inside = omega (arith, below, w.sorted.long)

    others : AllByRecursion (λ i. to ≡ i → ⊥) (on_way at steps)
    others = both (on_way at steps) (λ i o _. λ same. new_open (ap (mark_at marks) (sym same) ∙ new) o) w.opens w.opens

    leads : Leads rows at to
    leads = (next, more, get_or_default (get_or rows at []) next to 0 more ∙ sym is)

    passed : (j : ℕ) → Contains (take (next + 1) (get_or rows at [])) j → Contains order j ⊎ (to ≡ j)
    passed j h = ⊎_elim (λ x. inl (w.seen j x)) (λ x. inr (is ∙ x)) (Contains-push_cases (take next (get_or rows at [])) (get_or (get_or rows at []) next 0) j (subst (λ l. Contains l j) (take_more (get_or rows at []) next 0 more) h))

  -- one step to a position that is done
  pub Walking-done : (to : ℕ) → next < length (get_or rows at []) → to ≡ get_or (get_or rows at []) next 0 → mark_at marks to ≡ Done → Walking rows old start marks order steps at (next + 1)
  Walking-done to more is done = record {
    sorted = w.sorted;
    opens = w.opens;
    on = w.on;
    apart = w.apart;
    inside = w.inside;
    climbs = w.climbs;
    kept = w.kept;
    begun = w.begun;
    seen = λ j h. ⊎_elim (w.seen j) (λ x. subst (Contains order) (is ∙ x) (w.sorted.done to done)) (Contains-push_cases (take next (get_or rows at [])) (get_or (get_or rows at []) next 0) j (subst (λ l. Contains l j) (take_more (get_or rows at []) next 0 more) h));
  }

  climb : (ss : List Step) (a i : ℕ) → Climbs rows order a ss → Contains (on_way a ss) i → (a ≡ i) ⊎ Reaches (Leads rows) i a
  climb [] a i c h = ⊎_elim (λ e. inl e) (λ h. absurd (nothing h)) (head_or_tail a [] i h)
  climb (s ∷ ss) a i c h = ⊎_elim (λ e. inl e) (λ h. inr (⊎_elim (λ e. subst (λ n. Reaches (Leads rows) n a) e (one c.1)) (λ r. Reaches-push r c.1) (climb ss s.at i c.2 h))) (head_or_tail a (on_way s.at ss) i h)

  -- one step back to a position on the way
  pub Walking-cycle : (to : ℕ) → next < length (get_or rows at []) → to ≡ get_or (get_or rows at []) next 0 → mark_at marks to ≡ Open → Reaches (Leads rows) to to
  Walking-cycle to more is is_open =
      let leads : Leads rows at to = (next, more, get_or_default (get_or rows at []) next to 0 more ∙ sym is) in
      ⊎_elim (λ e. subst (λ n. Reaches (Leads rows) n to) e (one leads)) (λ r. Reaches-push r leads) (climb steps at to w.climbs (w.on to is_open))

  module _ (over : length (get_or rows at []) ≤ next) where
    inside : at < length marks
    inside = omega (arith, w.inside.0, w.sorted.long)

    not_yet : Contains order at → ⊥
    not_yet h = open_done w.opens.0 (w.sorted.marked at h)

    finished : Sorted rows (set marks at Done) (order ++ at ∷ [])
    finished = record {
      long = length-set marks at Done ∙ w.sorted.long;
      within = All-push (λ i. i < length rows) order at w.sorted.within w.inside.0;
      apart = all_pairs_push (λ i j. i ≡ j → ⊥) order at w.sorted.apart (λ k d l e. not_yet (k, l, get_or_default order k at d l ∙ e));
      behind = behind;
      done = λ i h. ⊎_elim (λ same. subst (Contains (order ++ at ∷ [])) (sym same) (Contains-push order at)) (λ other. Contains-append_left order (at ∷ []) i (w.sorted.done i (sym (get_or-set_other marks at i Done New other) ∙ h))) (cases_eq i at);
      marked = λ i h. ⊎_elim (λ x. get_or-set_other marks at i Done New (λ same. not_yet (subst (Contains order) same x)) ∙ w.sorted.marked i x) (λ x. ap (mark_at (set marks at Done)) (sym x) ∙ get_or-set_same marks at Done New inside) (Contains-push_cases order at i h);
    } where
      behind : (k j : ℕ) → k < length (order ++ at ∷ []) → Leads rows (get_or (order ++ at ∷ []) k 0) j → Contains (take k (order ++ at ∷ [])) j
      behind k j l h = ⊎_elim
          (λ e. subst (λ l. Contains l j) (sym (ap (λ n. take n (order ++ at ∷ [])) e ∙ take-append-le (length order) order (at ∷ []) (omega arith) ∙ take_all (length order) order (omega arith)))
          (w.seen j (subst (λ l. Contains l j) (sym (take_all next (get_or rows at []) over)) (subst (λ n. Leads rows n j) (get_or_push order at 0 k (sym e)) h))))
          (λ n. let low : k < length order = omega (arith, l, n, length_push order at) in
          subst (λ l. Contains l j) (sym (take-append-le k order (at ∷ []) (omega (arith, low)))) (w.sorted.behind k j low (subst (λ n. Leads rows n j) (get_or_append_left order (at ∷ []) 0 k low) h)))
          (cases_eq k (length order))

    later : (i : ℕ) → Contains order i → Contains (order ++ at ∷ []) i
    later i h = Contains-append_left order (at ∷ []) i h

    climbs_later : (ss : List Step) (a : ℕ) → Climbs rows order a ss → Climbs rows (order ++ at ∷ []) a ss
    climbs_later [] a c = tt
    climbs_later (s ∷ ss) a c = ((λ j h. ⊎_elim (λ x. inl (later j x)) (λ x. inr x) (c.0 j h)), c.1, climbs_later ss s.at c.2)

    -- back to the position before
    pub Walking-back : (s : Step) (steps' : List Step) (marks' : List Mark) (order' : List ℕ) → steps ≡ s ∷ steps' → marks' ≡ set marks at Done → order' ≡ order ++ at ∷ [] → Walking rows old start marks' order' steps' s.at s.next
    Walking-back s steps' marks' order' popped set_it pushed =
        let open' : AllByRecursion (λ i. mark_at marks i ≡ Open) (on_way at (s ∷ steps')) = subst (λ ss. AllByRecursion (λ i. mark_at marks i ≡ Open) (on_way at ss)) popped w.opens in
        let apart' : Apart (on_way at (s ∷ steps')) = subst (λ ss. Apart (on_way at ss)) popped w.apart in
        let inside' : AllByRecursion (λ i. i < length rows) (on_way at (s ∷ steps')) = subst (λ ss. AllByRecursion (λ i. i < length rows) (on_way at ss)) popped w.inside in
        let climbs' : Climbs rows (order ++ at ∷ []) at (s ∷ steps') = subst (Climbs rows (order ++ at ∷ []) at) popped (climbs_later steps at w.climbs) in
        let on' : (i : ℕ) → mark_at marks i ≡ Open → Contains (on_way at (s ∷ steps')) i = λ i h. subst (λ ss. Contains (on_way at ss) i) popped (w.on i h) in
        let begun' : Contains order start ⊎ Contains (on_way at (s ∷ steps')) start = subst (λ ss. Contains order start ⊎ Contains (on_way at ss) start) popped w.begun in
        subst (λ m. Walking rows old start m order' steps' s.at s.next) (sym set_it) (subst (λ o. Walking rows old start (set marks at Done) o steps' s.at s.next) (sym pushed) (record {
          sorted = finished;
          opens = both (on_way s.at steps') (λ i o d. get_or-set_other marks at i Done New (λ same. d (sym same)) ∙ o) open'.1 apart'.0;
          on = λ i h. ⊎_elim (λ same. absurd (open_done (sym (ap (mark_at (set marks at Done)) same) ∙ h) (get_or-set_same marks at Done New inside)))
              (λ other. ⊎_elim (λ e. absurd (other (sym e))) (λ x. x) (head_or_tail at (on_way s.at steps') i (on' i (sym (get_or-set_other marks at i Done New other) ∙ h)))) (cases_eq i at);
          apart = apart'.1;
          inside = inside'.1;
          climbs = climbs'.2;
          seen = λ j h. ⊎_elim (λ x. x) (λ e. subst (Contains (order ++ at ∷ [])) e (Contains-push order at)) (climbs'.0 j h);
          kept = λ i h. later i (w.kept i h);
          begun = ⊎_elim (λ h. inl (later start h)) (λ h. ⊎_elim (λ e. inl (subst (Contains (order ++ at ∷ [])) e (Contains-push order at))) (λ x. inr x) (head_or_tail at (on_way s.at steps') start h)) begun';
        }))

    -- the start was the last
    pub Walking-end : (marks' : List Mark) (order' : List ℕ) → steps ≡ [] → marks' ≡ set marks at Done → order' ≡ order ++ at ∷ [] → SortedMore rows old start marks' order'
    Walking-end marks' order' none set_it pushed = subst (λ m. SortedMore rows old start m order') (sym set_it) (subst (λ o. SortedMore rows old start (set marks at Done) o) (sym pushed) (record {
      sorted = finished;
      closed = λ i h. ⊎_elim (λ same. open_done (sym (ap (mark_at (set marks at Done)) same) ∙ h) (get_or-set_same marks at Done New inside))
          (λ other. ⊎_elim (λ e. other (sym e)) (λ x. nothing x) (head_or_tail at [] i (subst (λ ss. Contains (on_way at ss) i) none (w.on i (sym (get_or-set_other marks at i Done New other) ∙ h))))) (cases_eq i at);
      kept = λ i h. later i (w.kept i h);
      has = ⊎_elim (λ h. later start h) (λ h. ⊎_elim (λ e. subst (Contains (order ++ at ∷ [])) e (Contains-push order at)) (λ x. absurd (nothing x)) (head_or_tail at [] start (subst (λ ss. Contains (on_way at ss) start) none h))) w.begun;
    }))

-- what stands on the way after a push and before a pop
pub pushed-way : (path path' : List Step) (s : Step) → path' ≡ path ++ s ∷ [] → reverse path' ≡ s ∷ reverse path
pushed-way path path' s is = ap reverse is ∙ reverse-append path (s ∷ [])

remaining : (m : Mark) → (m ≡ New → ⊥) → (m ≡ Open → ⊥) → m ≡ Done
remaining New not_new not_open = absurd (not_new refl)
remaining Open not_new not_open = absurd (not_open refl)
remaining Done not_new not_open = refl

-- the positions below `start` are in order
pub record SortedTo (rows : List (List ℕ)) (start : ℕ) (marks : List Mark) (order : List ℕ) : Type 0 where
  pub sorted : Sorted rows marks order
  pub closed : (i : ℕ) → mark_at marks i ≡ Open → ⊥
  pub has : (i : ℕ) → i < start → Contains order i

all_new : (n i : ℕ) → mark_at (replicate n New) i ≡ New
all_new zero i = refl
all_new (suc n) zero = refl
all_new (suc n) (suc i) = all_new n i

pub SortedTo-start : {rows : List (List ℕ)} (marks : List Mark) (order : List ℕ) → marks ≡ replicate (length rows) New → order ≡ [] → SortedTo rows 0 marks order
SortedTo-start {rows} marks order fresh none = subst (λ m. SortedTo rows 0 m order) (sym fresh) (subst (λ o. SortedTo rows 0 (replicate (length rows) New) o) (sym none) (record {
  sorted = record {
    long = length-replicate (length rows) New;
    within = λ k d l. absurd (omega arith);
    apart = λ i j d l m. absurd (omega arith);
    behind = λ k j l h. absurd (omega arith);
    done = λ i h. absurd (new_done (all_new (length rows) i) h);
    marked = λ i h. absurd (nothing h);
  };
  closed = λ i h. new_open (all_new (length rows) i) h;
  has = λ i l. absurd (omega arith);
}))

module _ {rows : List (List ℕ)} {start : ℕ} {marks : List Mark} {order : List ℕ} (s : SortedTo rows start marks order) where
  pub SortedTo-next : {marks' : List Mark} {order' : List ℕ} → SortedMore rows order start marks' order' → SortedTo rows (start + 1) marks' order'
  SortedTo-next m = record {
    sorted = m.sorted;
    closed = m.closed;
    has = λ i l. ⊎_elim (λ e. subst (Contains _) (sym e) m.has) (λ n. m.kept i (s.has i (omega arith))) (cases_eq i start);
  }

  pub SortedTo-known : (mark_at marks start ≡ New → ⊥) → SortedTo rows (start + 1) marks order
  SortedTo-known old = let done = remaining (mark_at marks start) old (s.closed start) in record {
    sorted = s.sorted;
    closed = s.closed;
    has = λ i l. ⊎_elim (λ e. subst (Contains order) (sym e) (s.sorted.done start done)) (λ n. s.has i (omega arith)) (cases_eq i start);
  }

  pub SortedTo-end : length rows ≤ start → IsOrder rows order
  SortedTo-end all = record {
    within = s.sorted.within;
    apart = s.sorted.apart;
    whole = λ i l. s.has i (omega arith);
    behind = s.sorted.behind;
  }
