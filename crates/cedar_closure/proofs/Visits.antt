-- SPDX-License-Identifier: Apache-2.0
-- Steps of a search over positions.
use Rattle.std.proofs.Common.{◌≡◌, ℕ, ◌+◌, ◌<◌, ◌≤◌, ◌⊎◌, ◌↔◌, Bool, cond, List, [], ◌∷◌, ◌++◌, length, get_or, drop, set, not, eqb, All, Contains, refl, sym, ap, ◌∙◌, subst, inl, inr, ⊎_elim, arith, append_assoc, ◌-◌}
use Rattle.std.proofs.lemmas.Bool.{cases_eq, eq-eqb, ne_eqb}
use Rattle.std.proofs.lemmas.List.{append-nil, length-set, length_push, get_or-set_same, get_or-set_other, get_or_default, get_or_append_left, length-append, drop-append-le, drop_all}
use Rattle.std.proofs.lemmas.List.Elements.{All-push, All-set, All-contains, Contains-get_or, Contains-append_left, Contains-append_right, Contains-append_cases, Contains-push, Contains-push_cases}
use Rattle.std.proofs.lemmas.List.Sorted.{Contains-permutation, IsPermutation-sym}
use Rattle.std.specs.List.Sorted.{IsPermutation}
use Rattle.std.proofs.lemmas.List.Sums.{sum_by-set}
use Rattle.cedar_closure.specs.Chains.{Reaches, one}
use Rattle.cedar_closure.specs.Marks.{Leads, Told, Visited, unmarked}
use Rattle.cedar_closure.proofs.ChainLaws.{Reaches-push, Reaches-along}

not_in_nil : (j : ℕ) → Contains [] j → ⊥
not_in_nil j (k, below, is) = omega arith

-- the same, where the lists are written otherwise
pub Visited-same : {stamp : ℕ} {row row' marks found found0 marks' marks'' found' found'' : List ℕ} → row' ≡ row → found0 ≡ found → marks'' ≡ marks' → found'' ≡ found' → Visited stamp row marks found marks' found' → Visited stamp row' marks found0 marks'' found''
Visited-same {stamp} {row} {row'} {marks} {found} {found0} {marks'} {marks''} {found'} {found''} r b m f v =
    subst (λ l. Visited stamp l marks found0 marks'' found'') (sym r) (subst (λ l. Visited stamp row marks l marks'' found'') (sym b) (subst (λ l. Visited stamp row marks found l found'') (sym m) (subst (λ l. Visited stamp row marks found marks' l) (sym f) v)))

-- before the first position of a row
pub Visited-none : (stamp : ℕ) (marks found : List ℕ) → Told stamp marks found → Visited stamp [] marks found marks found
Visited-none stamp marks found told = record {
  told = told;
  others = [];
  behind = sym (append-nil found);
  holds = λ j. (λ h. inl h, λ h. ⊎_elim (λ x. x) (λ x. absurd (not_in_nil j x)) h);
  count = refl;
  as_long = refl;
}

-- a position that is marked
pub Visited-again : {stamp : ℕ} {seen marks found marks' found' : List ℕ} (j : ℕ) → Visited stamp seen marks found marks' found' → j < length marks' → get_or marks' j 0 ≡ stamp → Visited stamp (seen ++ j ∷ []) marks found marks' found'
Visited-again {stamp} {seen} {marks} {found} {marks'} {found'} j v below is = record {
  told = v.told;
  others = v.others;
  behind = v.behind;
  holds = λ k. (to k, from k);
  count = v.count;
  as_long = v.as_long;
}
  where
    to : (k : ℕ) → Contains found' k → Contains found k ⊎ Contains (seen ++ j ∷ []) k
    to k h = ⊎_elim (λ x. inl x) (λ x. inr (Contains-append_left seen (j ∷ []) k x)) ((v.holds k).0 h)

    from : (k : ℕ) → Contains found k ⊎ Contains (seen ++ j ∷ []) k → Contains found' k
    from k h = ⊎_elim (λ x. (v.holds k).1 (inl x)) (λ x. ⊎_elim (λ y. (v.holds k).1 (inr y)) (λ y. subst (λ (p : ℕ). Contains found' p) y ((v.told.marked j below).0 is)) (Contains-push_cases seen j k x)) h

-- what a new mark does to the count
unmarked-set : (stamp : ℕ) (marks : List ℕ) (j : ℕ) → j < length marks → (get_or marks j 0 ≡ stamp → ⊥) → unmarked stamp (set marks j stamp) + 1 ≡ unmarked stamp marks
unmarked-set stamp marks j below other =
    let one : Bool → ℕ = λ b. cond (not b) 1 0 in
    let step = sum_by-set (λ mark. one (eqb mark stamp)) marks j stamp 0 below in
    let new : one (eqb stamp stamp) ≡ 0 = ap one (eq-eqb stamp stamp refl) in
    let old : one (eqb (get_or marks j 0) stamp) ≡ 1 = ap one (ne_eqb (get_or marks j 0) stamp other) in
    omega (arith, step, new, old)

told-new : (stamp : ℕ) (marks found : List ℕ) (j : ℕ) → Told stamp marks found → j < length marks → Told stamp (set marks j stamp) (found ++ j ∷ [])
told-new stamp marks found j told below = record {
  within = λ k d l. rw length-set (All-push (λ p. p < length marks) found j told.within below k d l);
  marked = λ k l. (to k (subst (λ n. k < n) (length-set marks j stamp) l), from k (subst (λ n. k < n) (length-set marks j stamp) l));
  latest = All-set (λ mark. mark ≤ stamp) marks j stamp (omega arith) told.latest;
}
  where
    to : (k : ℕ) → k < length marks → get_or (set marks j stamp) k 0 ≡ stamp → Contains (found ++ j ∷ []) k
    to k l h = ⊎_elim
        (λ e. subst (λ p. Contains (found ++ j ∷ []) p) (sym e) (Contains-push found j))
        (λ n. Contains-append_left found (j ∷ []) k ((told.marked k l).0 (sym (get_or-set_other marks j k stamp 0 n) ∙ h)))
        (cases_eq k j)

    from : (k : ℕ) → k < length marks → Contains (found ++ j ∷ []) k → get_or (set marks j stamp) k 0 ≡ stamp
    from k l h = ⊎_elim
        (λ e. ap (λ p. get_or (set marks j stamp) p 0) e ∙ get_or-set_same marks j stamp 0 below)
        (λ n. get_or-set_other marks j k stamp 0 n ∙ (told.marked k l).1 (⊎_elim (λ x. x) (λ e. absurd (n (sym e))) (Contains-push_cases found j k h)))
        (cases_eq k j)

-- a position that isn't marked
pub Visited-new : {stamp : ℕ} {seen marks found marks' found' : List ℕ} (j : ℕ) → Visited stamp seen marks found marks' found' → j < length marks' → (get_or marks' j 0 ≡ stamp → ⊥) → Visited stamp (seen ++ j ∷ []) marks found (set marks' j stamp) (found' ++ j ∷ [])
Visited-new {stamp} {seen} {marks} {found} {marks'} {found'} j v below other = record {
  told = told-new stamp marks' found' j v.told below;
  others = v.others ++ j ∷ [];
  behind = ap (λ l. l ++ j ∷ []) v.behind ∙ append_assoc found v.others (j ∷ []);
  holds = λ k. (to k, from k);
  count = omega (arith, unmarked-set stamp marks' j below other, length_push found' j, v.count);
  as_long = length-set marks' j stamp ∙ v.as_long;
}
  where
    to : (k : ℕ) → Contains (found' ++ j ∷ []) k → Contains found k ⊎ Contains (seen ++ j ∷ []) k
    to k h = ⊎_elim (λ x. ⊎_elim (λ y. inl y) (λ y. inr (Contains-append_left seen (j ∷ []) k y)) ((v.holds k).0 x)) (λ x. inr (subst (λ (p : ℕ). Contains (seen ++ j ∷ []) p) x (Contains-push seen j))) (Contains-push_cases found' j k h)

    from : (k : ℕ) → Contains found k ⊎ Contains (seen ++ j ∷ []) k → Contains (found' ++ j ∷ []) k
    from k h = ⊎_elim (λ x. Contains-append_left found' (j ∷ []) k ((v.holds k).1 (inl x))) (λ x. ⊎_elim (λ y. Contains-append_left found' (j ∷ []) k ((v.holds k).1 (inr y))) (λ y. subst (λ (p : ℕ). Contains (found' ++ j ∷ []) p) y (Contains-push found' j)) (Contains-push_cases seen j k x)) h

pub All-from_contains : (P : ℕ → Type 0) (xs : List ℕ) → ((j : ℕ) → Contains xs j → P j) → All P xs
All-from_contains P xs h = λ k d l. h (get_or xs k d) (Contains-get_or xs k d l)

-- a search from `start` that has visited the rows of the first `next` positions that it found, the first of which are those of the row at `start`
pub record Searched (rows : List (List ℕ)) (stamp start : ℕ) (first : List ℕ) (next : ℕ) (marks found : List ℕ) : Type 0 where
  pub told : Told stamp marks found
  pub as_long : length marks ≡ length rows
  pub next_within : next ≤ length found
  pub direct : (j : ℕ) → Contains first j ↔ Leads rows start j
  pub others : List ℕ
  pub behind : found ≡ first ++ others
  pub reached : All (Reaches (Leads rows) start) found
  pub closed : (k j : ℕ) → k < next → Leads rows (get_or found k 0) j → Contains found j

-- the row of the start was visited
pub Searched-start : {rows : List (List ℕ)} {stamp start : ℕ} {marks marks' found' : List ℕ} → length marks ≡ length rows → Visited stamp (get_or rows start []) marks [] marks' found' → Searched rows stamp start found' 0 marks' found'
Searched-start {rows} {stamp} {start} {marks} {marks'} {found'} long v = record {
  told = v.told;
  as_long = v.as_long ∙ long;
  next_within = omega arith;
  direct = λ j. (only j, λ h. (v.holds j).1 (inr h));
  others = [];
  behind = sym (append-nil found');
  reached = All-from_contains (Reaches (Leads rows) start) found' (λ j h. one (only j h));
  closed = λ k j l h. absurd (omega arith);
}
  where
    only : (j : ℕ) → Contains found' j → Leads rows start j
    only j h = ⊎_elim (λ x. absurd (not_in_nil j x)) (λ x. x) ((v.holds j).0 h)

-- one row more
pub Searched-next : {rows : List (List ℕ)} {stamp start next : ℕ} {first marks found marks' found' : List ℕ} → Searched rows stamp start first next marks found → next < length found → Visited stamp (get_or rows (get_or found next 0) []) marks found marks' found' → Searched rows stamp start first (next + 1) marks' found'
Searched-next {rows} {stamp} {start} {next} {first} {marks} {found} {marks'} {found'} s l v = record {
  told = v.told;
  as_long = v.as_long ∙ s.as_long;
  next_within = subst (λ f. next + 1 ≤ length f) (sym v.behind) (omega (arith, length-append found v.others));
  direct = s.direct;
  others = s.others ++ v.others;
  behind = v.behind ∙ ap (λ f. f ++ v.others) s.behind ∙ append_assoc first s.others v.others;
  reached = All-from_contains (Reaches (Leads rows) start) found' (λ j h. ⊎_elim
      (λ x. All-contains (Reaches (Leads rows) start) found j s.reached x)
      (λ x. Reaches-push (s.reached next 0 l) x) ((v.holds j).0 h));
  closed = λ k j below h. closed k j below (subst (λ n. Leads rows n j) (same k below) h);
}
  where
    same : (k : ℕ) → k < next + 1 → get_or found' k 0 ≡ get_or found k 0
    same k below = ap (λ f. get_or f k 0) v.behind ∙ get_or_append_left found v.others 0 k (omega arith)

    closed : (k j : ℕ) → k < next + 1 → Leads rows (get_or found k 0) j → Contains found' j
    closed k j below h = ⊎_elim
        (λ e. (v.holds j).1 (inr (subst (λ n. Leads rows (get_or found n 0) j) e h)))
        (λ n. (v.holds j).1 (inl (s.closed k j (omega arith) h)))
        (cases_eq k next)

-- each row leaves fewer positions to be found or visited
pub Visited-fewer : {stamp : ℕ} {row marks found marks' found' : List ℕ} (next : ℕ) → Visited stamp row marks found marks' found' → next < length found → unmarked stamp marks' + (length found' - (next + 1)) < unmarked stamp marks + (length found - next)
Visited-fewer {found = found} next v l = omega (arith, v.count, ap length v.behind, length-append found v.others)

-- after the last row
module _ {rows : List (List ℕ)} {stamp start next : ℕ} {first marks found : List ℕ} (s : Searched rows stamp start first next marks found) (all : length found ≤ next) where
  on : (b c : ℕ) → Contains found b → Leads rows b c → Contains found c
  on b c (k, l, is) step = s.closed k c (omega arith) (subst (λ n. Leads rows n c) (sym is ∙ get_or_default found k b 0 l) step)

  begun : (j : ℕ) → Leads rows start j → Contains found j
  begun j h = subst (λ f. Contains f j) (sym s.behind) (Contains-append_left first s.others j ((s.direct j).1 h))

  -- what was found beyond the row of the start, in another order, and that row
  pub Searched-end : (further : List ℕ) → IsPermutation s.others further → (j : ℕ) → (Leads rows start j ⊎ Contains further j) ↔ Reaches (Leads rows) start j
  Searched-end further moved j = (to, λ chain. from (Contains-append_cases first s.others j (subst (λ f. Contains f j) s.behind (Reaches-along (Contains found) on begun chain))))
    where
      to : Leads rows start j ⊎ Contains further j → Reaches (Leads rows) start j
      to h = ⊎_elim (λ x. one x) (λ x. All-contains (Reaches (Leads rows) start) found j s.reached
          (subst (λ f. Contains f j) (sym s.behind) (Contains-append_right first s.others j (Contains-permutation further s.others j (IsPermutation-sym s.others further moved) x)))) h

      from : Contains first j ⊎ Contains s.others j → Leads rows start j ⊎ Contains further j
      from h = ⊎_elim (λ x. inl ((s.direct j).0 x)) (λ x. inr (Contains-permutation s.others further j moved x)) h

-- what stands behind the first
pub drop_first : (n : ℕ) (found first others : List ℕ) → n ≡ length first → found ≡ first ++ others → drop n found ≡ others
drop_first n found first others is split = ap (drop n) split ∙ drop-append-le n first others (omega arith) ∙ ap (λ l. l ++ others) (drop_all n first (omega arith))
