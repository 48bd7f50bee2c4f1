-- SPDX-License-Identifier: Apache-2.0
-- A loop that looks for the first item that is equal to one before it.
use Rattle.std.proofs.Common.{◌≡◌, ◌++◌, ◌||◌, Bool, true, false, cond, List, [], ◌∷◌, not, refl, inl, inr, sym, ap, ◌∙◌, subst}
use Rattle.std.proofs.lemmas.List.Folds.{list_any-append}
use Rattle.std.specs.BTreeMap.{is_at}
use Rattle.std.specs.List.{list_any}
use Rattle.std.specs.declared.cmp.Ordering.{Ordering}
use Rattle.cedar_data.specs.Firsts.{FirstAgain, NoneAgain}
use Rattle.cedar_data.specs.Sets.{Adds, contains}
use Rattle.cedar_duplicates.specs.Declarations.{same_by}

-- a loop over `whole` that has `left` before it has seen these, none of them twice
pub record Sees {K : Type 0} (cmp : K → K → Ordering) (whole left seen : List K) : Type 0 where
  pub before : List K
  pub sees : (k : K) → contains cmp seen k ≡ list_any (same_by cmp k) before
  pub none : NoneAgain (same_by cmp) before left → NoneAgain (same_by cmp) [] whole
  pub first : (y : K) → FirstAgain (same_by cmp) before left y → FirstAgain (same_by cmp) [] whole y

module _ {K : Type 0} (cmp : K → K → Ordering) where
  -- before the first
  pub Sees-start : (whole left seen : List K) → left ≡ whole → seen ≡ [] → Sees cmp whole left seen
  Sees-start whole left seen all none = record {
    before = [];
    sees = λ k. ap (λ s. contains cmp s k) none;
    none = subst (λ l. NoneAgain (same_by cmp) [] l) all;
    first = λ y. subst (λ l. FirstAgain (same_by cmp) [] l y) all;
  }

  or_one : (a b : Bool) → cond a true b ≡ (b || (a || false))
  or_one true true = refl
  or_one true false = refl
  or_one false true = refl
  or_one false false = refl

  not_false : (b : Bool) → true ≡ not b → b ≡ false
  not_false true e = let p : true ≡ false = e in absurd (cc)
  not_false false e = refl

  not_true : (b : Bool) → false ≡ not b → b ≡ true
  not_true true e = refl
  not_true false e = let p : false ≡ true = e in absurd (cc)

  -- one that was not seen
  pub Sees-next : {whole left rest seen more : List K} {next : K} (added : Bool) (copy : K) → Sees cmp whole left seen → left ≡ next ∷ rest → copy ≡ next → added ≡ not (contains cmp seen copy) → added ≡ true → Adds cmp seen more copy → Sees cmp whole rest more
  Sees-next {whole} {left} {rest} {seen} {more} {next} added copy sofar first same is unseen adds =
      let absent : contains cmp seen next ≡ false = ap (contains cmp seen) (sym same) ∙ not_false (contains cmp seen copy) (sym unseen ∙ is) in
      let fresh : list_any (same_by cmp next) sofar.before ≡ false = sym (sofar.sees next) ∙ absent in
      record {
        before = sofar.before ++ next ∷ [];
        sees = λ k. adds k ∙ ap (λ c. cond (is_at (cmp c) k) true (contains cmp seen k)) same
            ∙ ap (cond (is_at (cmp next) k) true) (sofar.sees k)
            ∙ or_one (is_at (cmp next) k) (list_any (same_by cmp k) sofar.before)
            ∙ sym (list_any-append (same_by cmp k) sofar.before (next ∷ []));
        none = λ n. sofar.none (subst (λ l. NoneAgain (same_by cmp) sofar.before l) (sym first) (fresh, n));
        first = λ y f. sofar.first y (subst (λ l. FirstAgain (same_by cmp) sofar.before l y) (sym first) (inr (fresh, f)));
      }

  -- one that was
  pub Sees-again : {whole left rest seen : List K} {next : K} (added : Bool) (copy : K) → Sees cmp whole left seen → left ≡ next ∷ rest → copy ≡ next → added ≡ not (contains cmp seen copy) → added ≡ false → FirstAgain (same_by cmp) [] whole next
  Sees-again {whole} {left} {rest} {seen} {next} added copy sofar first same is there =
      let again : list_any (same_by cmp next) sofar.before ≡ true = sym (sofar.sees next) ∙ ap (contains cmp seen) (sym same) ∙ not_true (contains cmp seen copy) (sym there ∙ is) in
      sofar.first next (subst (λ l. FirstAgain (same_by cmp) sofar.before l next) (sym first) (inl (again, refl)))

  -- after the last
  pub Sees-end : {whole left seen : List K} → Sees cmp whole left seen → left ≡ [] → NoneAgain (same_by cmp) [] whole
  Sees-end sofar none = sofar.none (subst (λ l. NoneAgain (same_by cmp) sofar.before l) (sym none) tt)

pub ruleset seen = (Sees-start, Sees-next, Sees-again, Sees-end)
