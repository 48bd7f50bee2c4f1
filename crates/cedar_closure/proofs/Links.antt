-- SPDX-License-Identifier: Apache-2.0
-- A loop that adds an edge to each key whose position was found.
use Rattle.std.proofs.Common.{◌≡◌, ℕ, ◌+◌, ◌<◌, ◌≤◌, ◌↔◌, ◌⊎◌, All, Bool, true, false, cond, List, [], ◌∷◌, ◌++◌, length, get_or, Some, Option, Contains, refl, sym, ap, ◌∙◌, subst, inl, inr, ⊎_elim, arith}
use Rattle.std.proofs.lemmas.Bool.{cases_Bool}
use Rattle.std.proofs.lemmas.Cmp.{eq_by_cmp_equiv}
use Rattle.std.proofs.lemmas.List.Elements.{All-weaker, Contains-append_left, Contains-push, Contains-push_cases}
use Rattle.std.proofs.lemmas.List.Quantifiers.{position-Some}
use Rattle.std.specs.declared.cmp.Ordering.{Ordering}
use Rattle.std.specs.BTreeMap.{is_at}
use Rattle.std.specs.Cmp.{IsTotalOrder}
use Rattle.std.specs.List.Sorted.{IsStrictlySortedBy}
use Rattle.std.specs.Option.{IsSomeAnd}
use Rattle.cedar_names.specs.of_data.Sets.{contains, Adds}
use Rattle.cedar_closure.specs.Chains.{Reaches}
use Rattle.cedar_closure.specs.Marks.{Leads}
use Rattle.cedar_closure.specs.Places.{place}
use Rattle.cedar_closure.proofs.KeyChains.{some_parts, some_and}
use Rattle.cedar_closure.proofs.PlaceLemmas.{place-of}

-- what the one value of an option has
pub at_some : {A : Type 0} {o : Option A} (P : A → Type 0) {x : A} → o ≡ Some x → IsSomeAnd o P → P x
at_some P is h = subst (λ q. IsSomeAnd q P) is h

-- from a key with a position, a chain of rows leads to the keys of its row, and to those whose positions were found beyond it
pub chained_beyond : (rows : List (List ℕ)) (further : List ℕ) (at : ℕ) (a b : Option ℕ) → a ≡ Some at → ((j : ℕ) → (Leads rows at j ⊎ Contains further j) ↔ Reaches (Leads rows) at j)
    → (IsSomeAnd a (λ i. IsSomeAnd b (λ j. Leads rows i j)) ⊎ IsSomeAnd b (Contains further)) ↔ IsSomeAnd a (λ i. IsSomeAnd b (λ j. Reaches (Leads rows) i j))
chained_beyond rows further at a b is reached = (λ h. ⊎_elim direct beyond h, from)
  where
    chain : (j : ℕ) → b ≡ Some j → (Leads rows at j ⊎ Contains further j) → IsSomeAnd a (λ i. IsSomeAnd b (λ j. Reaches (Leads rows) i j))
    chain j here h = some_and a (λ i. IsSomeAnd b (λ j. Reaches (Leads rows) i j)) at is (some_and b (λ j. Reaches (Leads rows) at j) j here ((reached j).0 h))

    direct : IsSomeAnd a (λ i. IsSomeAnd b (λ j. Leads rows i j)) → IsSomeAnd a (λ i. IsSomeAnd b (λ j. Reaches (Leads rows) i j))
    direct h = let (j, here, leads) = some_parts b (λ j. Leads rows at j) (at_some (λ i. IsSomeAnd b (λ j. Leads rows i j)) is h) in chain j here (inl leads)

    beyond : IsSomeAnd b (Contains further) → IsSomeAnd a (λ i. IsSomeAnd b (λ j. Reaches (Leads rows) i j))
    beyond h = let (j, here, c) = some_parts b (Contains further) h in chain j here (inr c)

    from : IsSomeAnd a (λ i. IsSomeAnd b (λ j. Reaches (Leads rows) i j)) → IsSomeAnd a (λ i. IsSomeAnd b (λ j. Leads rows i j)) ⊎ IsSomeAnd b (Contains further)
    from h =
        let (j, here, way) = some_parts b (λ j. Reaches (Leads rows) at j) (at_some (λ i. IsSomeAnd b (λ j. Reaches (Leads rows) i j)) is h) in ⊎_elim
        (λ x. inl (some_and a (λ i. IsSomeAnd b (λ j. Leads rows i j)) at is (some_and b (λ j. Leads rows at j) j here x)))
        (λ x. inr (some_and b (Contains further) j here x))
        ((reached j).1 way)

-- marks that were early enough still are
pub marks_later : (o : Option ℕ) (marks : List ℕ) → IsSomeAnd o (λ at. All (λ mark. mark ≤ at) marks) → IsSomeAnd o (λ at. All (λ mark. mark ≤ at + 1) marks)
marks_later o marks h =
    let (at, is, all) = some_parts o (λ at. All (λ mark. mark ≤ at) marks) h in
    some_and o (λ at. All (λ mark. mark ≤ at + 1) marks) at is (All-weaker (λ mark. mark ≤ at) (λ mark. mark ≤ at + 1) (λ mark l. omega arith) marks all)

-- one of two, the second of which is to be either a case of the first or another
pub either_beyond : {N A B C D : Type 0} → N ↔ (A ⊎ B) → (D → A) → (D ⊎ B) ↔ C → N ↔ (A ⊎ C)
either_beyond n own e = (λ x. ⊎_elim (λ a. inl a) (λ b. inr (e.0 (inr b))) (n.0 x), λ x. n.1 (⊎_elim (λ a. inl a) (λ c. ⊎_elim (λ d. inl (own d)) (λ b. inr b) (e.1 c)) x))

-- the new edges are the old ones, and those to the keys whose positions were seen
pub record Linked {K : Type 0} (cmp : K → K → Ordering) (keys : List K) (seen : List ℕ) (old new : List K) : Type 0 where
  pub leads : (to : K) → (contains cmp new to ≡ true) ↔ ((contains cmp old to ≡ true) ⊎ IsSomeAnd (place cmp keys to) (Contains seen))

both_true : (b : Bool) → cond b true true ≡ true
both_true true = refl
both_true false = refl

not_in_nil : (j : ℕ) → Contains [] j → ⊥
not_in_nil j (k, below, is) = omega arith

module _ {K : Type 0} {cmp : K → K → Ordering} (total : IsTotalOrder cmp) where
  -- before the first
  pub Linked-start : (keys old : List K) → Linked cmp keys [] old old
  Linked-start keys old = record { leads = λ to. (λ h. inl h, λ h. ⊎_elim (λ x. x) (λ x. let (j, is, none) = some_parts (place cmp keys to) (Contains []) x in absurd (not_in_nil j none)) h) }

  -- one more
  pub Linked-next : {keys : List K} {seen : List ℕ} {old mid new : List K} (at : ℕ) (key : K) → IsStrictlySortedBy cmp keys → Linked cmp keys seen old mid → at < length keys → key ≡ get_or keys at key → Adds cmp mid new key → Linked cmp keys (seen ++ at ∷ []) old new
  Linked-next {keys} {seen} {old} {mid} {new} at key sorted sofar inside is adds = record { leads = λ to. (go to, back to) }
    where
      here : (to : K) → is_at (cmp key) to ≡ true → place cmp keys to ≡ Some at
      here to h = place-of total keys to at key sorted inside (subst (λ k. is_at (cmp k) to ≡ true) is h)

      go : (to : K) → contains cmp new to ≡ true → (contains cmp old to ≡ true) ⊎ IsSomeAnd (place cmp keys to) (Contains (seen ++ at ∷ []))
      go to h = ⊎_elim
          (λ e. inr (some_and (place cmp keys to) (Contains (seen ++ at ∷ [])) at (here to e) (Contains-push seen at)))
          (λ n. ⊎_elim (λ x. inl x) (λ x. let (j, found, c) = some_parts (place cmp keys to) (Contains seen) x in inr (some_and (place cmp keys to) (Contains (seen ++ at ∷ [])) j found (Contains-append_left seen (at ∷ []) j c)))
          ((sofar.leads to).0 (ap (λ b. cond b true (contains cmp mid to)) (sym n) ∙ sym (adds to) ∙ h)))
          (cases_Bool (is_at (cmp key) to))

      keep : (to : K) → contains cmp mid to ≡ true → contains cmp new to ≡ true
      keep to h = adds to ∙ ap (λ m. cond (is_at (cmp key) to) true m) h ∙ both_true (is_at (cmp key) to)

      equal : (to : K) → place cmp keys to ≡ Some at → is_at (cmp key) to ≡ true
      equal to h = (eq_by_cmp_equiv total).symm key to ∙ ap (is_at (cmp to)) is ∙ (position-Some (is_at (cmp to)) keys at key h).1

      back : (to : K) → (contains cmp old to ≡ true) ⊎ IsSomeAnd (place cmp keys to) (Contains (seen ++ at ∷ [])) → contains cmp new to ≡ true
      back to h = ⊎_elim
          (λ x. keep to ((sofar.leads to).1 (inl x)))
          (λ x. let (j, found, c) = some_parts (place cmp keys to) (Contains (seen ++ at ∷ [])) x in ⊎_elim
          (λ y. keep to ((sofar.leads to).1 (inr (some_and (place cmp keys to) (Contains seen) j found y))))
          (λ y. adds to ∙ ap (λ b. cond b true (contains cmp mid to)) (equal to (found ∙ ap Some (sym y))))
          (Contains-push_cases seen at j c))
          h
