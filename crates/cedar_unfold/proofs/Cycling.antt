-- SPDX-License-Identifier: Apache-2.0
-- Chains of references between common types are chains of rows.
use Rattle.std.proofs.Common.{◌≡◌, ℕ, ◌<◌, inl, inr, Bool, List, [], ◌∷◌, Option, Some, None, length, get_or, zero, suc, Contains, ⊎_elim, refl, sym, ap, ◌∙◌, subst, arith}
use Rattle.std.proofs.lemmas.Bool.{cases_eq}
use Rattle.std.proofs.lemmas.List.Elements.{Contains-append_right}
use Rattle.std.proofs.lemmas.Map.Keys.{Less-from_sorted}
use Rattle.std.specs.BTreeMap.{is_at}
use Rattle.std.specs.Bool.{IsTrue}
use Rattle.std.specs.List.{position_or_len}
use Rattle.std.specs.List.Sorted.{IsStrictlySortedBy}
use Rattle.std.specs.Map.{keys_of}
use Rattle.std.specs.Option.{is_some}
use Rattle.std.specs.Ordering.{ordering_reverse}
use Rattle.std.specs.declared.cmp.Ordering.TheVariants.{Less, Equal, Greater}
use Rattle.cedar_types.proofs.of_closure.ChainLaws.{Reaches-map}
use Rattle.cedar_types.specs.of_closure.Chains.{Reaches, one, more}
use Rattle.cedar_types.specs.of_closure.Marks.{Leads}
use Rattle.cedar_data.specs.Firsts.{SomePasses, IsLeast}
use Rattle.cedar_names.proofs.NameOrder.{words_cmp-equal}
use Rattle.cedar_names.specs.Order.{words_cmp}
use Rattle.cedar_schema_error.specs.FullNames.{FullName}
use Rattle.cedar_sorting.specs.Orders.{IsLeastOnCycle}
use Rattle.cedar_sorting.proofs.OrderLaws.{leads_inside}
use Rattle.cedar_unfolding.specs.Meanings.{Meanings, full_meanings, definition_of}
use Rattle.cedar_unfold.specs.Rows.{row_of, written_rows}
use Rattle.cedar_unfold.specs.Tables.{place_of}
use Rattle.cedar_unfolding.specs.UnfoldPhases.{Refers, IsCircular}
use Rattle.cedar_unfolding.specs.Written.{Written, common_references}
use Rattle.cedar_unfold.proofs.FollowingLemmas.{same_inside}
use Rattle.cedar_unfold.proofs.Positions.{names_total, filter-to, filter-from, placed, at_place, value_at, row, length_names, length_rows, no_definition}

-- some reference has this target, where each is its own
some-contains : (rs : List FullName) (name : FullName) → SomePasses (λ r. Some r ≡ Some name) rs → Contains rs name
some-contains [] name s = absurd s
some-contains (r ∷ rs) name s = ⊎_elim (λ e. (0, omega arith, same_inside r name e)) (λ rest. Contains-append_right (r ∷ []) rs name (some-contains rs name rest)) s

contains-some : (rs : List FullName) (name : FullName) → Contains rs name → SomePasses (λ r. Some r ≡ Some name) rs
contains-some [] name (k, l, e) = absurd (omega (arith, l))
contains-some (r ∷ rs) name (zero, l, e) = inl (ap Some e)
contains-some (r ∷ rs) name (suc k, l, e) = inr (contains-some rs name (k, omega (arith, l), e))

there : {A : Type 0} (o : Option A) → IsTrue (is_some o) → (x : A) × (o ≡ Some x)
there None h = absurd cc
there (Some x) h = (x, refl)

less_equal : Less ≡ Equal → ⊥
less_equal is = absurd cc

less_greater : Less ≡ Greater → ⊥
less_greater is = absurd cc

module _ (definitions : List (FullName × Written FullName)) (is_extension : List ℕ → Bool) (sorted : IsStrictlySortedBy words_cmp (keys_of definitions)) where
  abbrev m : Meanings FullName
  m = full_meanings definitions is_extension

  abbrev names : List FullName
  names = keys_of definitions

  abbrev rows : List (List ℕ)
  rows = written_rows names definitions

  at : FullName → ℕ
  at name = position_or_len (is_at (words_cmp name)) names

  stands : (name : FullName) (t : Written FullName) → definition_of m name ≡ Some t → (at name < length names) × (name ≡ get_or names (at name) [])
  unfolding at
  stands name t defined = at_place definitions name (at name) (placed definitions name t defined)

  definition_is : (name : FullName) (t : Written FullName) → definition_of m name ≡ Some t → (get_or definitions (at name) no_definition).1 ≡ t
  definition_is name t defined =
      let (inside, same) = stands name t defined in
      same_inside (get_or definitions (at name) no_definition).1 t (sym (value_at definitions sorted (at name) inside) ∙ ap (definition_of m) (sym same) ∙ defined)

  up : (a b : FullName) → Refers m a b → Leads rows (at a) (at b)
  unfolding at
  up a b r =
      let (inside, same) = stands a r.definition r.defined in
      let (u, target) = there (definition_of m b) r.common in
      let is = row definitions names (at a) (omega (arith, inside, length_names definitions)) ∙ ap (row_of names) (definition_is a r.definition r.defined) in
      subst (λ l. Contains l (at b)) (sym is) (filter-to (place_of names) (common_references r.definition) b (at b) (some-contains (common_references r.definition) b r.refers) (placed definitions b u target))

  down : (i j : ℕ) → Leads rows i j → Refers m (get_or names i []) (get_or names j [])
  down i j h =
      let inside : i < length definitions = omega (arith, leads_inside rows i j h, length_rows definitions names) in
      let t = (get_or definitions i no_definition).1 in
      let (n, has, p) = filter-from (place_of names) (common_references t) j (subst (λ l. Contains l j) (row definitions names i inside) h) in
      let (below, same) = at_place definitions n j p in
      record {
        definition = t;
        defined = value_at definitions sorted i (omega (arith, inside, length_names definitions));
        refers = contains-some (common_references t) (get_or names j []) (subst (Contains (common_references t)) same has);
        common = ap is_some (value_at definitions sorted j below);
      }

  first_defined : (a b : FullName) → Reaches (Refers m) a b → (t : Written FullName) × (definition_of m a ≡ Some t)
  first_defined a b (one s) = (s.definition, s.defined)
  first_defined a b (more s r) = (s.definition, s.defined)

  -- where no position reaches itself, no common type does
  pub none_circular : ((i : ℕ) → Reaches (Leads rows) i i → ⊥) → (name : FullName) → IsCircular m name → ⊥
  none_circular acyclic name r = acyclic (at name) (Reaches-map at up r)

  -- the least position that reaches itself is that of the least common type that does
  pub least_circular : (found : ℕ) → IsLeastOnCycle rows found → IsLeast words_cmp (IsCircular m) (get_or names found [])
  least_circular found is = record {
    holds = Reaches-map (λ i. get_or names i []) down is.returns;
    least = λ other r less.
        let (t, defined) = first_defined other other r in
        let (below, same) = stands other t defined in
        let bound = is.bound (at other) (Reaches-map at up r) in
        ⊎_elim
        (λ e. less_equal (sym less ∙ (words_cmp-equal other (get_or names found [])).1 (same ∙ ap (λ n. get_or names n []) (sym e))))
        (λ n.
        let ahead : words_cmp (get_or names found []) (get_or names (at other) []) ≡ Less = Less-from_sorted words_cmp names found (at other) [] sorted (omega (arith, bound, n)) below in
        less_greater (sym less ∙ names_total.antisymm other (get_or names found []) ∙ ap ordering_reverse (ap (words_cmp (get_or names found [])) same ∙ ahead)))
        (cases_eq found (at other));
  }
