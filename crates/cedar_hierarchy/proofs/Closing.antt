-- SPDX-License-Identifier: Apache-2.0
-- From the closure of nodes to what descends from what.
use Rattle.std.proofs.Common.{◌≡◌, ◌||◌, ◌↔◌, Bool, true, false, cond, IsTrue, List, [], ◌∷◌, Some, map, refl, sym, ap, ◌∙◌, subst}
use Rattle.std.specs.BTreeMap.{is_at}
use Rattle.std.specs.Map.{keys_of}
use Rattle.std.specs.declared.cmp.Ordering.{Ordering}
use Rattle.cedar_closure.specs.Chains.{Reaches, one, more}
use Rattle.cedar_closure.specs.Closure.{HasEdge, edges_of, IsLeastOnCycle}
use Rattle.cedar_closure.specs.Closure as closure
use Rattle.cedar_closure.proofs.ChainLaws.{Reaches-push}
use Rattle.cedar_data.specs.Firsts.{AllPass, IsLeast}
use Rattle.cedar_data.specs.Maps.{get}
use Rattle.cedar_data.specs.Sets.{contains, IsSetOf}
use Rattle.cedar_hierarchy.proofs.Views.{IsView, contains_view, view_ascends, view_same, viewed}

-- a chain has a first step
first_step : {A : Type 0} {Step : A → A → Type 0} {a b : A} → Reaches Step a b → (c : A) × Step a c
first_step (one s) = (_, s)
first_step (more s r) = (_, s)

module _ {K V N : Type 0} {cmp : K → K → Ordering} {order : N → N → Ordering} {view : K → N} (seen : IsView cmp order view) (edges : V → List K) (Step : N → N → Type 0) where
  -- a node with edges to just the keys whose names step to its name
  abbrev pub IsNode : K × V → Type 0
  IsNode e = (c : K) → IsTrue (contains cmp (edges e.1) c) ↔ Step (view c) (view e.0)

  -- an edge is a step back
  edge_step : (nodes : List (K × V)) → AllPass IsNode nodes → (a b : K) → HasEdge cmp edges nodes a b → Step (view b) (view a)
  edge_step [] all a b edge = cc
  edge_step (e ∷ nodes) all a b edge = by (is_at (cmp a) e.0) refl edge (edge_step nodes all.1 a b)
    where
      by : (t : Bool) → is_at (cmp a) e.0 ≡ t → IsTrue (contains cmp (edges_of cmp edges (cond t (Some e.1) (get cmp nodes a))) b) → (HasEdge cmp edges nodes a b → Step (view b) (view a)) → Step (view b) (view a)
      by true is edge rest = subst (λ n. Step (view b) n) (sym (view_same seen a e.0 is)) ((all.0 b).0 edge)
      by false is edge rest = rest edge

  -- a step is an edge back, from a key at which a node stands
  step_edge : (nodes : List (K × V)) → AllPass IsNode nodes → (a b : K) → contains cmp (keys_of nodes) a ≡ true → Step (view b) (view a) → HasEdge cmp edges nodes a b
  step_edge [] all a b here step = cc
  step_edge (e ∷ nodes) all a b here step = by (is_at (cmp a) e.0) refl here (step_edge nodes all.1 a b)
    where
      by : (t : Bool) → is_at (cmp a) e.0 ≡ t → (t || contains cmp (keys_of nodes) a) ≡ true → (contains cmp (keys_of nodes) a ≡ true → Step (view b) (view a) → HasEdge cmp edges nodes a b)
          → IsTrue (contains cmp (edges_of cmp edges (cond (is_at (cmp a) e.0) (Some e.1) (get cmp nodes a))) b)
      by true is here rest =
          subst (λ t. IsTrue (contains cmp (edges_of cmp edges (cond t (Some e.1) (get cmp nodes a))) b)) (sym is)
          ((all.0 b).1 (subst (λ n. Step (view b) n) (view_same seen a e.0 is) step))
      by false is here rest = subst (λ t. IsTrue (contains cmp (edges_of cmp edges (cond t (Some e.1) (get cmp nodes a))) b)) (sym is) (rest here step)

  module _ (nodes : List (K × V)) (all : AllPass IsNode nodes) (stands : (low high : N) → Step low high → (k : K) × (view k ≡ low) × (contains cmp (keys_of nodes) k ≡ true)) where
    -- a chain of edges is a descent
    down : {a b : K} → Reaches (HasEdge cmp edges nodes) a b → Reaches Step (view b) (view a)
    down (one edge) = one (edge_step nodes all _ _ edge)
    down (more edge chain) = Reaches-push (down chain) (edge_step nodes all _ _ edge)

    -- a descent from the name of a node is a chain of edges
    up : {w v : N} → Reaches Step w v → (a b : K) → view a ≡ v → view b ≡ w → contains cmp (keys_of nodes) a ≡ true → Reaches (HasEdge cmp edges nodes) a b
    up {w} {v} (one step) a b p q here = one (step_edge nodes all a b here (subst (λ n. Step (view b) n) (sym p) (subst (λ n. Step n v) (sym q) step)))
    up {w} {v} (more {b = u} step chain) a b p q here =
        let first = first_step chain in
        let (k, same, there) = stands u first.0 first.1 in
        Reaches-push (up chain a k p same here) (step_edge nodes all k b there (subst (λ n. Step (view b) n) (sym same) (subst (λ n. Step n u) (sym q) step)))

    -- the names of a set that has what chains lead to are those that descend
    pub closed_set : (a : K) (ks : List K) → contains cmp (keys_of nodes) a ≡ true → IsSetOf cmp (Reaches (HasEdge cmp edges nodes) a) ks → IsSetOf order (λ low. Reaches Step low (view a)) (map view ks)
    closed_set a ks here set = record {
      ascends = view_ascends seen ks set.ascends;
      members = λ n. (
        (λ t.
            let (k, same) = viewed seen ks n t in
            let among : contains cmp ks k ≡ true = sym (contains_view seen ks k) ∙ ap (contains order (map view ks)) same ∙ t in
            subst (λ m. Reaches Step m (view a)) same (down ((set.members k).0 among))),
        (λ chain.
            let first = first_step chain in
            let (k, same, there) = stands n first.0 first.1 in
            ap (contains order (map view ks)) (sym same) ∙ contains_view seen ks k ∙ (set.members k).1 (up chain a k refl same here)),
      );
    }

    -- what a name that descends from itself says of keys
    cycle_key : (v : N) → Reaches Step v v → (k : K) × (view k ≡ v) × Reaches (HasEdge cmp edges nodes) k k
    cycle_key v chain =
        let first = first_step chain in
        let (k, same, there) = stands v first.0 first.1 in
        (k, same, up chain k k same same there)

    -- where no key reaches itself, no name descends from itself
    pub acyclic_names : closure.IsAcyclic cmp edges nodes → (v : N) → Reaches Step v v → ⊥
    acyclic_names none v chain = let (k, same, back) = cycle_key v chain in none k back

    -- the least key that reaches itself is that of the least name that descends from itself
    pub least_name : (vertex : K) → IsLeastOnCycle cmp edges nodes vertex → IsLeast order (λ n. Reaches Step n n) (view vertex)
    least_name vertex least = record {
      holds = down least.on_cycle;
      least = λ other chain less.
          let (k, same, back) = cycle_key other chain in
          least.least k back (seen.in_order k vertex ∙ ap (λ n. order n (view vertex)) same ∙ less);
    }
