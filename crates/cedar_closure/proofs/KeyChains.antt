-- SPDX-License-Identifier: Apache-2.0
-- Chains of edges are chains of rows, where keys stand for their positions.
use Rattle.std.proofs.Common.{◌≡◌, ℕ, ◌+◌, ◌<◌, ◌↔◌, Bool, true, false, ◌||◌, not, cond, List, [], ◌∷◌, ◌++◌, length, get_or, suc, zero, Some, None, Option, All, Contains, refl, sym, ap, ◌∙◌, subst, arith}
use Rattle.std.proofs.lemmas.Bool.{lt-ltb}
use Rattle.std.proofs.lemmas.Cmp.{eq_by_cmp_equiv}
use Rattle.std.proofs.lemmas.List.{get_or-map, length-map}
use Rattle.std.proofs.lemmas.List.Elements.{All-map, Contains-get_or, Contains-append_right}
use Rattle.std.proofs.lemmas.List.Folds.{Any-from_list_any, list_any-append}
use Rattle.std.proofs.lemmas.List.Quantifiers.{position-Some}
use Rattle.std.proofs.lemmas.Map.Views.{list_any-from_Contains}
use Rattle.std.specs.declared.cmp.Ordering.{Ordering}
use Rattle.std.specs.BTreeMap.{is_at}
use Rattle.std.specs.Cmp.{IsTotalOrder}
use Rattle.std.specs.List.{list_any, filter_map, position, position_or_len, cons_option}
use Rattle.std.specs.Map.{keys_of, lookup}
use Rattle.std.specs.Option.{IsSomeAnd}
use Rattle.cedar_names.specs.of_data.Maps.{get}
use Rattle.cedar_names.specs.of_data.Sets.{contains}
use Rattle.cedar_closure.specs.Chains.{Reaches, one, more}
use Rattle.cedar_closure.specs.Closure.{edges_of, edges_at, HasEdge}
use Rattle.cedar_closure.specs.Marks.{Leads, LeadWithin}
use Rattle.cedar_closure.specs.Places.{place, Chained, named, AreKeysOf, row_at, rows_at}

-- what an option that has a value has
pub some_parts : {A : Type 0} (o : Option A) (P : A → Type 0) → IsSomeAnd o P → (x : A) × (o ≡ Some x) × P x
some_parts None P h = absurd h
some_parts (Some x) P h = (x, refl, h)

pub some_and : {A : Type 0} (o : Option A) (P : A → Type 0) (x : A) → o ≡ Some x → P x → IsSomeAnd o P
some_and o P x is h = subst (λ q. IsSomeAnd q P) (sym is) h

or_left : (x y : Bool) → x ≡ true → (x || y) ≡ true
or_left x y h = ap (λ b. b || y) h

or_right : (x y : Bool) → y ≡ true → (x || y) ≡ true
or_right true y h = refl
or_right false y h = h

-- the first place at which some element passes
prefix-known : {X : Type 0} (p : X → Bool) (xs : List X) → list_any p xs ≡ true → position_or_len p xs < length xs
prefix-known p [] h = absurd cc
prefix-known p (x ∷ xs) h = by (p x) h (prefix-known p xs)
  where
    by : (b : Bool) → (b || list_any p xs) ≡ true → (list_any p xs ≡ true → position_or_len p xs < length xs) → cond (not b) (1 + position_or_len p xs) 0 < suc (length xs)
    by true h rest = omega arith
    by false h rest = let l : position_or_len p xs < length xs = rest h in omega arith

position-known : {X : Type 0} (p : X → Bool) (xs : List X) → list_any p xs ≡ true → position p xs ≡ Some (position_or_len p xs)
position-known p xs h = ap (λ b. cond b (Some (position_or_len p xs)) None) (lt-ltb (position_or_len p xs) (length xs) (prefix-known p xs h))

-- what a filter gives comes of an item
filter-from : {X Y : Type 0} (f : X → Option Y) (xs : List X) (y : Y) → Contains (filter_map f xs) y → (x : X) × Contains xs x × (f x ≡ Some y)
filter-from f [] y (k, l, is) = absurd (omega arith)
filter-from f (x ∷ xs) y h = by (f x) refl h (filter-from f xs y)
  where
    by : (o : Option _) → f x ≡ o → Contains (cons_option o (filter_map f xs)) y → (Contains (filter_map f xs) y → (z : _) × Contains xs z × (f z ≡ Some y)) → (z : _) × Contains (x ∷ xs) z × (f z ≡ Some y)
    by None is h rest = let (z, c, e) = rest h in (z, Contains-append_right (x ∷ []) xs z c, e)
    by (Some v) is (zero, l, e) rest = (x, (0, omega arith, refl), is ∙ ap Some e)
    by (Some v) is (suc k, l, e) rest = let (z, c, e') = rest (k, omega arith, e) in (z, Contains-append_right (x ∷ []) xs z c, e')

-- what an item gives is in the filter
filter-to : {X Y : Type 0} (f : X → Option Y) (xs : List X) (x : X) (y : Y) → Contains xs x → f x ≡ Some y → Contains (filter_map f xs) y
filter-to f [] x y (k, l, e) is = absurd (omega arith)
filter-to f (v ∷ xs) x y (zero, l, e) is = subst (λ o. Contains (cons_option o (filter_map f xs)) y) (sym (ap f e ∙ is)) (0, omega arith, refl)
filter-to f (v ∷ xs) x y (suc k, l, e) is = later (f v) (filter-to f xs x y (k, omega arith, e) is)
  where
    later : (o : Option _) → Contains (filter_map f xs) y → Contains (cons_option o (filter_map f xs)) y
    later None c = c
    later (Some w) c = Contains-append_right (w ∷ []) (filter_map f xs) y c

module _ {K : Type 0} {cmp : K → K → Ordering} (total : IsTotalOrder cmp) where
  -- equal keys pass the same tests
  same_test : (a b : K) → is_at (cmp a) b ≡ true → is_at (cmp a) ≡ is_at (cmp b)
  same_test a b h = λ i k. (eq_by_cmp_equiv total).congr a b k h i

  -- equal keys stand at the same place
  pub place-same : (keys : List K) (a b : K) → is_at (cmp a) b ≡ true → place cmp keys a ≡ place cmp keys b
  place-same keys a b h = ap (λ p. position p keys) (same_test a b h)

  -- keys at the same place are equal
  pub equal_at_place : (keys : List K) (a b : K) (i : ℕ) → place cmp keys a ≡ Some i → place cmp keys b ≡ Some i → is_at (cmp a) b ≡ true
  equal_at_place keys a b i at at' =
      let x : is_at (cmp a) (get_or keys i a) ≡ true = (position-Some (is_at (cmp a)) keys i a at).1 in
      let y : is_at (cmp b) (get_or keys i a) ≡ true = (position-Some (is_at (cmp b)) keys i a at').1 in
      (eq_by_cmp_equiv total).congr a (get_or keys i a) b x ∙ (eq_by_cmp_equiv total).symm (get_or keys i a) b ∙ y

  -- a key that a list contains has a place
  pub place-known : (keys : List K) (key : K) → contains cmp keys key ≡ true → place cmp keys key ≡ Some (position_or_len (is_at (cmp key)) keys)
  place-known keys key h = position-known (is_at (cmp key)) keys h

module _ {K V : Type 0} {cmp : K → K → Ordering} (total : IsTotalOrder cmp) (edges : V → List K) where
  -- equal keys have the same edges
  edges_at-same : (nodes : List (K × V)) (a b : K) → is_at (cmp a) b ≡ true → edges_at cmp edges nodes a ≡ edges_at cmp edges nodes b
  edges_at-same nodes a b h = ap (λ p. edges_of cmp edges (lookup p nodes)) (same_test total a b h)

  -- each key that an edge leads to is named
  pub named-edge : (nodes : List (K × V)) (a b : K) → HasEdge cmp edges nodes a b → contains cmp (named cmp edges nodes) b ≡ true
  named-edge [] a b h = h
  named-edge (e ∷ es) a b h = or_right (is_at (cmp b) e.0) (contains cmp (edges e.1 ++ named cmp edges es) b) (list_any-append (is_at (cmp b)) (edges e.1) (named cmp edges es) ∙ by (is_at (cmp a) e.0) h (named-edge es a b))
    where
      by : (t : Bool) → contains cmp (edges_of cmp edges (cond t (Some e.1) (get cmp es a))) b ≡ true → (HasEdge cmp edges es a b → contains cmp (named cmp edges es) b ≡ true) → (contains cmp (edges e.1) b || contains cmp (named cmp edges es) b) ≡ true
      by true h rest = or_left (contains cmp (edges e.1) b) (contains cmp (named cmp edges es) b) h
      by false h rest = or_right (contains cmp (edges e.1) b) (contains cmp (named cmp edges es) b) (rest h)

  -- each key of a node is named
  pub named-key : (nodes : List (K × V)) (key : K) → Contains (keys_of nodes) key → contains cmp (named cmp edges nodes) key ≡ true
  named-key [] key (k, l, is) = absurd (omega arith)
  named-key (e ∷ es) key (zero, l, is) = or_left (is_at (cmp key) e.0) (contains cmp (edges e.1 ++ named cmp edges es) key) (ap (is_at (cmp key)) is ∙ (eq_by_cmp_equiv total).refl key)
  named-key (e ∷ es) key (suc k, l, is) = or_right (is_at (cmp key) e.0) (contains cmp (edges e.1 ++ named cmp edges es) key)
      (list_any-append (is_at (cmp key)) (edges e.1) (named cmp edges es) ∙ or_right (contains cmp (edges e.1) key) (contains cmp (named cmp edges es) key) (named-key es key (k, omega arith, is)))

  -- a key from which an edge leads is equal to that of a node
  pub node_of_edge : (nodes : List (K × V)) (a b : K) → HasEdge cmp edges nodes a b → (key : K) × Contains (keys_of nodes) key × (is_at (cmp a) key ≡ true)
  node_of_edge [] a b h = absurd cc
  node_of_edge (e ∷ es) a b h = by (is_at (cmp a) e.0) refl h (node_of_edge es a b)
    where
      by : (t : Bool) → is_at (cmp a) e.0 ≡ t → contains cmp (edges_of cmp edges (cond t (Some e.1) (get cmp es a))) b ≡ true → (HasEdge cmp edges es a b → (key : K) × Contains (keys_of es) key × (is_at (cmp a) key ≡ true)) → (key : K) × Contains (keys_of (e ∷ es)) key × (is_at (cmp a) key ≡ true)
      by true is h rest = (e.0, (0, omega arith, refl), is)
      by false is h rest = let (key, c, same) = rest h in (key, Contains-append_right (e.0 ∷ []) (keys_of es) key c, same)

  -- in a numbering of the keys, each key that an edge leads to has a place
  pub place-edge : (nodes : List (K × V)) (keys : List K) → AreKeysOf cmp edges nodes keys → (a b : K) → HasEdge cmp edges nodes a b → (j : ℕ) × (place cmp keys b ≡ Some j)
  place-edge nodes keys of a b h = (position_or_len (is_at (cmp b)) keys, place-known total keys b (of.same b ∙ named-edge nodes a b h))

  -- and so has each key of a node
  pub place-node : (nodes : List (K × V)) (keys : List K) → AreKeysOf cmp edges nodes keys → (key : K) → Contains (keys_of nodes) key → (i : ℕ) × (place cmp keys key ≡ Some i)
  place-node nodes keys of key h = (position_or_len (is_at (cmp key)) keys, place-known total keys key (of.same key ∙ named-key nodes key h))

  module _ (nodes : List (K × V)) (keys : List K) (of : AreKeysOf cmp edges nodes keys) where
    -- the row of a key
    row_of_place : (a : K) (i : ℕ) → place cmp keys a ≡ Some i → get_or (rows_at cmp edges nodes keys) i [] ≡ row_at cmp edges nodes keys a
    row_of_place a i is =
        let (inside, equal, before) = position-Some (is_at (cmp a)) keys i a is in
        get_or-map (row_at cmp edges nodes keys) keys i a [] inside ∙ ap (filter_map (place cmp keys)) (sym (edges_at-same nodes a (get_or keys i a) equal))

    -- as many rows as keys
    pub length-rows : length (rows_at cmp edges nodes keys) ≡ length keys
    length-rows = length-map keys (row_at cmp edges nodes keys)

    -- the rows have only positions of rows
    pub rows-within : LeadWithin (rows_at cmp edges nodes keys)
    rows-within = All-map (λ row. All (λ j. j < length (rows_at cmp edges nodes keys)) row) (row_at cmp edges nodes keys) keys (λ k d l. within (get_or keys k d))
      where
        within : (key : K) → All (λ j. j < length (rows_at cmp edges nodes keys)) (row_at cmp edges nodes keys key)
        within key i d l =
            let (e, c, at) = filter-from (place cmp keys) (edges_at cmp edges nodes key) (get_or (row_at cmp edges nodes keys key) i d) (Contains-get_or (row_at cmp edges nodes keys key) i d l) in
            subst (λ n. get_or (row_at cmp edges nodes keys key) i d < n) (sym length-rows) (position-Some (is_at (cmp e)) keys (get_or (row_at cmp edges nodes keys key) i d) e at).0

    -- an edge is in the row
    edge-leads : (a b : K) (i : ℕ) → place cmp keys a ≡ Some i → HasEdge cmp edges nodes a b → (j : ℕ) × (place cmp keys b ≡ Some j) × Leads (rows_at cmp edges nodes keys) i j
    edge-leads a b i is h =
        let (j, at) = place-edge nodes keys of a b h in
        let (k, e, l, here, same) = Any-from_list_any (is_at (cmp b)) (edges_at cmp edges nodes a) h in
        (j, at, subst (λ row. Contains row j) (sym (row_of_place a i is)) (filter-to (place cmp keys) (edges_at cmp edges nodes a) e j (k, l, here) (sym (place-same total keys b e same) ∙ at)))

    -- what is in the row comes of an edge
    pub leads-edge : (a : K) (i j : ℕ) → place cmp keys a ≡ Some i → Leads (rows_at cmp edges nodes keys) i j → (e : K) × (place cmp keys e ≡ Some j) × HasEdge cmp edges nodes a e
    leads-edge a i j is h =
        let (e, c, at) = filter-from (place cmp keys) (edges_at cmp edges nodes a) j (subst (λ row. Contains row j) (row_of_place a i is) h) in
        (e, at, list_any-from_Contains (eq_by_cmp_equiv total) e (edges_at cmp edges nodes a) c)

    -- an edge leads to each key that is equal to one that it leads to
    pub edge-same : (a b e : K) → is_at (cmp b) e ≡ true → HasEdge cmp edges nodes a e → HasEdge cmp edges nodes a b
    edge-same a b e same h = ap (λ p. list_any p (edges_at cmp edges nodes a)) (same_test total b e same) ∙ h

    -- a chain of edges is a chain of rows
    chained : (a b : K) (i : ℕ) → place cmp keys a ≡ Some i → Reaches (HasEdge cmp edges nodes) a b → (j : ℕ) × (place cmp keys b ≡ Some j) × Reaches (Leads (rows_at cmp edges nodes keys)) i j
    chained a b i is (one step) = let (j, at, leads) = edge-leads a b i is step in (j, at, one leads)
    chained a b i is (more {b = m} step rest) =
        let (j, at, leads) = edge-leads a m i is step in
        let (k, at', chain) = chained m b j at rest in
        (k, at', more leads chain)

    -- a chain of rows is a chain of edges
    unchained : (a b : K) (i j : ℕ) → place cmp keys a ≡ Some i → place cmp keys b ≡ Some j → Reaches (Leads (rows_at cmp edges nodes keys)) i j → Reaches (HasEdge cmp edges nodes) a b
    unchained a b i j is at (one leads) = let (e, at', step) = leads-edge a i j is leads in one (edge-same a b e (equal_at_place total keys b e j at at') step)
    unchained a b i j is at (more {b = m} leads rest) = let (e, at', step) = leads-edge a i m is leads in more step (unchained e b m j at' at rest)

    -- from a key with a place, chains of edges and chains of rows lead to the same keys
    pub chained_iff : (a b : K) (i : ℕ) → place cmp keys a ≡ Some i → Chained cmp keys (rows_at cmp edges nodes keys) a b ↔ Reaches (HasEdge cmp edges nodes) a b
    chained_iff a b i is = (to, from)
      where
        to : Chained cmp keys (rows_at cmp edges nodes keys) a b → Reaches (HasEdge cmp edges nodes) a b
        to h =
            let (i', is', h') = some_parts (place cmp keys a) (λ i. IsSomeAnd (place cmp keys b) (λ j. Reaches (Leads (rows_at cmp edges nodes keys)) i j)) h in
            let (j, at, chain) = some_parts (place cmp keys b) (λ j. Reaches (Leads (rows_at cmp edges nodes keys)) i' j) h' in
            unchained a b i' j is' at chain

        from : Reaches (HasEdge cmp edges nodes) a b → Chained cmp keys (rows_at cmp edges nodes keys) a b
        from chain =
            let (j, at, rows) = chained a b i is chain in
            some_and (place cmp keys a) (λ i. IsSomeAnd (place cmp keys b) (λ j. Reaches (Leads (rows_at cmp edges nodes keys)) i j)) i is
            (some_and (place cmp keys b) (λ j. Reaches (Leads (rows_at cmp edges nodes keys)) i j) j at rows)
