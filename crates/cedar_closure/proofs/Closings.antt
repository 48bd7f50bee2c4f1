-- SPDX-License-Identifier: Apache-2.0
-- A loop that closes the edges of one node after another.
use Rattle.std.proofs.Common.{◌≡◌, replicate, ℕ, ◌+◌, ◌<◌, ◌≤◌, ◌↔◌, ◌⊎◌, Bool, true, false, cond, List, [], ◌∷◌, ◌++◌, length, get_or, zero, suc, Some, All, Contains, refl, sym, ap, ◌∙◌, subst, inr, ⊎_elim, arith, append_assoc}
use Rattle.std.proofs.lemmas.Bool.{cases_lt, cases_eq}
use Rattle.std.proofs.lemmas.Cmp.{alike_right, eq_by_cmp_equiv}
use Rattle.std.proofs.lemmas.List.{append-nil, get_or_at, map-append, length-append, length-replicate}
use Rattle.std.proofs.lemmas.List.Elements.{All-weaker, All-contains, All-from_recursion, All-replicate, AllZip-push, Contains-append_right, Contains-append_cases, Contains-push_cases}
use Rattle.std.proofs.lemmas.List.Quantifiers.{position-Some}
use Rattle.std.proofs.lemmas.Map.Entries.{lookup_from_place}
use Rattle.std.proofs.lemmas.Map.Keys.{sorted_head, sorted_tail, Less-from_sorted, IsDistinct-from_sorted}
use Rattle.std.proofs.lemmas.Option.{slice_get-get_or}
use Rattle.std.specs.declared.cmp.Ordering.{Ordering}
use Rattle.std.specs.declared.cmp.Ordering.TheVariants.{Less, Equal, Greater}
use Rattle.std.specs.BTreeMap.{is_at}
use Rattle.std.specs.Cmp.{IsTotalOrder}
use Rattle.std.specs.List.{AllZip, slice_get}
use Rattle.std.specs.List.Sorted.{IsStrictlySortedBy}
use Rattle.std.specs.Map.{keys_of}
use Rattle.std.specs.Option.{IsSomeAnd}
use Rattle.std.specs.Ordering.{ordering_reverse, is_eq}
use Rattle.cedar_names.proofs.of_data.Rebuild.{sorted_next}
use Rattle.cedar_names.specs.of_data.Maps.{get, IsSortedMap}
use Rattle.cedar_names.specs.of_data.Sets.{contains}
use Rattle.cedar_closure.specs.Chains.{Reaches, one, more}
use Rattle.cedar_closure.specs.Closure.{edges_of, HasEdge, IsAcyclic, IsLeastOnCycle, Closes, IsClosure}
use Rattle.cedar_closure.specs.Marks.{Leads}
use Rattle.cedar_closure.specs.Places.{place, Chained, LeadsTo, AreKeysOf, rows_at}
use Rattle.cedar_closure.proofs.KeyChains.{some_parts, some_and, equal_at_place, place-same, node_of_edge, place-node, leads-edge, edge-same, chained_iff}
use Rattle.cedar_closure.proofs.PlaceLemmas.{equal_from_is_eq}

less_not_equal : (o : Ordering) → o ≡ Less → is_eq o ≡ true → ⊥
less_not_equal Less h e = absurd cc
less_not_equal Equal h e = absurd cc
less_not_equal Greater h e = absurd cc

first_step : {A : Type 0} {Step : A → A → Type 0} {a b : A} → Reaches Step a b → (c : A) × Step a c
first_step (one {b = c} step) = (c, step)
first_step (more {b = c} step rest) = (c, step)

module _ {K : Type 0} {cmp : K → K → Ordering} (total : IsTotalOrder cmp) where
  -- a lesser key stands before
  place-rises : (keys : List K) (a b : K) (i j : ℕ) → IsStrictlySortedBy cmp keys → cmp a b ≡ Less → place cmp keys a ≡ Some i → place cmp keys b ≡ Some j → i < j
  place-rises keys a b i j sorted less at at' = ⊎_elim (λ l. l) (λ l. ⊎_elim (λ e. absurd (same e)) (λ n. absurd (after (omega arith))) (cases_eq i j)) (cases_lt i j)
    where
      same : i ≡ j → ⊥
      same e = less_not_equal (cmp a b) less (equal_at_place total keys a b i at (at' ∙ ap Some (sym e)))

      after : j < i → ⊥
      after l =
          let (inside, equal, _) = position-Some (is_at (cmp a)) keys i a at in
          let (inside', equal', _) = position-Some (is_at (cmp b)) keys j a at' in
          let x : cmp b (get_or keys i a) ≡ cmp (get_or keys j a) (get_or keys i a) = total.congr b (get_or keys j a) (get_or keys i a) (equal_from_is_eq (cmp b (get_or keys j a)) equal') in
          let y : cmp b a ≡ cmp b (get_or keys i a) = alike_right total a (get_or keys i a) b (equal_from_is_eq (cmp a (get_or keys i a)) equal) in
          let z : cmp b a ≡ Less = y ∙ x ∙ Less-from_sorted cmp keys j i a sorted l inside in
          let w : cmp a b ≡ Greater = total.antisymm a b ∙ ap ordering_reverse z in
          cc (less, w)

  -- what a map has at the key of an entry
  get-entry : {V : Type 0} (nodes done rest : List (K × V)) (key : K) (node : V) → IsSortedMap cmp nodes → nodes ≡ done ++ (key, node) ∷ rest → get cmp nodes key ≡ Some node
  get-entry nodes done rest key node sorted split =
      lookup_from_place (eq_by_cmp_equiv total) nodes (length done) key node (IsDistinct-from_sorted cmp (keys_of nodes) sorted)
      (ap (λ l. slice_get l (length done)) split ∙ slice_get-get_or (done ++ (key, node) ∷ rest) (length done) (key, node) (omega (arith, length-append done ((key, node) ∷ rest))) ∙ ap Some (get_or_at done (key, node) rest (key, node) (length done) refl))

  -- in order, a key is less than those after it
  less_than_later : (ks : List K) (key : K) (later : List K) → IsStrictlySortedBy cmp (ks ++ key ∷ later) → (k : K) → Contains later k → cmp key k ≡ Less
  less_than_later [] key later sorted k c = All-contains (λ y. cmp key y ≡ Less) later k (All-from_recursion (λ y. cmp key y ≡ Less) later (sorted_head cmp key later sorted)) c
  less_than_later (x ∷ ks) key later sorted k c = less_than_later ks key later (sorted_tail cmp x (ks ++ key ∷ later) sorted) k c

-- a loop over the nodes that has `left` before it has closed those that it has passed, and no search has left a mark above the place of one to come
pub record Closing {K V : Type 0} (cmp : K → K → Ordering) (key : V → K) (edges : V → List K) (rest : V → V) (nodes : List (K × V)) (keys : List K) (enforce : Bool) (left : List (K × V)) (marks : List ℕ) (closed : List (K × V)) : Type 0 where
  pub done : List (K × V)
  pub split : done ++ left ≡ nodes
  pub zip : AllZip (Closes cmp key edges rest (HasEdge cmp edges nodes)) done closed
  pub acyclic : enforce ≡ true → (k : K) → Contains (keys_of done) k → Reaches (HasEdge cmp edges nodes) k k → ⊥
  pub as_long : length marks ≡ length keys
  pub fresh : (k : K) (at : ℕ) → Contains (keys_of left) k → place cmp keys k ≡ Some at → All (λ mark. mark ≤ at) marks

-- the keys of the nodes, a node in the middle
keys_around : {K V : Type 0} (nodes done later : List (K × V)) (key : K) (node : V) → nodes ≡ done ++ (key, node) ∷ later → keys_of nodes ≡ keys_of done ++ key ∷ keys_of later
keys_around nodes done later key node split = ap keys_of split ∙ map-append (λ e. e.0) done ((key, node) ∷ later)

-- closed nodes stand at the same keys
keys_of_zip : {K V : Type 0} (cmp : K → K → Ordering) (key : V → K) (edges : V → List K) (rest : V → V) (Step : K → K → Type 0) (xs ys : List (K × V)) → AllZip (Closes cmp key edges rest Step) xs ys → keys_of ys ≡ keys_of xs
keys_of_zip cmp key edges rest Step [] [] h = refl
keys_of_zip cmp key edges rest Step [] (y ∷ ys) h = absurd h
keys_of_zip cmp key edges rest Step (x ∷ xs) [] h = absurd h
keys_of_zip cmp key edges rest Step (x ∷ xs) (y ∷ ys) h = ap (λ k. k ∷ keys_of ys) h.0.place ∙ ap (λ ks. x.0 ∷ ks) (keys_of_zip cmp key edges rest Step xs ys h.1)

module _ {K V : Type 0} {cmp : K → K → Ordering} (total : IsTotalOrder cmp) (edges : V → List K) (nodes : List (K × V)) (keys : List K) (of : AreKeysOf cmp edges nodes keys) where
  -- a key that reaches itself is equal to that of a node, which reaches itself
  node_on_cycle : (k : K) → Reaches (HasEdge cmp edges nodes) k k → (k' : K) × Contains (keys_of nodes) k' × (is_at (cmp k) k' ≡ true) × Reaches (HasEdge cmp edges nodes) k' k'
  node_on_cycle k chain =
      let (b, step) = first_step chain in
      let (k', stands, same) = node_of_edge total edges nodes k b step in
      let (i, at) = place-node total edges nodes keys of k' stands in
      let places : place cmp keys k ≡ place cmp keys k' = place-same total keys k k' same in
      let rows = rows_at cmp edges nodes keys in
      let here : Chained cmp keys rows k k = (chained_iff total edges nodes keys of k k i (places ∙ at)).1 chain in
      let there : Chained cmp keys rows k' k' = subst (λ o. IsSomeAnd o (λ i. IsSomeAnd o (λ j. Reaches (Leads rows) i j))) places here in
      (k', stands, same, (chained_iff total edges nodes keys of k' k' i at).0 there)

module _ {K V : Type 0} {cmp : K → K → Ordering} (total : IsTotalOrder cmp) {key : V → K} {edges : V → List K} {rest : V → V} where
  -- before the first node
  pub Closing-start : (nodes : List (K × V)) (keys : List K) (enforce : Bool) (left : List (K × V)) (marks : List ℕ) (closed : List (K × V)) → left ≡ nodes → closed ≡ [] → marks ≡ replicate (length keys) 0 → Closing cmp key edges rest nodes keys enforce left marks closed
  Closing-start nodes keys enforce left marks closed all none zeros = record {
    done = [];
    split = all;
    zip = subst (λ l. AllZip (Closes cmp key edges rest (HasEdge cmp edges nodes)) [] l) (sym none) tt;
    acyclic = λ e k c chain. not_in_none k c;
    as_long = ap length zeros ∙ length-replicate (length keys) 0;
    fresh = λ k at c is. subst (λ l. All (λ mark. mark ≤ at) l) (sym zeros) (All-replicate (λ mark. mark ≤ at) (length keys) 0 (omega arith));
  }
    where
      not_in_none : (k : K) → Contains [] k → ⊥
      not_in_none k (i, l, is) = omega arith

  module _ (nodes : List (K × V)) (keys : List K) (of : AreKeysOf cmp edges nodes keys) where
    -- the key of the next node, and what the marks owe it
    pub Closing-earlier : {enforce : Bool} {left later : List (K × V)} {marks : List ℕ} {closed : List (K × V)} (k : K) (node : V) → Closing cmp key edges rest nodes keys enforce left marks closed → left ≡ (k, node) ∷ later → IsSomeAnd (place cmp keys k) (λ at. All (λ mark. mark ≤ at) marks)
    Closing-earlier {enforce} {left} {later} {marks} {closed} k node sofar first =
        let stands : Contains (keys_of nodes) k = subst (λ l. Contains l k) (sym (keys_around nodes sofar.done later k node (sym sofar.split ∙ ap (λ l. sofar.done ++ l) first))) (Contains-append_right (keys_of sofar.done) (k ∷ keys_of later) k (0, omega arith, refl)) in
        let (at, is) = place-node total edges nodes keys of k stands in
        some_and (place cmp keys k) (λ at. All (λ mark. mark ≤ at) marks) at is (sofar.fresh k at (subst (λ l. Contains (keys_of l) k) (sym first) (0, omega arith, refl)) is)

    -- the edges of the next node are in order
    pub Closing-ascends : {enforce : Bool} {left later : List (K × V)} {marks : List ℕ} {closed : List (K × V)} (k : K) (node : V) → Closing cmp key edges rest nodes keys enforce left marks closed → left ≡ (k, node) ∷ later → IsStrictlySortedBy cmp (edges node)
    Closing-ascends {enforce} {left} {later} {marks} {closed} k node sofar first =
        let around : nodes ≡ sofar.done ++ (k, node) ∷ later = sym sofar.split ∙ ap (λ l. sofar.done ++ l) first in
        All-contains (λ entry. IsStrictlySortedBy cmp (edges entry.1)) nodes (k, node) of.edges_ordered
        (subst (λ l. Contains l (k, node)) (sym around) (Contains-append_right sofar.done ((k, node) ∷ later) (k, node) (0, omega arith, refl)))

    -- the next key is after those of the closed nodes
    pub Closing-last : {enforce : Bool} {left later : List (K × V)} {marks : List ℕ} {closed : List (K × V)} (k : K) (node : V) → IsSortedMap cmp nodes → Closing cmp key edges rest nodes keys enforce left marks closed → left ≡ (k, node) ∷ later → IsStrictlySortedBy cmp (keys_of closed ++ k ∷ [])
    Closing-last {closed = closed} k node sorted sofar first =
        subst (λ ks. IsStrictlySortedBy cmp (ks ++ k ∷ [])) (sym (keys_of_zip cmp key edges rest (HasEdge cmp edges nodes) sofar.done closed sofar.zip)) (sorted_next cmp sofar.done sofar.split first refl sorted)

    module _ {enforce : Bool} {left later : List (K × V)} {marks : List ℕ} {closed : List (K × V)} (k : K) (node : V) (sorted : IsSortedMap cmp nodes)
        (sofar : Closing cmp key edges rest nodes keys enforce left marks closed) (first : left ≡ (k, node) ∷ later) (rows : List (List ℕ)) (made : rows ≡ rows_at cmp edges nodes keys) where
      around : nodes ≡ sofar.done ++ (k, node) ∷ later
      around = sym sofar.split ∙ ap (λ l. sofar.done ++ l) first

      stands : Contains (keys_of nodes) k
      stands = subst (λ l. Contains l k) (sym (keys_around nodes sofar.done later k node around)) (Contains-append_right (keys_of sofar.done) (k ∷ keys_of later) k (0, omega arith, refl))

      later_less : (k' : K) → Contains (keys_of later) k' → cmp k k' ≡ Less
      later_less = less_than_later total (keys_of sofar.done) k (keys_of later) (subst (λ ks. IsStrictlySortedBy cmp ks) (keys_around nodes sofar.done later k node around) sorted)

      chains : (to : K) → Chained cmp keys rows k to ↔ Reaches (HasEdge cmp edges nodes) k to
      chains to =
          let (at, is) = place-node total edges nodes keys of k stands in
          subst (λ r. Chained cmp keys r k to ↔ Reaches (HasEdge cmp edges nodes) k to) (sym made) (chained_iff total edges nodes keys of k to at is)

      own_edge : (to : K) → contains cmp (edges node) to ≡ true → HasEdge cmp edges nodes k to
      own_edge to h = ap (λ o. contains cmp (edges_of cmp edges o) to) (get-entry total nodes sofar.done later k node sorted around) ∙ h

      -- from a node without edges no chain leads
      pub Closing-begun : edges node ≡ [] → (to : K) → Chained cmp keys rows k to → ⊥
      Closing-begun none to chain =
          let (b, step) = first_step ((chains to).0 chain) in
          let here : contains cmp (edges node) b ≡ true = ap (λ o. contains cmp (edges_of cmp edges o) b) (sym (get-entry total nodes sofar.done later k node sorted around)) ∙ step in
          let no : contains cmp [] b ≡ true = ap (λ l. contains cmp l b) (sym none) ∙ here in
          cc

      -- the row at its key is of its edges
      pub Closing-own : (to : K) → LeadsTo cmp keys rows k to → contains cmp (edges node) to ≡ true
      Closing-own to h =
          let (i, is, h') = some_parts (place cmp keys k) (λ i. IsSomeAnd (place cmp keys to) (λ j. Leads rows i j)) h in
          let (j, at, leads) = some_parts (place cmp keys to) (λ j. Leads rows i j) h' in
          let (e, at', step) = leads-edge total edges nodes keys of k i j is (subst (λ r. Leads r i j) made leads) in
          ap (λ o. contains cmp (edges_of cmp edges o) to) (sym (get-entry total nodes sofar.done later k node sorted around)) ∙ edge-same total edges nodes keys of k to e (equal_at_place total keys to e j at at') step

      -- one node more
      pub Closing-next : {marks' : List ℕ} {closed' : List (K × V)} (new : V) (returns : Bool)
          → ((to : K) → (contains cmp (edges new) to ≡ true) ↔ ((contains cmp (edges node) to ≡ true) ⊎ Chained cmp keys rows k to))
          → IsStrictlySortedBy cmp (edges new)
          → key new ≡ key node → rest new ≡ rest node
          → (returns ≡ true) ↔ Chained cmp keys rows k k
          → (enforce ≡ true → returns ≡ true → ⊥)
          → length marks' ≡ length keys
          → IsSomeAnd (place cmp keys k) (λ at. All (λ mark. mark ≤ at + 1) marks')
          → closed' ≡ closed ++ (k, new) ∷ []
          → Closing cmp key edges rest nodes keys enforce later marks' closed'
      Closing-next {marks'} {closed'} new returns leads ascends same_key same_rest back allowed long latest pushed = record {
        done = sofar.done ++ (k, node) ∷ [];
        split = append_assoc sofar.done ((k, node) ∷ []) later ∙ sym around;
        zip = subst (λ l. AllZip (Closes cmp key edges rest (HasEdge cmp edges nodes)) (sofar.done ++ (k, node) ∷ []) l) (sym pushed)
            (AllZip-push (Closes cmp key edges rest (HasEdge cmp edges nodes)) sofar.done closed (k, node) (k, new) sofar.zip closes);
        acyclic = no_cycle;
        as_long = long;
        fresh = fresh';
      }
        where
          closes : Closes cmp key edges rest (HasEdge cmp edges nodes) (k, node) (k, new)
          closes = record {
            place = refl;
            same_key = same_key;
            same_rest = same_rest;
            leads = record {
              ascends = ascends;
              members = λ to. (λ h. ⊎_elim (λ x. one (own_edge to x)) (λ x. (chains to).0 x) ((leads to).0 h), λ chain. (leads to).1 (inr ((chains to).1 chain)));
            };
          }

          no_cycle : enforce ≡ true → (k' : K) → Contains (keys_of (sofar.done ++ (k, node) ∷ [])) k' → Reaches (HasEdge cmp edges nodes) k' k' → ⊥
          no_cycle e k' c chain = ⊎_elim
              (λ x. sofar.acyclic e k' x chain)
              (λ x. allowed e (back.1 ((chains k).1 (subst (λ q. Reaches (HasEdge cmp edges nodes) q q) (sym x) chain))))
              (Contains-push_cases (keys_of sofar.done) k k' (subst (λ l. Contains l k') (map-append (λ e. e.0) sofar.done ((k, node) ∷ [])) c))

          fresh' : (k' : K) (at : ℕ) → Contains (keys_of later) k' → place cmp keys k' ≡ Some at → All (λ mark. mark ≤ at) marks'
          fresh' k' at c is =
              let (i, here, marked) = some_parts (place cmp keys k) (λ at. All (λ mark. mark ≤ at + 1) marks') latest in
              let below : i < at = place-rises total keys k k' i at of.ordered (later_less k' c) here is in
              All-weaker (λ mark. mark ≤ i + 1) (λ mark. mark ≤ at) (λ mark l. omega arith) marks' marked

      -- a node whose key reaches itself
      pub Closing-cycle : enforce ≡ true → Chained cmp keys rows k k → IsLeastOnCycle cmp edges nodes k
      Closing-cycle e back = record {
        stands = stands;
        on_cycle = (chains k).0 back;
        least = least;
      }
        where
          least : (a : K) → Reaches (HasEdge cmp edges nodes) a a → cmp a k ≡ Less → ⊥
          least a chain less =
              let (b, c, same, chain') = node_on_cycle total edges nodes keys of a chain in
              let less' : cmp b k ≡ Less = sym (total.congr a b k (equal_from_is_eq (cmp a b) same)) ∙ less in
              ⊎_elim
              (λ x. sofar.acyclic e b x chain')
              (λ x. not_before b less' x)
              (Contains-append_cases (keys_of sofar.done) (k ∷ keys_of later) b (subst (λ l. Contains l b) (keys_around nodes sofar.done later k node around) c))
            where
              not_before : (b : K) → cmp b k ≡ Less → Contains (k ∷ keys_of later) b → ⊥
              not_before b less (zero, l, is) = less_not_equal (cmp b k) less (ap (λ q. is_at (cmp b) q) is ∙ (eq_by_cmp_equiv total).refl b)
              not_before b less (suc i, l, is) =
                  let after : cmp b k ≡ Greater = total.antisymm b k ∙ ap ordering_reverse (later_less b (i, omega arith, is)) in
                  cc (less, after)

    -- after the last node
    pub Closing-end : {enforce : Bool} {left : List (K × V)} {marks : List ℕ} {closed : List (K × V)} → Closing cmp key edges rest nodes keys enforce left marks closed → left ≡ [] → IsClosure cmp key edges rest nodes closed × (enforce ≡ true → IsAcyclic cmp edges nodes)
    Closing-end {enforce} {left} {marks} {closed} sofar none =
        let all : sofar.done ≡ nodes = sym (append-nil sofar.done) ∙ ap (λ l. sofar.done ++ l) (sym none) ∙ sofar.split in (
          subst (λ l. AllZip (Closes cmp key edges rest (HasEdge cmp edges nodes)) l closed) all sofar.zip,
          λ e k chain. let (k', stands, _, chain') = node_on_cycle total edges nodes keys of k chain in sofar.acyclic e k' (subst (λ l. Contains (keys_of l) k') (sym all) stands) chain',
        )

-- where no node has an edge, no key has one
edges_at-none : {K V : Type 0} (cmp : K → K → Ordering) (edges : V → List K) (nodes : List (K × V)) → ((entry : K × V) → Contains nodes entry → edges entry.1 ≡ []) → (a : K) → edges_of cmp edges (get cmp nodes a) ≡ []
edges_at-none cmp edges [] none a = refl
edges_at-none cmp edges (e ∷ es) none a = by (is_at (cmp a) e.0) (edges_at-none cmp edges es (λ entry c. none entry (Contains-append_right (e ∷ []) es entry c)) a)
  where
    by : (t : Bool) → edges_of cmp edges (get cmp es a) ≡ [] → edges_of cmp edges (cond t (Some e.1) (get cmp es a)) ≡ []
    by true rest = none e (0, omega arith, refl)
    by false rest = rest

module _ {K V : Type 0} (cmp : K → K → Ordering) (edges : V → List K) (nodes : List (K × V)) (none : All (λ entry. edges entry.1 ≡ []) nodes) where
  no_edge : (entry : K × V) → Contains nodes entry → edges entry.1 ≡ []
  no_edge entry c = All-contains (λ e. edges e.1 ≡ []) nodes entry none c

  no_chain : (a b : K) → Reaches (HasEdge cmp edges nodes) a b → ⊥
  no_chain a b chain =
      let (c, step) = first_step chain in
      let no : contains cmp [] c ≡ true = ap (λ l. contains cmp l c) (sym (edges_at-none cmp edges nodes no_edge a)) ∙ step in
      cc

module _ {K V : Type 0} (cmp : K → K → Ordering) (key : V → K) (edges : V → List K) (rest : V → V) (nodes : List (K × V)) (none : All (λ entry. edges entry.1 ≡ []) nodes) where
  itself : (entry : K × V) → edges entry.1 ≡ [] → Closes cmp key edges rest (HasEdge cmp edges nodes) entry entry
  unfolding IsStrictlySortedBy
  itself entry is = record {
    place = refl;
    same_key = refl;
    same_rest = refl;
    leads = record {
      ascends = subst (λ l. IsStrictlySortedBy cmp l) (sym is) tt;
      members = λ to. (λ h. absurd (not_in to (ap (λ l. contains cmp l to) (sym is) ∙ h)), λ chain. absurd (no_chain cmp edges nodes none entry.0 to chain));
    };
  }
    where
      not_in : (to : K) → contains cmp [] to ≡ true → ⊥
      not_in to h = cc

  all_itself : (entries : List (K × V)) → ((entry : K × V) → Contains entries entry → edges entry.1 ≡ []) → AllZip (Closes cmp key edges rest (HasEdge cmp edges nodes)) entries entries
  all_itself [] h = tt
  all_itself (e ∷ es) h = (itself e (h e (0, omega arith, refl)), all_itself es (λ entry c. h entry (Contains-append_right (e ∷ []) es entry c)))

  -- nodes without edges are closed, and no key reaches itself
  pub closed_without_edges : IsClosure cmp key edges rest nodes nodes × IsAcyclic cmp edges nodes
  closed_without_edges = (all_itself nodes (no_edge cmp edges nodes none), λ k chain. no_chain cmp edges nodes none k k chain)
