-- SPDX-License-Identifier: Apache-2.0
-- Loops that put the keys of nodes and of edges into a set, and that number edges.
use Rattle.std.proofs.Common.{All, arith, Option, Some, None, ◌≡◌, Bool, true, false, ◌||◌, cond, List, [], ◌∷◌, ◌++◌, refl, sym, ap, ◌∙◌, subst, append_assoc}
use Rattle.std.proofs.lemmas.Cmp.{eq_by_cmp_equiv}
use Rattle.std.proofs.lemmas.List.{append-nil, flat_map_more, map-append}
use Rattle.std.proofs.lemmas.List.Elements.{All-push, filter_map-append}
use Rattle.std.proofs.lemmas.List.Folds.{list_any-append}
use Rattle.std.specs.declared.cmp.Ordering.{Ordering}
use Rattle.std.specs.BTreeMap.{is_at}
use Rattle.std.specs.Cmp.{IsTotalOrder}
use Rattle.std.specs.List.{filter_map, list_any}
use Rattle.std.specs.Map.{keys_of}
use Rattle.std.specs.Option.{is_some}
use Rattle.std.specs.List.Sorted.{IsStrictlySortedBy}
use Rattle.cedar_names.specs.of_data.Maps.{get}
use Rattle.cedar_names.specs.of_data.Sets.{contains, Adds}
use Rattle.cedar_closure.specs.Places.{AddsBeside, NamesBeside, AreKeysOf, named}

or_same : (a o : Bool) → (a || o) ≡ (a || (o || false))
or_same true o = refl
or_same false true = refl
or_same false false = refl

or_assoc : (a b c : Bool) → ((a || b) || c) ≡ (a || (b || c))
or_assoc true b c = refl
or_assoc false b c = refl

beside_more : (a n m o d t : Bool) → (a || n) ≡ (a || (m || t)) → (a || m) ≡ (a || (o || d)) → (a || n) ≡ (a || (o || (d || t)))
beside_more true n m o d t p q = refl
beside_more false n m o d t p q = p ∙ ap (λ b. b || t) q ∙ or_assoc o d t

names_more : (a n m d t e : Bool) → (t ≡ true → a ≡ true) → (a || n) ≡ (a || (m || e)) → (a || m) ≡ (a || d) → (a || n) ≡ (a || (d || (t || e)))
names_more true n m d t e known p q = refl
names_more false n m d true e known p q = let no : false ≡ true = known refl in cc
names_more false n m d false e known p q = p ∙ ap (λ b. b || e) q

known_or : (a b : Bool) → b ≡ true → (a || b) ≡ true
known_or true b h = refl
known_or false b h = h

-- a key that is put in, but for known ones
put_beside : (a n o t : Bool) → n ≡ cond t true o → (a || n) ≡ (a || (o || (t || false)))
put_beside true n o t p = refl
put_beside false n o true p = p ∙ sym (known_or o true refl)
put_beside false n true false p = p
put_beside false n false false p = p

left_beside : (a o t : Bool) → (t ≡ true → a ≡ true) → (a || o) ≡ (a || (o || (t || false)))
left_beside true o t known = refl
left_beside false o true known = let no : false ≡ true = known refl in cc
left_beside false true false known = refl
left_beside false false false known = refl

-- a key with a value is among the keys
found_key : {K V : Type 0} (cmp : K → K → Ordering) (key : K) (es : List (K × V)) → is_some (get cmp es key) ≡ true → contains cmp (keys_of es) key ≡ true
found_key cmp key [] f = cc
found_key {V = V} cmp key (e ∷ es) f = by (is_at (cmp key) e.0) (get cmp es key) f (found_key cmp key es)
  where
    by : (t : Bool) (o : Option V) → is_some (cond t (Some e.1) o) ≡ true → (is_some o ≡ true → contains cmp (keys_of es) key ≡ true) → (t || contains cmp (keys_of es) key) ≡ true
    by true o f r = refl
    by false o f r = r f

module _ {K : Type 0} where
  -- a known key may be left out
  pub beside_known : {V : Type 0} {cmp : K → K → Ordering} → IsTotalOrder cmp → (nodes : List (K × V)) (set : List K) (key : K) → is_some (get cmp nodes key) ≡ true → AddsBeside cmp (keys_of nodes) set set (key ∷ [])
  beside_known {cmp = cmp} total nodes set key found = λ q. left_beside (contains cmp (keys_of nodes) q) (contains cmp set q) (is_at (cmp q) key) (λ h.
      ap (λ p. list_any p (keys_of nodes)) (λ i k. (eq_by_cmp_equiv total).congr q key k h i) ∙ found_key cmp key nodes found)

  -- another key is put in
  pub beside_put : {V : Type 0} {cmp : K → K → Ordering} → IsTotalOrder cmp → (nodes : List (K × V)) (old new : List K) (key : K) → Adds cmp old new key → AddsBeside cmp (keys_of nodes) old new (key ∷ [])
  beside_put {cmp = cmp} total nodes old new key adds = λ q. put_beside (contains cmp (keys_of nodes) q) (contains cmp new q) (contains cmp old q) (is_at (cmp q) key)
      (adds q ∙ ap (λ b. cond b true (contains cmp old q)) ((eq_by_cmp_equiv total).symm key q))

  -- a loop over `whole` that has `left` before it has put what it has passed into a set, but for known keys
  pub record AddsSome (cmp : K → K → Ordering) (known whole left old new : List K) : Type 0 where
    pub done : List K
    pub split : done ++ left ≡ whole
    pub adds : AddsBeside cmp known old new done

  -- before the first
  pub AddsSome-start : (cmp : K → K → Ordering) (known whole left set : List K) → left ≡ whole → AddsSome cmp known whole left set set
  AddsSome-start cmp known whole left set all = record { done = []; split = all; adds = λ k. or_same (contains cmp known k) (contains cmp set k) }

  -- one more
  pub AddsSome-next : {cmp : K → K → Ordering} {known whole left rest old mid new : List K} {key next : K} → AddsSome cmp known whole left old mid → left ≡ next ∷ rest → key ≡ next → AddsBeside cmp known mid new (key ∷ []) → AddsSome cmp known whole rest old new
  AddsSome-next {cmp} {known} {whole} {left} {rest} {old} {mid} {new} {key} {next} sofar first same adds = record {
    done = sofar.done ++ next ∷ [];
    split = append_assoc sofar.done (next ∷ []) rest ∙ ap (λ l. sofar.done ++ l) (sym first) ∙ sofar.split;
    adds = λ k.
        beside_more (contains cmp known k) (contains cmp new k) (contains cmp mid k) (contains cmp old k) (contains cmp sofar.done k) (contains cmp (next ∷ []) k)
        (adds k ∙ ap (λ q. contains cmp known k || (contains cmp mid k || contains cmp (q ∷ []) k)) same) (sofar.adds k)
        ∙ ap (λ b. contains cmp known k || (contains cmp old k || b)) (sym (list_any-append (is_at (cmp k)) sofar.done (next ∷ [])));
  }

  -- after the last
  pub AddsSome-end : {cmp : K → K → Ordering} {known whole left old new : List K} → AddsSome cmp known whole left old new → left ≡ [] → AddsBeside cmp known old new whole
  AddsSome-end {cmp} {known} {whole} {left} {old} {new} sofar none =
      subst (λ l. AddsBeside cmp known old new l) (sym (append-nil sofar.done) ∙ ap (λ l. sofar.done ++ l) (sym none) ∙ sofar.split) sofar.adds

module _ {K V : Type 0} where
  -- a loop over the nodes that has `left` before it has put into a set the keys of edges of those that it has passed, but for those of nodes
  pub record NamesSome (cmp : K → K → Ordering) (edges : V → List K) (whole left : List (K × V)) (set : List K) : Type 0 where
    pub done : List (K × V)
    pub split : done ++ left ≡ whole
    pub names : (key : K) → (contains cmp (keys_of whole) key || contains cmp set key) ≡ (contains cmp (keys_of whole) key || contains cmp (named cmp edges done) key)
    pub ordered : All (λ entry. IsStrictlySortedBy cmp (edges entry.1)) done

  -- before the first
  pub NamesSome-start : (cmp : K → K → Ordering) (edges : V → List K) (whole left : List (K × V)) (set : List K) → left ≡ whole → set ≡ [] → NamesSome cmp edges whole left set
  NamesSome-start cmp edges whole left set all empty =
      record { done = []; split = all; names = λ k. ap (λ l. contains cmp (keys_of whole) k || contains cmp l k) empty; ordered = λ k d l. absurd (omega arith) }

  -- one more
  pub NamesSome-next : {cmp : K → K → Ordering} {edges : V → List K} {whole left rest : List (K × V)} {old new : List K} {next : K} {node value : V} → NamesSome cmp edges whole left old → left ≡ (next, value) ∷ rest → node ≡ value → AddsBeside cmp (keys_of whole) old new (edges node) → IsStrictlySortedBy cmp (edges node) → NamesSome cmp edges whole rest new
  NamesSome-next {cmp} {edges} {whole} {left} {rest} {old} {new} {next} {node} {value} sofar first same adds ascends = record {
    done = sofar.done ++ (next, value) ∷ [];
    split = append_assoc sofar.done ((next, value) ∷ []) rest ∙ around;
    names = λ k.
        names_more (contains cmp (keys_of whole) k) (contains cmp new k) (contains cmp old k) (contains cmp (named cmp edges sofar.done) k) (is_at (cmp k) next) (contains cmp (edges value) k)
        (known k) (adds k ∙ ap (λ v. contains cmp (keys_of whole) k || (contains cmp old k || contains cmp (edges v) k)) same) (sofar.names k)
        ∙ ap (λ b. contains cmp (keys_of whole) k || b) (
        sym (list_any-append (is_at (cmp k)) (named cmp edges sofar.done) (next ∷ edges value))
        ∙ ap (λ l. contains cmp l k) (flat_map_more (λ entry. entry.0 ∷ edges entry.1) [] sofar.done (next, value))
        );
    ordered = All-push (λ entry. IsStrictlySortedBy cmp (edges entry.1)) sofar.done (next, value) sofar.ordered (subst (λ v. IsStrictlySortedBy cmp (edges v)) same ascends);
  }
    where
      around : sofar.done ++ (next, value) ∷ rest ≡ whole
      around = ap (λ l. sofar.done ++ l) (sym first) ∙ sofar.split

      known : (k : K) → is_at (cmp k) next ≡ true → contains cmp (keys_of whole) k ≡ true
      known k h =
          ap (λ es. contains cmp (keys_of es) k) (sym around)
          ∙ ap (λ l. contains cmp l k) (map-append (λ e. e.0) sofar.done ((next, value) ∷ rest))
          ∙ list_any-append (is_at (cmp k)) (keys_of sofar.done) (next ∷ keys_of rest)
          ∙ known_or (contains cmp (keys_of sofar.done) k) (contains cmp (next ∷ keys_of rest) k) (ap (λ b. b || contains cmp (keys_of rest) k) h)

  -- the keys of nodes are named
  named-keys : (cmp : K → K → Ordering) (edges : V → List K) (es : List (K × V)) (k : K) → (contains cmp (keys_of es) k || contains cmp (named cmp edges es) k) ≡ contains cmp (named cmp edges es) k
  named-keys cmp edges [] k = refl
  named-keys cmp edges (e ∷ es) k =
      ap (λ b. (is_at (cmp k) e.0 || contains cmp (keys_of es) k) || (is_at (cmp k) e.0 || b)) split
      ∙ by (is_at (cmp k) e.0) (contains cmp (keys_of es) k) (contains cmp (edges e.1) k) (contains cmp (named cmp edges es) k) (named-keys cmp edges es k)
      ∙ ap (λ b. is_at (cmp k) e.0 || b) (sym split)
    where
      split : contains cmp (edges e.1 ++ named cmp edges es) k ≡ (contains cmp (edges e.1) k || contains cmp (named cmp edges es) k)
      split = list_any-append (is_at (cmp k)) (edges e.1) (named cmp edges es)

      by : (t a x n : Bool) → (a || n) ≡ n → ((t || a) || (t || (x || n))) ≡ (t || (x || n))
      by true a x n h = refl
      by false a true n h = known_or a true refl
      by false a false n h = h

  -- after the last
  pub NamesSome-end : {cmp : K → K → Ordering} {edges : V → List K} {whole left : List (K × V)} {set : List K} → NamesSome cmp edges whole left set → left ≡ [] → NamesBeside cmp edges whole set × All (λ entry. IsStrictlySortedBy cmp (edges entry.1)) whole
  NamesSome-end {cmp} {edges} {whole} {left} {set} sofar none =
      let all : sofar.done ≡ whole = sym (append-nil sofar.done) ∙ ap (λ l. sofar.done ++ l) (sym none) ∙ sofar.split in (
        (λ k. sofar.names k ∙ ap (λ es. contains cmp (keys_of whole) k || contains cmp (named cmp edges es) k) all ∙ named-keys cmp edges whole k),
        subst (λ es. All (λ entry. IsStrictlySortedBy cmp (edges entry.1)) es) all sofar.ordered,
      )

  -- the keys of nodes and the others, in order
  pub keys_made : {cmp : K → K → Ordering} {edges : V → List K} {nodes : List (K × V)} {all keys : List K} (others : List K) → NamesBeside cmp edges nodes others → All (λ entry. IsStrictlySortedBy cmp (edges entry.1)) nodes
      → all ≡ keys_of nodes ++ others → IsStrictlySortedBy cmp keys → ((k : K) → contains cmp keys k ≡ contains cmp all k) → AreKeysOf cmp edges nodes keys
  keys_made {cmp} {edges} {nodes} {all} {keys} others beside ordered is sorted same = record {
    ordered = sorted;
    edges_ordered = ordered;
    same = λ k. same k ∙ ap (λ l. contains cmp l k) is ∙ list_any-append (is_at (cmp k)) (keys_of nodes) others ∙ beside k;
  }

pub ruleset beside_rules = (beside_known, beside_put)

-- what a filter makes of one item more
cons_some : {X Y : Type 0} (f : X → Option Y) (x : X) (y : Y) → f x ≡ Some y → filter_map f (x ∷ []) ≡ y ∷ []
cons_some f x y is = rw is

cons_none : {X Y : Type 0} (f : X → Option Y) (x : X) → f x ≡ None → filter_map f (x ∷ []) ≡ []
cons_none f x is = rw is

-- a loop over `whole` that has `left` before it has made of what it has passed what f gives
pub record FiltersSome {X Y : Type 0} (f : X → Option Y) (whole left : List X) (made : List Y) : Type 0 where
  pub done : List X
  pub split : done ++ left ≡ whole
  pub is : made ≡ filter_map f done

module _ {X Y : Type 0} {f : X → Option Y} {whole left : List X} {made : List Y} where
  -- one more, for which f gives something
  pub FiltersSome-some : {rest : List X} {more : List Y} {x : X} (y : Y) → FiltersSome f whole left made → left ≡ x ∷ rest → f x ≡ Some y → more ≡ made ++ y ∷ [] → FiltersSome f whole rest more
  FiltersSome-some {rest} {more} {x} y sofar first gives pushed = record {
    done = sofar.done ++ x ∷ [];
    split = append_assoc sofar.done (x ∷ []) rest ∙ ap (λ l. sofar.done ++ l) (sym first) ∙ sofar.split;
    is = pushed ∙ ap (λ l. l ++ y ∷ []) sofar.is ∙ ap (λ l. filter_map f sofar.done ++ l) (sym (cons_some f x y gives)) ∙ sym (filter_map-append f sofar.done (x ∷ []));
  }

  -- one more, for which it gives nothing
  pub FiltersSome-none : {rest : List X} {x : X} → FiltersSome f whole left made → left ≡ x ∷ rest → f x ≡ None → FiltersSome f whole rest made
  FiltersSome-none {rest} {x} sofar first gives = record {
    done = sofar.done ++ x ∷ [];
    split = append_assoc sofar.done (x ∷ []) rest ∙ ap (λ l. sofar.done ++ l) (sym first) ∙ sofar.split;
    is = sofar.is ∙ sym (append-nil (filter_map f sofar.done)) ∙ ap (λ l. filter_map f sofar.done ++ l) (sym (cons_none f x gives)) ∙ sym (filter_map-append f sofar.done (x ∷ []));
  }

  -- after the last
  pub FiltersSome-end : FiltersSome f whole left made → left ≡ [] → made ≡ filter_map f whole
  FiltersSome-end sofar none = sofar.is ∙ ap (filter_map f) (sym (append-nil sofar.done) ∙ ap (λ l. sofar.done ++ l) (sym none) ∙ sofar.split)

-- before the first
pub FiltersSome-start : {X Y : Type 0} (f : X → Option Y) (whole left : List X) (made : List Y) → left ≡ whole → made ≡ [] → FiltersSome f whole left made
FiltersSome-start f whole left made all none = record { done = []; split = all; is = none }
