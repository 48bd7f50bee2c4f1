-- SPDX-License-Identifier: Apache-2.0
-- What namespaces declare, as one list: each declaration with its place.
use Rattle.std.proofs.Common.{◌≡◌, ◌++◌, ◌&&◌, ℕ, Bool, true, false, cond, List, [], ◌∷◌, map, Option, Some, None, option_map, refl, ap, ◌∙◌, subst}
use Rattle.std.proofs.lemmas.Cmp.{nat_cmp_total}
use Rattle.std.proofs.lemmas.Map.Keys.{sorted_tail}
use Rattle.std.specs.BTreeMap.{is_at}
use Rattle.std.specs.List.{flat_map}
use Rattle.std.specs.List.Sorted.{IsStrictlySortedBy}
use Rattle.std.specs.Map.{keys_of}
use Rattle.std.specs.Option.{option_and_then, option_or}
use Rattle.std.specs.Ordering.{is_eq, nat_cmp, ordering_then}
use Rattle.std.specs.declared.cmp.Ordering.{Ordering}
use Rattle.std.specs.declared.cmp.Ordering.TheVariants.{Less, Equal, Greater}
use Rattle.cedar_data.proofs.Passing.{AllPass-append, AllPass-map}
use Rattle.cedar_data.proofs.RunOrder.{sorted_first}
use Rattle.cedar_data.specs.Firsts.{AllPass}
use Rattle.cedar_data.specs.Maps.{IsSortedMap, get}
use Rattle.cedar_names.specs.Identifiers.{unreserved_word}
use Rattle.cedar_names.specs.Order.{word_cmp}
use Rattle.cedar_names.specs.declared.name.Name.{Name}
use Rattle.cedar_convert_fragment.specs.Views.{definition_seen, namespaces_seen}
use Rattle.cedar_merge.specs.Lookups.{Declaration, Definition, Path, Place, action, at, at_word, common_type, common_word, declared_in, entity_type, path_cmp, path_of}
use Rattle.cedar_merge.specs.Merged.{place_cmp, rank}
use Rattle.cedar_merge.specs.declared.errors.DeclKind.{DeclKind}
use Rattle.cedar_merge.specs.declared.errors.DeclKind.TheVariants.{Common, Entity, Action}
use Rattle.cedar_merge.proofs.Orders.{paths_exact, tied}
use Rattle.cedar_merge.proofs.PairLaws.{or-none}
use Rattle.cedar_merge.proofs.Words.{is_same}
use Rattle.cedar_merge_laws.specs.Together.{DefinitionInOrder}
use Rattle.cedar_merge_laws.proofs.Matching.{differ_none, get-append, unlike}
use Rattle.cedar_resolving_laws.proofs.Reordering.{Each2}

-- a place, with what is declared there
abbrev pub Row : Type 0
Row = Place × Declaration

-- what a namespace declares under a name
abbrev pub row : {K V : Type 0} → Path → DeclKind → (K → List ℕ) → (V → Declaration) → K × V → Row
row ns kind word make e = (record { namespace = ns; kind = kind; name = word e.0 }, make e.1)

-- what a namespace declares
abbrev pub rows_in : Path → Definition → List Row
rows_in ns d =
    map (row ns Common common_word common_type) d.common_types
    ++ (map (row ns Entity unreserved_word entity_type) d.entity_types ++ map (row ns Action (λ id. id) action) d.actions)

abbrev pub rows_of : Option Name × Definition → List Row
rows_of n = rows_in (path_of n.0) n.1

abbrev pub rows : List (Option Name × Definition) → List Row
rows ns = flat_map rows_of ns

-- ---- what is found at a place

module _ {K V : Type 0} (ns : Path) (kind : DeclKind) (word : K → List ℕ) (make : V → Declaration) (p : Place) where
  kind_found : (es : List (K × V)) → get place_cmp (map (row ns kind word make) es) p
      ≡ cond (is_eq (path_cmp p.namespace ns) && is_eq (nat_cmp (rank p.kind) (rank kind))) (option_map make (at_word word es p.name)) None
  kind_found [] = none (is_eq (path_cmp p.namespace ns) && is_eq (nat_cmp (rank p.kind) (rank kind)))
    where
      none : (b : Bool) → None ≡ cond b (option_map make None) None
      none true = refl
      none false = refl
  kind_found (e ∷ es) =
      by (path_cmp p.namespace ns) (nat_cmp (rank p.kind) (rank kind)) (word_cmp p.name (word e.0)) (get place_cmp (map (row ns kind word make) es) p) (at_word word es p.name) (kind_found es)
    where
      by : (a b c : Ordering) (rest : Option Declaration) (o : Option V) → rest ≡ cond (is_eq a && is_eq b) (option_map make o) None
          → cond (is_eq (ordering_then a (ordering_then b c))) (Some (make e.1)) rest ≡ cond (is_eq a && is_eq b) (option_map make (cond (is_eq c) (Some e.1) o)) None
      by Less b c rest o h = h
      by Greater b c rest o h = h
      by Equal Less c rest o h = h
      by Equal Greater c rest o h = h
      by Equal Equal Less rest o h = h
      by Equal Equal Greater rest o h = h
      by Equal Equal Equal rest o h = refl

found_in : (ns : Path) (d : Definition) (p : Place) → get place_cmp (rows_in ns d) p ≡ cond (is_eq (path_cmp p.namespace ns)) (declared_in p.kind p.name d) None
found_in ns d p =
    let commons = map (row ns Common common_word common_type) d.common_types in
    let entities = map (row ns Entity unreserved_word entity_type) d.entity_types in
    let actions = map (row ns Action (λ id. id) action) d.actions in
    let others = get-append place_cmp entities actions p ∙ (λ i. option_or (kind_found ns Entity unreserved_word entity_type p d.entity_types i) (kind_found ns Action (λ id. id) action p d.actions i)) in
    get-append place_cmp commons (entities ++ actions) p
    ∙ (λ i. option_or (kind_found ns Common common_word common_type p d.common_types i) (others i))
    ∙ by (is_eq (path_cmp p.namespace ns)) p.kind
  where
    by : (b : Bool) (kind : DeclKind) → option_or (cond (b && is_eq (nat_cmp (rank kind) (rank Common))) (option_map common_type (at_word common_word d.common_types p.name)) None)
        (option_or (cond (b && is_eq (nat_cmp (rank kind) (rank Entity))) (option_map entity_type (at_word unreserved_word d.entity_types p.name)) None)
        (cond (b && is_eq (nat_cmp (rank kind) (rank Action))) (option_map action (at_word (λ id. id) d.actions p.name)) None))
        ≡ cond b (declared_in kind p.name d) None
    by true Common = or-none (option_map common_type (at_word common_word d.common_types p.name))
    by true Entity = or-none (option_map entity_type (at_word unreserved_word d.entity_types p.name))
    by true Action = refl
    by false Common = refl
    by false Entity = refl
    by false Action = refl

-- namespaces in the order of their names, whatever they declare
abbrev pub Ascending : List (Option Name × Definition) → Type 0
Ascending ns = IsSortedMap path_cmp (map (λ n. (path_of n.0, n.1)) ns)

same_keys : (ns : List (Option Name × Definition)) → keys_of (namespaces_seen ns) ≡ keys_of (map (λ n. (path_of n.0, n.1)) ns)
same_keys [] = refl
same_keys (n ∷ ns) = ap (λ ks. path_of n.0 ∷ ks) (same_keys ns)

pub ascending : (ns : List (Option Name × Definition)) → IsSortedMap path_cmp (namespaces_seen ns) → Ascending ns
ascending ns sorted = subst (IsStrictlySortedBy path_cmp) (same_keys ns) sorted

-- at each place is found what is declared there
pub found : (ns : List (Option Name × Definition)) → Ascending ns → (p : Place) → get place_cmp (rows ns) p ≡ option_and_then (declared_in p.kind p.name) (at path_cmp path_of ns p.namespace)
found [] sorted p = refl
found (n ∷ ns) sorted p =
    get-append place_cmp (rows_of n) (rows ns) p
    ∙ (λ i. option_or (found_in (path_of n.0) n.1 p i) (found ns (sorted_tail path_cmp (path_of n.0) (keys_of (map (λ n. (path_of n.0, n.1)) ns)) sorted) p i))
    ∙ by (is_at (path_cmp p.namespace) (path_of n.0)) refl
  where
    absent : at path_cmp path_of ns (path_of n.0) ≡ None
    absent =
        let others = map (λ (n : Option Name × Definition). (path_of n.0, n.1)) ns in
        differ_none path_cmp (path_of n.0) others (AllPass-map (λ e less. unlike (path_cmp (path_of n.0) e.0) less) others (sorted_first path_cmp (path_of n.0, n.1) others sorted))

    by : (b : Bool) → is_at (path_cmp p.namespace) (path_of n.0) ≡ b
        → option_or (cond b (declared_in p.kind p.name n.1) None) (option_and_then (declared_in p.kind p.name) (at path_cmp path_of ns p.namespace))
        ≡ option_and_then (declared_in p.kind p.name) (cond b (Some n.1) (at path_cmp path_of ns p.namespace))
    by true is =
        ap (λ o. option_or (declared_in p.kind p.name n.1) (option_and_then (declared_in p.kind p.name) o)) (ap (at path_cmp path_of ns) (is_same paths_exact p.namespace (path_of n.0) is) ∙ absent)
        ∙ or-none (declared_in p.kind p.name n.1)
    by false is = refl

-- ---- the order of places

-- the place of the first is less
abbrev pub Before : Row → Row → Type 0
Before a b = place_cmp a.0 b.0 ≡ Less

module _ {A : Type 0} (R : A → A → Type 0) where
  pub each2_append : (xs ys : List A) → Each2 R xs → Each2 R ys → AllPass (λ x. AllPass (R x) ys) xs → Each2 R (xs ++ ys)
  each2_append [] ys hx hy c = hy
  each2_append (x ∷ xs) ys hx hy c = (AllPass-append (R x) xs ys hx.0 c.0, each2_append xs ys hx.1 hy c.1)

  pub crossed : (P Q : A → Type 0) → ((x y : A) → P x → Q y → R x y) → (xs ys : List A) → AllPass P xs → AllPass Q ys → AllPass (λ x. AllPass (R x) ys) xs
  crossed P Q f [] ys p q = tt
  crossed P Q f (x ∷ xs) ys p q = (AllPass-map (λ y. f x y p.0) ys q, crossed P Q f xs ys p.1 q)

-- a row of this namespace and this kind
abbrev Of : Path → DeclKind → Row → Type 0
Of ns kind r = (r.0.namespace ≡ ns) × (r.0.kind ≡ kind)

-- of this namespace, and of a kind whose rank is greater
abbrev Behind : Path → DeclKind → Row → Type 0
Behind ns kind r = (r.0.namespace ≡ ns) × (nat_cmp (rank kind) (rank r.0.kind) ≡ Less)

module _ {K V : Type 0} (ns : Path) (kind : DeclKind) (word : K → List ℕ) (make : V → Declaration) where
  all_of : (es : List (K × V)) → AllPass (Of ns kind) (map (row ns kind word make) es)
  all_of [] = tt
  all_of (e ∷ es) = ((refl, refl), all_of es)

  all_behind : (before : DeclKind) → nat_cmp (rank before) (rank kind) ≡ Less → (es : List (K × V)) → AllPass (Behind ns before) (map (row ns kind word make) es)
  all_behind before less [] = tt
  all_behind before less (e ∷ es) = ((refl, less), all_behind before less es)

  -- one kind in the order of the names
  kind_ordered : {S : Type 0} (see : V → S) (es : List (K × V)) → IsSortedMap word_cmp (map (λ e. (word e.0, see e.1)) es) → Each2 Before (map (row ns kind word make) es)
  kind_ordered see [] sorted = tt
  kind_ordered {S} see (e ∷ es) sorted = (
    by es (sorted_first word_cmp (word e.0, see e.1) (map (λ e. (word e.0, see e.1)) es) sorted),
    kind_ordered see es (sorted_tail word_cmp (word e.0) (keys_of (map (λ e. (word e.0, see e.1)) es)) sorted),
  )
    where
      by : (fs : List (K × V)) → AllPass (λ (f : List ℕ × S). word_cmp (word e.0) f.0 ≡ Less) (map (λ e. (word e.0, see e.1)) fs) → AllPass (Before (row ns kind word make e)) (map (row ns kind word make) fs)
      by [] h = tt
      by (f ∷ fs) h = ((λ i. ordering_then (tied paths_exact.total ns i) (ordering_then (tied nat_cmp_total (rank kind) i) (h.0 i))), by fs h.1)

of_before : (ns : Path) (kind : DeclKind) (a b : Row) → Of ns kind a → Behind ns kind b → Before a b
of_before ns kind a b p q =
    (λ i. ordering_then (path_cmp (p.0 i) (q.0 i)) (ordering_then (nat_cmp (rank (p.1 i)) (rank b.0.kind)) (word_cmp a.0.name b.0.name)))
    ∙ (λ i. ordering_then (tied paths_exact.total ns i) (ordering_then (q.1 i) (word_cmp a.0.name b.0.name)))

-- a namespace in the order of its places
ordered_in : (ns : Path) (d : Definition) → DefinitionInOrder (definition_seen d) → Each2 Before (rows_in ns d)
ordered_in ns d sorted =
    let commons = map (row ns Common common_word common_type) d.common_types in
    let entities = map (row ns Entity unreserved_word entity_type) d.entity_types in
    let actions = map (row ns Action (λ id. id) action) d.actions in
    each2_append Before commons (entities ++ actions)
    (kind_ordered ns Common common_word common_type _ d.common_types sorted.common_types)
    (each2_append Before entities actions
    (kind_ordered ns Entity unreserved_word entity_type _ d.entity_types sorted.entity_types)
    (kind_ordered ns Action (λ id. id) action _ d.actions sorted.actions)
    (crossed Before (Of ns Entity) (Behind ns Entity) (of_before ns Entity) entities actions (all_of ns Entity unreserved_word entity_type d.entity_types) (all_behind ns Action (λ id. id) action Entity refl d.actions)))
    (crossed Before (Of ns Common) (Behind ns Common) (of_before ns Common) commons (entities ++ actions) (all_of ns Common common_word common_type d.common_types)
    (AllPass-append (Behind ns Common) entities actions (all_behind ns Entity unreserved_word entity_type Common refl d.entity_types) (all_behind ns Action (λ id. id) action Common refl d.actions)))

-- rows of this namespace
abbrev In : Path → Row → Type 0
In ns r = r.0.namespace ≡ ns

abbrev Above : Path → Row → Type 0
Above ns r = path_cmp ns r.0.namespace ≡ Less

of_in : (ns : Path) (kind : DeclKind) (r : Row) → Of ns kind r → In ns r
of_in ns kind r h = h.0

all_in : (ns : Path) (d : Definition) → AllPass (In ns) (rows_in ns d)
all_in ns d =
    let commons = map (row ns Common common_word common_type) d.common_types in
    let entities = map (row ns Entity unreserved_word entity_type) d.entity_types in
    let actions = map (row ns Action (λ id. id) action) d.actions in
    AllPass-append (In ns) commons (entities ++ actions) (AllPass-map (of_in ns Common) commons (all_of ns Common common_word common_type d.common_types))
    (AllPass-append (In ns) entities actions (AllPass-map (of_in ns Entity) entities (all_of ns Entity unreserved_word entity_type d.entity_types))
    (AllPass-map (of_in ns Action) actions (all_of ns Action (λ id. id) action d.actions)))

all_above : (ns : Path) (ms : List (Option Name × Definition)) → AllPass (λ (e : Path × Definition). path_cmp ns e.0 ≡ Less) (map (λ n. (path_of n.0, n.1)) ms) → AllPass (Above ns) (rows ms)
all_above ns [] h = tt
all_above ns (m ∷ ms) h =
    AllPass-append (Above ns) (rows_of m) (rows ms) (AllPass-map (λ r is. ap (path_cmp ns) is ∙ h.0) (rows_of m) (all_in (path_of m.0) m.1)) (all_above ns ms h.1)

above_before : (ns : Path) (a b : Row) → In ns a → Above ns b → Before a b
above_before ns a b p q =
    let rest : Ordering = ordering_then (nat_cmp (rank a.0.kind) (rank b.0.kind)) (word_cmp a.0.name b.0.name) in
    ap (λ o. ordering_then o rest) (ap (λ v. path_cmp v b.0.namespace) p ∙ q)

-- all namespaces in the order of their places
pub ordered : (ns : List (Option Name × Definition)) → Ascending ns → AllPass (λ n. DefinitionInOrder n.1) (namespaces_seen ns) → Each2 Before (rows ns)
ordered [] sorted each = tt
ordered (n ∷ ns) sorted each =
    let others = map (λ (n : Option Name × Definition). (path_of n.0, n.1)) ns in
    each2_append Before (rows_of n) (rows ns) (ordered_in (path_of n.0) n.1 each.0)
    (ordered ns (sorted_tail path_cmp (path_of n.0) (keys_of others) sorted) each.1)
    (crossed Before (In (path_of n.0)) (Above (path_of n.0)) (above_before (path_of n.0)) (rows_of n) (rows ns) (all_in (path_of n.0) n.1) (all_above (path_of n.0) ns (sorted_first path_cmp (path_of n.0, n.1) others sorted)))
