-- SPDX-License-Identifier: Apache-2.0
-- Where a fragment declares by maps, and its namespaces have names without `__cedar`: nothing stands twice in its world.
use Rattle.std.proofs.Common.{◌≡◌, ◌++◌, ◌||◌, ℕ, Bool, true, false, cond, not, List, [], ◌∷◌, map, codes, Option, Some, None, refl, sym, ap, ◌∙◌, subst}
use Rattle.std.proofs.lemmas.Cmp.{lists_total, nat_list_cmp_total}
use Rattle.std.specs.BTreeMap.{is_at}
use Rattle.std.specs.Cmp.{IsTotalOrder}
use Rattle.std.specs.Cmp.Lexicographic.{options_total}
use Rattle.std.specs.List.{filter}
use Rattle.std.specs.Map.{keys_of}
use Rattle.std.specs.Ordering.{is_eq}
use Rattle.std.specs.Prelude.{unwrap_or}
use Rattle.std.specs.declared.cmp.Ordering.{Ordering}
use Rattle.std.specs.declared.cmp.Ordering.TheVariants.{Less, Equal, Greater}
use Rattle.cedar_data.proofs.Exact.{IsExact, texts_exact}
use Rattle.cedar_data.specs.Firsts.{AllPass, FirstAgain}
use Rattle.cedar_data.specs.Maps.{IsSortedMap, map_of}
use Rattle.cedar_data.specs.Sets.{contains}
use Rattle.cedar_names.specs.Components.{has_cedar}
use Rattle.cedar_names.specs.Order.{word_cmp, words_cmp}
use Rattle.cedar_names.specs.of_text.Words.{primitive_words}
use Rattle.cedar_fragment_world.specs.of_convert_faults.Gathering.{namespace_cmp}
use Rattle.cedar_fragment_world.specs.of_convert_fragment.Fragments.{Definition, Fragment}
use Rattle.cedar_fragment_world.specs.FragmentFaults.{is_reserved}
use Rattle.cedar_fragment_world.specs.FragmentWorlds.{action_at, common_at, entity_at, full_name, namespace_of, world_of_fragment}
use Rattle.cedar_sound.proofs.NameOrders.{names_exact, uids_exact}
use Rattle.cedar_sound.proofs.NothingMissed.{pass_append, pass_each, pass_map, pass_weaker}
use Rattle.cedar_sound.proofs.SortedMaps.{itself, sorted-map_of}
use Rattle.cedar_sound.specs.Sound.{all_declared, declared_in}
use Rattle.cedar_sound.specs.of_duplicates.Duplicates.{Action, CommonType, Declared, EntityType, same_declared}
use Rattle.cedar_schema_error.specs.FullNames.{FullName, Uid, basename, uid_cmp}
use Rattle.cedar_schema_error.specs.NameReferences.{NameReference}
use Rattle.cedar_world.specs.Definitions.{Namespace, of_common_types}
use Rattle.cedar_world.specs.of_declared.Names.{Names, is_common, is_entity}
use Rattle.cedar_world.specs.of_unfold.Written.{Written}
use Rattle.cedar_world.specs.Worlds.{World, alias, aliases, all_namespaces, builtins, extension_type, is_free, own}
use Rattle.cedar_refusal_laws.proofs.Members.{pass_both, pass_each_item, pass_keys}
use Rattle.cedar_refusal_laws.proofs.Pairs.{Across, Apart, EachTwo, across, across_append, across_maps, entries_ascend, none_twice, two_append, two_flat, two_map, two_weaker}

-- ---- full names

-- the namespace of a full name
abbrev home : FullName → FullName
home [] = []
home (x ∷ []) = []
home (x ∷ y ∷ ys) = x ∷ home (y ∷ ys)

home_of : (ns : FullName) (word : List ℕ) → home (ns ++ word ∷ []) ≡ ns
home_of [] word = refl
home_of (x ∷ []) word = refl
home_of (x ∷ y ∷ ns) word = ap (λ l. x ∷ l) (home_of (y ∷ ns) word)

basename_of : (ns : FullName) (word : List ℕ) → basename (ns ++ word ∷ []) ≡ word
basename_of [] word = refl
basename_of (x ∷ []) word = refl
basename_of (x ∷ y ∷ ns) word = basename_of (y ∷ ns) word

home_is : (ns : Option FullName) (word : List ℕ) → home (full_name ns word) ≡ unwrap_or ns []
home_is None word = refl
home_is (Some ns) word = home_of ns word

basename_is : (ns : Option FullName) (word : List ℕ) → basename (full_name ns word) ≡ word
basename_is None word = refl
basename_is (Some ns) word = basename_of ns word

-- a namespace has no name, or one of a word at least
abbrev pub IsNamed : Option FullName → Type 0
IsNamed None = Unit {0}
IsNamed (Some []) = ⊥
IsNamed (Some (word ∷ words)) = Unit {0}

one_home : (a b : Option FullName) → IsNamed a → IsNamed b → unwrap_or a [] ≡ unwrap_or b [] → a ≡ b
one_home None None p q same = refl
one_home None (Some []) p q same = absurd q
one_home None (Some (x ∷ xs)) p q same = let none : ◌≡◌ {A = FullName} [] (x ∷ xs) = same in absurd (cc)
one_home (Some []) None p q same = absurd p
one_home (Some (x ∷ xs)) None p q same = let none : ◌≡◌ {A = FullName} (x ∷ xs) [] = same in absurd (cc)
one_home (Some a) (Some b) p q same = ap Some same

not_builtin : (ns : Option FullName) → is_reserved ns ≡ false → unwrap_or ns [] ≡ codes "__cedar" ∷ [] → ⊥
not_builtin None free same = let none : ◌≡◌ {A = FullName} [] (codes "__cedar" ∷ []) = same in absurd (cc)
not_builtin (Some ns) free same = let clash : true ≡ false = subst (λ name. has_cedar name ≡ false) same free in absurd (cc)

-- ---- orders

-- what differs is not tied
differ : {K : Type 0} {cmp : K → K → Ordering} → IsExact cmp → (a b : K) → (a ≡ b → ⊥) → is_at (cmp a) b ≡ false
differ {cmp = cmp} exact a b distinct = by (cmp a b) refl
  where
    by : (o : Ordering) → cmp a b ≡ o → is_eq o ≡ false
    by Less is = refl
    by Equal is = absurd (distinct (exact.exact a b is))
    by Greater is = refl

-- what is below another differs from it
less_differs : {K : Type 0} {cmp : K → K → Ordering} → IsTotalOrder cmp → (a b : K) → cmp a b ≡ Less → a ≡ b → ⊥
less_differs {cmp = cmp} total a b less same =
    let tied : cmp a b ≡ Equal = subst (λ x. cmp a x ≡ Equal) same (itself total a) in
    let clash : Less ≡ Equal = sym less ∙ tied in
    absurd (cc)

pub namespaces_total : IsTotalOrder namespace_cmp
namespaces_total = options_total (lists_total nat_list_cmp_total)

-- ---- what a namespace declares

-- the second of two declarations isn't the first
abbrev AreApart : Declared → Declared → Type 0
AreApart = Apart same_declared

module _ (ns : Namespace) where
  abbrev types : List Declared
  types = map EntityType (keys_of ns.entity_types)

  abbrev acts : List Declared
  acts = map Action (keys_of ns.actions)

  declared_pass : (P : Declared → Type 0) → AllPass (λ k. P (CommonType k)) (keys_of ns.common_types) → AllPass (λ k. P (EntityType k)) (keys_of ns.entity_types) → AllPass (λ k. P (Action k)) (keys_of ns.actions) → AllPass P (declared_in ns)
  declared_pass P c e a = pass_append P (map CommonType (keys_of ns.common_types)) (types ++ acts) (pass_map P CommonType (keys_of ns.common_types) c)
      (pass_append P types acts (pass_map P EntityType (keys_of ns.entity_types) e) (pass_map P Action (keys_of ns.actions) a))

  declared_apart : EachTwo (λ j k. is_at (words_cmp j) k ≡ false) (keys_of ns.common_types) → EachTwo (λ j k. is_at (words_cmp j) k ≡ false) (keys_of ns.entity_types)
      → EachTwo (λ j k. is_at (uid_cmp j) k ≡ false) (keys_of ns.actions) → EachTwo AreApart (declared_in ns)
  declared_apart c e a = two_append AreApart (map CommonType (keys_of ns.common_types)) (types ++ acts) (two_map AreApart CommonType (keys_of ns.common_types) c)
      (two_append AreApart types acts (two_map AreApart EntityType (keys_of ns.entity_types) e) (two_map AreApart Action (keys_of ns.actions) a)
      (across_maps AreApart EntityType Action (λ x y. refl) (keys_of ns.entity_types) (keys_of ns.actions)))
      (across_append AreApart (map CommonType (keys_of ns.common_types)) types acts
      (across_maps AreApart CommonType EntityType (λ x y. refl) (keys_of ns.common_types) (keys_of ns.entity_types))
      (across_maps AreApart CommonType Action (λ x y. refl) (keys_of ns.common_types) (keys_of ns.actions)))

-- keys that differ where words do, of words in order
keys_apart : {K V X : Type 0} {cmp : K → K → Ordering} → IsExact cmp → (at : List ℕ × V → K × X) → ((x y : List ℕ × V) → (at x).0 ≡ (at y).0 → x.0 ≡ y.0)
    → (es : List (List ℕ × V)) → IsSortedMap word_cmp es → EachTwo (λ j k. is_at (cmp j) k ≡ false) (keys_of (map at es))
keys_apart {K} {V} {X} {cmp} exact at words es sorted = two_map (λ j k. is_at (cmp j) k ≡ false) (λ (e : K × X). e.0) (map at es) (two_map (λ (x y : K × X). is_at (cmp x.0) y.0 ≡ false) at es
    (two_weaker (λ (x y : List ℕ × V). word_cmp x.0 y.0 ≡ Less) (λ x. Unit {0}) (λ x y. is_at (cmp (at x).0) (at y).0 ≡ false)
    (λ x y p q less. differ exact (at x).0 (at y).0 (λ same. less_differs texts_exact.total x.0 y.0 less (words x y same)))
    es (pass_each_item (λ x. Unit {0}) (λ x. tt) es) (entries_ascend word_cmp es sorted)))

-- ---- namespaces

-- the name of the declaration stands in this namespace
abbrev StandsIn : FullName → Declared → Type 0
StandsIn ns (CommonType name) = home name ≡ ns
StandsIn ns (EntityType name) = home name ≡ ns
StandsIn ns (Action uid) = home uid.ty ≡ ns

homes_apart : (p q : FullName) → (p ≡ q → ⊥) → (d e : Declared) → StandsIn p d → StandsIn q e → AreApart d e
homes_apart p q distinct (CommonType a) (CommonType b) x y = differ names_exact a b (λ same. distinct (sym x ∙ ap home same ∙ y))
homes_apart p q distinct (CommonType a) (EntityType b) x y = refl
homes_apart p q distinct (CommonType a) (Action b) x y = refl
homes_apart p q distinct (EntityType a) (CommonType b) x y = refl
homes_apart p q distinct (EntityType a) (EntityType b) x y = differ names_exact a b (λ same. distinct (sym x ∙ ap home same ∙ y))
homes_apart p q distinct (EntityType a) (Action b) x y = refl
homes_apart p q distinct (Action a) (CommonType b) x y = refl
homes_apart p q distinct (Action a) (EntityType b) x y = refl
homes_apart p q distinct (Action a) (Action b) x y = differ uids_exact a b (λ same. distinct (sym x ∙ ap (λ (u : Uid). home u.ty) same ∙ y))

-- no declaration of the first is one of the second
abbrev AreDisjoint : Namespace → Namespace → Type 0
AreDisjoint a b = Across AreApart (declared_in a) (declared_in b)

-- a namespace with a name without `__cedar`, or with none, that declares by maps
pub record DeclaresByMaps (n : Option FullName × Definition) : Type 0 where
  pub named : IsNamed n.0
  pub unreserved : is_reserved n.0 ≡ false
  pub common_types : IsSortedMap word_cmp n.1.common_types
  pub entity_types : IsSortedMap word_cmp n.1.entity_types
  pub actions : IsSortedMap word_cmp n.1.actions

own_stands : (n : Option FullName × Definition) → AllPass (StandsIn (unwrap_or n.0 [])) (declared_in (namespace_of n))
own_stands n = declared_pass (namespace_of n) (StandsIn (unwrap_or n.0 []))
    (pass_map (λ k. home k ≡ unwrap_or n.0 []) (λ e. e.0) (namespace_of n).common_types (pass_map (λ e. home e.0 ≡ unwrap_or n.0 []) (common_at n.0) n.1.common_types
    (pass_each_item (λ c. home (common_at n.0 c).0 ≡ unwrap_or n.0 []) (λ c. home_is n.0 c.0) n.1.common_types)))
    (pass_map (λ k. home k ≡ unwrap_or n.0 []) (λ e. e.0) (namespace_of n).entity_types (pass_map (λ e. home e.0 ≡ unwrap_or n.0 []) (entity_at n.0) n.1.entity_types
    (pass_each_item (λ e. home (entity_at n.0 e).0 ≡ unwrap_or n.0 []) (λ e. home_is n.0 e.0) n.1.entity_types)))
    (pass_map (λ (k : Uid). home k.ty ≡ unwrap_or n.0 []) (λ a. a.0) (namespace_of n).actions (pass_map (λ a. home a.0.ty ≡ unwrap_or n.0 []) (action_at n.0) n.1.actions
    (pass_each_item (λ a. home (action_at n.0 a).0.ty ≡ unwrap_or n.0 []) (λ a. home_is n.0 (codes "Action")) n.1.actions)))

one_word : (ns : Option FullName) (v w : List ℕ) → full_name ns v ≡ full_name ns w → v ≡ w
one_word ns v w same = sym (basename_is ns v) ∙ ap basename same ∙ basename_is ns w

own_apart : (n : Option FullName × Definition) → DeclaresByMaps n → EachTwo AreApart (declared_in (namespace_of n))
own_apart n is = declared_apart (namespace_of n)
    (keys_apart names_exact (common_at n.0) (λ x y. one_word n.0 x.0 y.0) n.1.common_types is.common_types)
    (keys_apart names_exact (entity_at n.0) (λ x y. one_word n.0 x.0 y.0) n.1.entity_types is.entity_types)
    (keys_apart uids_exact (action_at n.0) (λ x y same. ap (λ (u : Uid). u.id) same) n.1.actions is.actions)

own_disjoint : (n m : Option FullName × Definition) → DeclaresByMaps n → DeclaresByMaps m → namespace_cmp n.0 m.0 ≡ Less → AreDisjoint (namespace_of n) (namespace_of m)
own_disjoint n m p q less = across (StandsIn (unwrap_or n.0 [])) (StandsIn (unwrap_or m.0 [])) AreApart
    (homes_apart (unwrap_or n.0 []) (unwrap_or m.0 []) (λ same. less_differs namespaces_total n.0 m.0 less (one_home n.0 m.0 p.named q.named same)))
    (declared_in (namespace_of n)) (declared_in (namespace_of m)) (own_stands n) (own_stands m)

-- ---- builtin types and aliases

-- common types under these names
module _ (pairs : List (FullName × Written NameReference)) where
  abbrev Made : Namespace
  Made = of_common_types (map_of words_cmp pairs)

  made_pass : (P : Declared → Type 0) → AllPass (λ t. P (CommonType t.0)) pairs → AllPass P (declared_in Made)
  made_pass P all = declared_pass Made P (pass_map (λ k. P (CommonType k)) (λ e. e.0) (map_of words_cmp pairs) (pass_keys words_cmp (λ k. P (CommonType k)) pairs all)) tt tt

  made_apart : EachTwo AreApart (declared_in Made)
  made_apart = declared_apart Made (two_map (λ j k. is_at (words_cmp j) k ≡ false) (λ e. e.0) (map_of words_cmp pairs)
      (two_weaker (λ x y. words_cmp x.0 y.0 ≡ Less) (λ x. Unit {0}) (λ x y. is_at (words_cmp x.0) y.0 ≡ false) (λ x y p q less. ap is_eq less) (map_of words_cmp pairs)
      (pass_each_item (λ x. Unit {0}) (λ x. tt) (map_of words_cmp pairs)) (entries_ascend words_cmp (map_of words_cmp pairs) (sorted-map_of names_exact.total pairs)))) tt tt

builtins_stand : (extensions : List (List ℕ)) → AllPass (StandsIn (codes "__cedar" ∷ [])) (declared_in (Made (builtins extensions)))
builtins_stand extensions = made_pass (builtins extensions) (StandsIn (codes "__cedar" ∷ []))
    (refl, (refl, (refl, pass_map (λ e. home e.0 ≡ codes "__cedar" ∷ []) extension_type extensions (pass_each_item (λ w. home (extension_type w).0 ≡ codes "__cedar" ∷ []) (λ w. refl) extensions))))

aliases_stand : (declared : Names) (extensions : List (List ℕ)) → AllPass (StandsIn []) (declared_in (Made (aliases declared extensions)))
aliases_stand declared extensions = made_pass (aliases declared extensions) (StandsIn [])
    (pass_map (λ e. home e.0 ≡ []) alias (filter (is_free declared) (primitive_words ++ extensions)) (pass_each_item (λ w. home (alias w).0 ≡ []) (λ w. refl) (filter (is_free declared) (primitive_words ++ extensions))))

-- what a test keeps
kept_pass : {A : Type 0} (p : A → Bool) (Q : A → Type 0) → ((x : A) → p x ≡ true → Q x) → (xs : List A) → AllPass Q (filter p xs)
kept_pass p Q each [] = tt
kept_pass p Q each (x ∷ xs) = by (p x) refl (kept_pass p Q each xs)
  where
    by : (b : Bool) → p x ≡ b → AllPass Q (filter p xs) → AllPass Q (cond b (x ∷ filter p xs) (filter p xs))
    by true is rest = (each x is, rest)
    by false is rest = rest

neither : (a b : Bool) → not (a || b) ≡ true → a ≡ false
neither true b is = let clash : false ≡ true = is in absurd (cc)
neither false b is = refl

-- each name of a list is in it
contained_behind : (x : FullName) (xs ys : List FullName) → AllPass (λ y. contains words_cmp xs y ≡ true) ys → AllPass (λ y. contains words_cmp (x ∷ xs) y ≡ true) ys
contained_behind x xs ys all = pass_weaker (λ y. contains words_cmp xs y ≡ true) (λ y. contains words_cmp (x ∷ xs) y ≡ true) (λ y is. by (is_eq (words_cmp y x)) (contains words_cmp xs y) is) ys all
  where
    by : (a b : Bool) → b ≡ true → (a || b) ≡ true
    by true b is = refl
    by false b is = is

each_contained : (xs : List FullName) → AllPass (λ x. contains words_cmp xs x ≡ true) xs
each_contained [] = tt
each_contained (x ∷ xs) = (ap (λ o. is_eq o || contains words_cmp xs x) (itself names_exact.total x), contained_behind x xs xs (each_contained xs))

module _ (declared : Names) where
  -- a common type, if it is one, is a declared one
  abbrev IsDeclared : Declared → Type 0
  IsDeclared (CommonType name) = is_common declared name ≡ true
  IsDeclared (EntityType name) = Unit {0}
  IsDeclared (Action uid) = Unit {0}

  -- a common type that isn't declared
  abbrev IsNew : Declared → Type 0
  IsNew (CommonType name) = is_common declared name ≡ false
  IsNew (EntityType name) = ⊥
  IsNew (Action uid) = ⊥

  declared_or_new : (d e : Declared) → IsDeclared d → IsNew e → AreApart d e
  declared_or_new (CommonType a) (CommonType b) is new = differ names_exact a b (λ same. let clash : true ≡ false = sym is ∙ ap (is_common declared) same ∙ new in absurd (cc))
  declared_or_new (EntityType a) (CommonType b) is new = refl
  declared_or_new (Action a) (CommonType b) is new = refl
  declared_or_new d (EntityType b) is new = absurd new
  declared_or_new d (Action b) is new = absurd new

  aliases_new : (extensions : List (List ℕ)) → AllPass IsNew (declared_in (Made (aliases declared extensions)))
  aliases_new extensions = made_pass (aliases declared extensions) IsNew (pass_map (λ e. is_common declared e.0 ≡ false) alias (filter (is_free declared) (primitive_words ++ extensions))
      (kept_pass (is_free declared) (λ w. is_common declared (w ∷ []) ≡ false) (λ w. neither (is_common declared (w ∷ [])) (is_entity declared (w ∷ []))) (primitive_words ++ extensions)))

-- ---- the world

module _ (F : Fragment) (extensions : List (List ℕ)) (sorted : IsSortedMap namespace_cmp F) (maps : AllPass DeclaresByMaps F) where
  abbrev W : World
  W = world_of_fragment F extensions

  abbrev Builtins : Namespace
  Builtins = Made (builtins extensions)

  abbrev Aliases : Namespace
  Aliases = Made (aliases (own W) extensions)

  own_declared : AllPass (λ ns. AllPass (IsDeclared (own W)) (declared_in ns)) W.namespaces
  own_declared = pass_weaker (λ ns. AllPass (λ c. is_common (own W) c ≡ true) (keys_of ns.common_types)) (λ ns. AllPass (IsDeclared (own W)) (declared_in ns))
      (λ ns all. declared_pass ns (IsDeclared (own W)) all (pass_each_item (λ k. Unit {0}) (λ k. tt) (keys_of ns.entity_types)) (pass_each_item (λ k. Unit {0}) (λ k. tt) (keys_of ns.actions))) W.namespaces
      (pass_each (λ c. is_common (own W) c ≡ true) (λ ns. keys_of ns.common_types) W.namespaces (each_contained (own W).common_types))

  from_aliases : AllPass (λ ns. AreDisjoint ns Aliases) W.namespaces
  from_aliases = pass_weaker (λ ns. AllPass (IsDeclared (own W)) (declared_in ns)) (λ ns. AreDisjoint ns Aliases)
      (λ ns all. across (IsDeclared (own W)) (IsNew (own W)) AreApart (declared_or_new (own W)) (declared_in ns) (declared_in Aliases) all (aliases_new (own W) extensions)) W.namespaces own_declared

  from_builtins : AllPass (λ ns. AreDisjoint ns Builtins) W.namespaces
  from_builtins = pass_map (λ ns. AreDisjoint ns Builtins) namespace_of F (pass_weaker DeclaresByMaps (λ n. AreDisjoint (namespace_of n) Builtins)
      (λ n is. across (StandsIn (unwrap_or n.0 [])) (StandsIn (codes "__cedar" ∷ [])) AreApart (homes_apart (unwrap_or n.0 []) (codes "__cedar" ∷ []) (not_builtin n.0 is.unreserved))
      (declared_in (namespace_of n)) (declared_in Builtins) (own_stands n) (builtins_stand extensions)) F maps)

  builtins_aliases : AreDisjoint Builtins Aliases
  builtins_aliases = across (StandsIn (codes "__cedar" ∷ [])) (StandsIn []) AreApart (homes_apart (codes "__cedar" ∷ []) [] (λ same. let none : ◌≡◌ {A = FullName} (codes "__cedar" ∷ []) [] = same in absurd (cc)))
      (declared_in Builtins) (declared_in Aliases) (builtins_stand extensions) (aliases_stand (own W) extensions)

  all_disjoint : EachTwo AreDisjoint (all_namespaces W)
  all_disjoint = two_append AreDisjoint W.namespaces (Builtins ∷ Aliases ∷ [])
      (two_map AreDisjoint namespace_of F (two_weaker (λ n m. namespace_cmp n.0 m.0 ≡ Less) DeclaresByMaps (λ n m. AreDisjoint (namespace_of n) (namespace_of m)) own_disjoint F maps (entries_ascend namespace_cmp F sorted)))
      ((builtins_aliases, tt), (tt, tt))
      (pass_both (λ ns. AreDisjoint ns Builtins) (λ ns. AreDisjoint ns Aliases) (λ ns. AllPass (AreDisjoint ns) (Builtins ∷ Aliases ∷ [])) (λ ns b a. (b, (a, tt))) W.namespaces from_builtins from_aliases)

  each_apart : AllPass (λ ns. EachTwo AreApart (declared_in ns)) (all_namespaces W)
  each_apart = pass_append (λ ns. EachTwo AreApart (declared_in ns)) W.namespaces (Builtins ∷ Aliases ∷ [])
      (pass_map (λ ns. EachTwo AreApart (declared_in ns)) namespace_of F (pass_weaker DeclaresByMaps (λ n. EachTwo AreApart (declared_in (namespace_of n))) own_apart F maps))
      (made_apart (builtins extensions), (made_apart (aliases (own W) extensions), tt))

  pub declared_once : (d : Declared) → FirstAgain same_declared [] (all_declared (all_namespaces W)) d → ⊥
  declared_once = none_twice same_declared (all_declared (all_namespaces W)) (two_flat AreApart declared_in (all_namespaces W) each_apart all_disjoint)
