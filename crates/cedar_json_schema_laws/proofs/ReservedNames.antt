-- SPDX-License-Identifier: Apache-2.0
-- In a world that a fragment denotes, where it declares no common type under a reserved word, no such word means a record.
use Rattle.std.proofs.Common.{◌≡◌, ◌++◌, ℕ, Bool, true, false, cond, IsTrue, List, [], ◌∷◌, Option, Some, None, codes, map, flat_map, refl, sym, ap, ◌∙◌, subst}
use Rattle.std.specs.Prelude.{⊤}
use Rattle.std.specs.BTreeMap.{is_at}
use Rattle.std.specs.List.{AllByRecursion, filter, find}
use Rattle.std.specs.Ordering.{is_eq}
use Rattle.std.specs.declared.cmp.Ordering.{Ordering}
use Rattle.std.specs.declared.cmp.Ordering.TheVariants.{Less, Equal, Greater}
use Rattle.cedar_data.specs.Maps.{get, map_of}
use Rattle.cedar_names.proofs.NameOrder.{words_cmp-equal}
use Rattle.cedar_names.specs.Order.{words_cmp}
use Rattle.cedar_text.specs.Words.{primitive_words}
use Rattle.cedar_schema_error.specs.FullNames.{FullName, basename}
use Rattle.cedar_schema_error.specs.NameReferences.{NameReference}
use Rattle.cedar_tree.specs.Trees.{Text}
use Rattle.cedar_written.specs.CommonTypeIds.{is_reserved_basename}
use Rattle.cedar_declared.specs.Names.{is_declared}
use Rattle.cedar_unfold.specs.Meanings.{Meanings, MeansCommon}
use Rattle.cedar_unfold.specs.Resolved.{Resolved, is_record}
use Rattle.cedar_unfold.specs.Unfolds.{Unfolds, boolean, long, string, extension, common, either_common, either_entity}
use Rattle.cedar_unfold.specs.Written.{Written, Boolean, Long, String, Extension, Set, Record, Entity, EntityOrCommon, CommonTypeRef}
use Rattle.cedar_world.specs.Definitions.{Namespace}
use Rattle.cedar_world.specs.Worlds.{World, alias, aliases, all_namespaces, builtin_name, builtin_namespaces, builtins, common_types, extension_type, is_free, meanings, names, own, primitives}
use Rattle.cedar_convert_fragment.specs.Fragments.{Declared, Definition, Fragment, TypeAt}
use Rattle.cedar_fragment_world.specs.FragmentWorlds.{common_at, full_name, namespaces_of, possibilities, world_of_fragment}
use Rattle.cedar_json_schema_laws.proofs.Entries.{all_append, all_flat, all_of_map}
use Rattle.cedar_json_schema_laws.proofs.SeenFragments.{FreeKey}

-- ---- what common types are declared under reserved words

-- a builtin type, or the alias of one
abbrev pub IsBuiltin : FullName → Written NameReference → Type 0
IsBuiltin name Boolean = ⊤
IsBuiltin name Long = ⊤
IsBuiltin name String = ⊤
IsBuiltin name (Extension e) = ⊤
IsBuiltin name (EntityOrCommon r) = (word : List ℕ) × (name ≡ word ∷ []) × (r.possibilities ≡ builtin_name word ∷ [])
IsBuiltin name _ = ⊥

-- a common type whose basename is reserved is one of them
abbrev pub IsReserving : FullName × Written NameReference → Type 0
IsReserving c = is_reserved_basename (basename c.0) ≡ true → IsBuiltin c.0 c.1

basename-last : (ns : FullName) (word : List ℕ) → basename (ns ++ word ∷ []) ≡ word
basename-last [] word = refl
basename-last (x ∷ []) word = refl
basename-last (x ∷ y ∷ ns) word = basename-last (y ∷ ns) word

basename-full : (ns : Option FullName) (word : List ℕ) → basename (full_name ns word) ≡ word
basename-full None word = refl
basename-full (Some ns) word = basename-last ns word

-- the common types that a namespace declares, none under a reserved word
declared_reserving : (ns : Option FullName) (es : List (Text × Declared TypeAt)) → AllByRecursion {X = Text × Declared TypeAt} (λ e. FreeKey e.0) es → AllByRecursion IsReserving (map (common_at ns) es)
declared_reserving ns [] free = tt
declared_reserving ns (e ∷ es) free = (λ reserved. absurd (clash e.0 free.0 (ap is_reserved_basename (sym (basename-full ns e.0)) ∙ reserved)), declared_reserving ns es free.1)
  where
    clash : (key : Text) → is_reserved_basename key ≡ false → is_reserved_basename key ≡ true → ⊥
    clash key first second = absurd cc

-- no common type of the fragment stands under a reserved word
abbrev pub AreFreeCommons : Option FullName × Definition → Type 0
AreFreeCommons n = AllByRecursion (λ e. FreeKey e.0) n.1.common_types

abbrev AllReserving : Namespace → Type 0
AllReserving ns = AllByRecursion IsReserving ns.common_types

own_reserving : (F : Fragment) → AllByRecursion AreFreeCommons F → AllByRecursion AllReserving (namespaces_of F)
own_reserving [] free = tt
own_reserving (n ∷ F) free = (declared_reserving n.0 n.1.common_types free.0, own_reserving F free.1)

-- the map of such entries
made_reserving : (es : List (FullName × Written NameReference)) → AllByRecursion IsReserving es → AllByRecursion IsReserving (map_of words_cmp es)
made_reserving es all = all_of_map words_cmp IsReserving (λ k k' v v' is new old. subst (λ k. IsReserving (k, v)) ((words_cmp-equal k k').0 is) new) es all

extensions_reserving : (words : List (List ℕ)) → AllByRecursion IsReserving (map extension_type words)
extensions_reserving [] = tt
extensions_reserving (w ∷ words) = (λ reserved. tt, extensions_reserving words)

aliases_reserving : (words : List (List ℕ)) → AllByRecursion IsReserving (map alias words)
aliases_reserving [] = tt
aliases_reserving (w ∷ words) = (λ reserved. (w, refl, refl), aliases_reserving words)

module _ (F : Fragment) (extensions : List (List ℕ)) (free : AllByRecursion AreFreeCommons F) where
  abbrev W : World
  W = world_of_fragment F extensions

  builtins_reserving : AllByRecursion AllReserving (builtin_namespaces (own W) extensions)
  builtins_reserving = (
    made_reserving (builtins extensions) (all_append IsReserving primitives (map extension_type extensions) (λ reserved. tt, (λ reserved. tt, (λ reserved. tt, tt))) (extensions_reserving extensions)),
    (made_reserving (aliases (own W) extensions) (aliases_reserving (filter (is_free (own W)) (primitive_words ++ extensions))), tt),
  )

  commons_reserving : AllByRecursion IsReserving (common_types W)
  commons_reserving =
      made_reserving (flat_map (λ ns. ns.common_types) (all_namespaces W))
      (all_flat AllReserving IsReserving (λ ns. ns.common_types) (λ ns here. here) (all_namespaces W)
      (all_append AllReserving (namespaces_of F) (builtin_namespaces (own W) extensions) (own_reserving F free) builtins_reserving))

  -- ---- what they unfold to

  abbrev m : Meanings NameReference
  m = meanings W

  at_equal : (o : Ordering) → is_eq o ≡ true → o ≡ Equal
  at_equal Less e = absurd cc
  at_equal Equal e = refl
  at_equal Greater e = absurd cc

  -- what is found at a name
  found_reserving : (es : List (FullName × Written NameReference)) (name : FullName) (t : Written NameReference) → AllByRecursion IsReserving es → get words_cmp es name ≡ Some t → IsReserving (name, t)
  found_reserving [] name t all found = absurd cc
  found_reserving (e ∷ es) name t all found = by (is_at (words_cmp name) e.0) refl found (found_reserving es name t all.1)
    where
      by : (b : Bool) → is_at (words_cmp name) e.0 ≡ b → cond b (Some e.1) (get words_cmp es name) ≡ Some t → (get words_cmp es name ≡ Some t → IsReserving (name, t)) → IsReserving (name, t)
      by true at found rest =
          let same : name ≡ e.0 = (words_cmp-equal name e.0).0 (at_equal (words_cmp name e.0) at) in
          let one : e.1 ≡ t = cc in
          subst (λ (c : FullName × Written NameReference). IsReserving c) (λ i. (sym same i, one i)) all.0
      by false at found rest = rest found

  -- what holds of each of some names holds of the one that is found
  found_among : (Q : FullName → Type 0) (p : FullName → Bool) (xs : List FullName) (name : FullName) → AllByRecursion Q xs → find p xs ≡ Some name → Q name
  found_among Q p [] name all found = absurd cc
  found_among Q p (x ∷ xs) name all found = by (p x) found (found_among Q p xs name all.1)
    where
      by : (b : Bool) → cond b (Some x) (find p xs) ≡ Some name → (find p xs ≡ Some name → Q name) → Q name
      by true found rest = let one : x ≡ name = cc in subst Q one all.0
      by false found rest = rest found

  -- a builtin type is no record
  abbrev IsPlain : Written NameReference → Type 0
  IsPlain Boolean = ⊤
  IsPlain Long = ⊤
  IsPlain String = ⊤
  IsPlain (Extension e) = ⊤
  IsPlain _ = ⊥

  no_record : false ≡ true → ⊥
  no_record e = absurd cc

  plain_no_record : (t : Written NameReference) (T : Resolved) → IsPlain t → Unfolds m t T → IsTrue (is_record T) → ⊥
  plain_no_record Boolean _ plain boolean e = no_record e
  plain_no_record Long _ plain long e = no_record e
  plain_no_record String _ plain string e = no_record e
  plain_no_record (Extension x) _ plain (extension is) e = no_record e
  plain_no_record (Set t) T plain u e = plain
  plain_no_record (Record ws b) T plain u e = plain
  plain_no_record (Entity r) T plain u e = plain
  plain_no_record (EntityOrCommon r) T plain u e = plain
  plain_no_record (CommonTypeRef r) T plain u e = plain

  -- nor is what is builtin under a name of two words
  two_words : (word : List ℕ) (t : Written NameReference) → IsBuiltin (builtin_name word) t → IsPlain t
  two_words word Boolean builtin = tt
  two_words word Long builtin = tt
  two_words word String builtin = tt
  two_words word (Extension e) builtin = tt
  two_words word (EntityOrCommon r) builtin = let wrong : codes "__cedar" ∷ word ∷ [] ≡ builtin.0 ∷ [] = builtin.1 in absurd cc
  two_words word (Set t) builtin = builtin
  two_words word (Record ws b) builtin = builtin
  two_words word (Entity r) builtin = builtin
  two_words word (CommonTypeRef r) builtin = builtin

  means_reserving : (r : NameReference) (t : Written NameReference) (means : MeansCommon m r t) → IsReserving (means.name, t)
  means_reserving r t means = found_reserving (common_types W) means.name t commons_reserving means.defined

  -- the alias of a reserved word
  alias_no_record : (r : NameReference) (word : List ℕ) (T : Resolved) → r.possibilities ≡ builtin_name word ∷ [] → is_reserved_basename word ≡ true → Unfolds m (EntityOrCommon r) T → IsTrue (is_record T) → ⊥
  alias_no_record r word _ one reserved (either_entity means) e = no_record e
  alias_no_record r word T one reserved (either_common {t = t} means u) e =
      let all : AllByRecursion (λ name. builtin_name word ≡ name) r.possibilities = subst (AllByRecursion (λ name. builtin_name word ≡ name)) (sym one) (refl, tt) in
      let same : builtin_name word ≡ means.name = found_among (λ name. builtin_name word ≡ name) (is_declared (names W) r.kind) r.possibilities means.name all means.targeted in
      let here : IsReserving (builtin_name word, t) = subst (λ name. IsReserving (name, t)) (sym same) (means_reserving r t means) in
      plain_no_record t T (two_words word t (here reserved)) u e

  builtin_no_record : (name : FullName) (t : Written NameReference) (T : Resolved) → IsBuiltin name t → is_reserved_basename (basename name) ≡ true → Unfolds m t T → IsTrue (is_record T) → ⊥
  builtin_no_record name Boolean T builtin reserved u e = plain_no_record Boolean T tt u e
  builtin_no_record name Long T builtin reserved u e = plain_no_record Long T tt u e
  builtin_no_record name String T builtin reserved u e = plain_no_record String T tt u e
  builtin_no_record name (Extension x) T builtin reserved u e = plain_no_record (Extension x) T tt u e
  builtin_no_record name (EntityOrCommon r) T builtin reserved u e = alias_no_record r builtin.0 T builtin.2 (ap (λ name. is_reserved_basename (basename name)) (sym builtin.1) ∙ reserved) u e
  builtin_no_record name (Set t) T builtin reserved u e = builtin
  builtin_no_record name (Record ws b) T builtin reserved u e = builtin
  builtin_no_record name (Entity r) T builtin reserved u e = builtin
  builtin_no_record name (CommonTypeRef r) T builtin reserved u e = builtin

  -- no reference to a common type of a reserved basename means a record
  pub reserved_no_record : (r : NameReference) (word : List ℕ) (T : Resolved) → AllByRecursion (λ name. basename name ≡ word) r.possibilities → is_reserved_basename word ≡ true
      → Unfolds m (CommonTypeRef r) T → IsTrue (is_record T) → ⊥
  reserved_no_record r word T all reserved (common {t = t} means u) e =
      let same : basename means.name ≡ word = found_among (λ name. basename name ≡ word) (is_declared (names W) r.kind) r.possibilities means.name all means.targeted in
      let here : is_reserved_basename (basename means.name) ≡ true = ap is_reserved_basename same ∙ reserved in
      builtin_no_record means.name t T (means_reserving r t means here) here u e

-- the names that a word may stand for end with it
pub word_possibilities : (ns : Option FullName) (words : FullName) (word : List ℕ) → words ≡ word ∷ [] → AllByRecursion (λ name. basename name ≡ word) (possibilities ns words)
word_possibilities ns words word is = subst (λ words. AllByRecursion (λ name. basename name ≡ word) (possibilities ns words)) (sym is) (by ns)
  where
    by : (ns : Option FullName) → AllByRecursion (λ name. basename name ≡ word) (possibilities ns (word ∷ []))
    by None = (refl, tt)
    by (Some ns) = (basename-last ns word, (refl, tt))
