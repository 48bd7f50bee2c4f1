-- SPDX-License-Identifier: Apache-2.0
-- What a world declares: entity types of the caller, and common types of the caller, builtin types and aliases; and what a builtin type is.
use Rattle.std.proofs.Common.{◌≡◌, ◌++◌, ◌||◌, ℕ, Bool, true, false, List, [], ◌∷◌, Option, Some, None, refl, sym, ap, ◌∙◌, subst}
use Rattle.std.proofs.lemmas.Grind.{flat_map-append}
use Rattle.std.proofs.lemmas.List.{append-nil}
use Rattle.std.proofs.lemmas.List.Folds.{list_any-append}
use Rattle.std.specs.BTreeMap.{is_at}
use Rattle.std.specs.List.{flat_map, list_any}
use Rattle.std.specs.Map.{keys_of}
use Rattle.std.specs.Option.{is_some}
use Rattle.cedar_data.specs.Firsts.{AllPass}
use Rattle.cedar_data.specs.Maps.{get, map_of}
use Rattle.cedar_data.specs.Sets.{contains}
use Rattle.cedar_declared.specs.Names.{is_common, is_entity}
use Rattle.cedar_names.specs.Components.{has_cedar}
use Rattle.cedar_names.specs.Order.{words_cmp}
use Rattle.cedar_reread_world.specs.Rewritten.{Printable}
use Rattle.cedar_reread_world.proofs.Builtins.{IsAliasEntry, IsBuiltinEntry, alias_entries, builtin_entries, each_stands}
use Rattle.cedar_reread_world.proofs.Maps.{Has, Says, entries_pass, entry_of, has_put, keys_flat, keys_in_map, put, same_key, some_in_map}
use Rattle.cedar_reread_world.proofs.Tests.{or_left}
use Rattle.cedar_schema_error.specs.FullNames.{FullName}
use Rattle.cedar_schema_error.specs.NameReferences.{NameReference}
use Rattle.cedar_sound.proofs.NameOrders.{names_exact}
use Rattle.cedar_sound.proofs.NothingMissed.{pass_append}
use Rattle.cedar_text.specs.Words.{has_word, primitive_words}
use Rattle.cedar_unfold.specs.Meanings.{definition_of}
use Rattle.cedar_unfold.specs.Written.{Written}
use Rattle.cedar_world.specs.Definitions.{Namespace}
use Rattle.cedar_world.specs.Worlds.{World, aliases, all_namespaces, builtin_name, builtin_namespaces, builtins, common_types, is_free, meanings, names, own}

module _ (W : World) where
  -- what is asked of the name of a common type
  pub data CommonIs (n : FullName) : Type 0 where
    callers : is_common (own W) n ≡ true → CommonIs n
    builtin : (word : List ℕ) → n ≡ builtin_name word → CommonIs n
    aliased : (word : List ℕ) → n ≡ word ∷ [] → is_free (own W) word ≡ true → has_word (primitive_words ++ W.extensions) word ≡ true → CommonIs n

  abbrev alias_pairs : List (FullName × Written NameReference)
  alias_pairs = aliases (own W) W.extensions

  -- an entity type is the caller's
  pub entity_own : (n : FullName) → is_entity (names W) n ≡ is_entity (own W) n
  entity_own n = ap (list_any (is_at (words_cmp n))) (flat_map-append (λ (ns : Namespace). keys_of ns.entity_types) W.namespaces (builtin_namespaces (own W) W.extensions)
      ∙ append-nil (flat_map (λ (ns : Namespace). keys_of ns.entity_types) W.namespaces))

  abbrev in_builtins : FullName → Bool
  in_builtins n = contains words_cmp (keys_of (map_of words_cmp (builtins W.extensions))) n

  abbrev in_aliases : FullName → Bool
  in_aliases n = contains words_cmp (keys_of (map_of words_cmp alias_pairs)) n

  -- a common type is the caller's, a builtin type, or an alias
  common_parts : (n : FullName) → is_common (names W) n ≡ (is_common (own W) n || (in_builtins n || in_aliases n))
  common_parts n =
      ap (list_any (is_at (words_cmp n))) (flat_map-append (λ (ns : Namespace). keys_of ns.common_types) W.namespaces (builtin_namespaces (own W) W.extensions))
      ∙ list_any-append (is_at (words_cmp n)) (own W).common_types (keys_of (map_of words_cmp (builtins W.extensions)) ++ (keys_of (map_of words_cmp alias_pairs) ++ []))
      ∙ ap (λ b. is_common (own W) n || b) (list_any-append (is_at (words_cmp n)) (keys_of (map_of words_cmp (builtins W.extensions))) (keys_of (map_of words_cmp alias_pairs) ++ [])
      ∙ ap (λ l. in_builtins n || list_any (is_at (words_cmp n)) l) (append-nil (keys_of (map_of words_cmp alias_pairs))))

  pub common_is : (n : FullName) → is_common (names W) n ≡ true → CommonIs n
  common_is n e = by (is_common (own W) n) refl (sym (common_parts n) ∙ e)
    where
      of_alias : in_aliases n ≡ true → CommonIs n
      of_alias e =
          let found = entry_of names_exact (IsAliasEntry (own W) (primitive_words ++ W.extensions)) (map_of words_cmp alias_pairs) n
          (entries_pass names_exact (IsAliasEntry (own W) (primitive_words ++ W.extensions)) alias_pairs
          (alias_entries (own W) (primitive_words ++ W.extensions) (primitive_words ++ W.extensions) (each_stands (primitive_words ++ W.extensions)))) e in
          aliased found.2.word (found.1 ∙ found.2.name_is) found.2.free found.2.is_known

      of_builtin : in_builtins n ≡ true → CommonIs n
      of_builtin e =
          let found = entry_of names_exact IsBuiltinEntry (map_of words_cmp (builtins W.extensions)) n (entries_pass names_exact IsBuiltinEntry (builtins W.extensions) (builtin_entries W.extensions)) e in
          builtin found.2.word (found.1 ∙ found.2.name_is)

      within : (b : Bool) → in_builtins n ≡ b → (b || in_aliases n) ≡ true → CommonIs n
      within true is e = of_builtin is
      within false is e = of_alias e

      by : (b : Bool) → is_common (own W) n ≡ b → (b || (in_builtins n || in_aliases n)) ≡ true → CommonIs n
      by true is e = callers is
      by false is e = within (in_builtins n) refl e

  -- a name is that of a common type where it is defined
  pub defined_common : (n : FullName) → is_some (definition_of (meanings W) n) ≡ is_common (names W) n
  defined_common n = some_in_map names_exact (flat_map (λ (ns : Namespace). ns.common_types) (all_namespaces W)) n ∙ ap (list_any (is_at (words_cmp n))) (keys_flat (λ (ns : Namespace). ns.common_types) (all_namespaces W))

  -- ---- what a builtin type is

  module _ (printable : Printable W) where
    not_callers : (n : FullName) → is_common (own W) n ≡ true → has_cedar n ≡ false
    not_callers n is = printable.unreserved n (or_left (is_common (own W) n) (is_entity (own W) n) is)

    none_callers : (word : List ℕ) → is_common (own W) (builtin_name word) ≡ false
    none_callers word = by (is_common (own W) (builtin_name word)) refl
      where
        by : (b : Bool) → is_common (own W) (builtin_name word) ≡ b → b ≡ false
        by true is = not_callers (builtin_name word) is
        by false is = refl

    abbrev own_pairs : List (FullName × Written NameReference)
    own_pairs = flat_map (λ (ns : Namespace). ns.common_types) W.namespaces

    module _ (word : List ℕ) (t : Written NameReference) (says : Says names_exact (builtin_name word) (λ u. u ≡ t) (builtins W.extensions))
        (among : contains words_cmp (keys_of (builtins W.extensions)) (builtin_name word) ≡ true) where
      alias_says : (es : List (FullName × Written NameReference)) → AllPass (IsAliasEntry (own W) (primitive_words ++ W.extensions)) es → Says names_exact (builtin_name word) (λ u. u ≡ t) es
      alias_says [] all = tt
      alias_says (e ∷ es) all = ((λ h. let clash : all.0.word ∷ [] ≡ builtin_name word = sym all.0.name_is ∙ same_key names_exact e.0 (builtin_name word) h in absurd (cc)), alias_says es all.1)

      -- its name is declared
      pub builtin_declared : is_common (names W) (builtin_name word) ≡ true
      builtin_declared = common_parts (builtin_name word) ∙ or_true (is_common (own W) (builtin_name word)) (in_builtins (builtin_name word)) (in_aliases (builtin_name word))
          (keys_in_map names_exact (builtins W.extensions) (builtin_name word) ∙ among)
        where
          or_true : (a b c : Bool) → b ≡ true → (a || (b || c)) ≡ true
          or_true true b c e = refl
          or_true false true c e = refl
          or_true false false c e = absurd (cc)

      all_say : Says names_exact (builtin_name word) (λ u. u ≡ t) (map_of words_cmp (builtins W.extensions) ++ (map_of words_cmp alias_pairs ++ []))
      all_say = pass_append Said (map_of words_cmp (builtins W.extensions)) (map_of words_cmp alias_pairs ++ [])
          (entries_pass names_exact Said (builtins W.extensions) says)
          (pass_append Said (map_of words_cmp alias_pairs) [] (entries_pass names_exact Said alias_pairs
          (alias_says alias_pairs (alias_entries (own W) (primitive_words ++ W.extensions) (primitive_words ++ W.extensions) (each_stands (primitive_words ++ W.extensions))))) tt)
        where
          Said : FullName × Written NameReference → Type 0
          Said p = is_at (words_cmp p.0) (builtin_name word) ≡ true → p.1 ≡ t

      fold_append : (es xs ys : List (FullName × Written NameReference)) → put names_exact es (xs ++ ys) ≡ put names_exact (put names_exact es xs) ys
      fold_append es [] ys = refl
      fold_append es (x ∷ xs) ys = fold_append (put names_exact es (x ∷ [])) xs ys

      none_first : (o : Option (Written NameReference)) → is_some o ≡ false → (u : Written NameReference) → o ≡ Some u → u ≡ t
      none_first None e u f = absurd (cc)
      none_first (Some v) e u f = absurd (cc)

      has : Has names_exact (builtin_name word) (λ u. u ≡ t) (common_types W)
      has = subst (Has names_exact (builtin_name word) (λ u. u ≡ t))
          (sym (ap (map_of words_cmp) (flat_map-append (λ (ns : Namespace). ns.common_types) W.namespaces (builtin_namespaces (own W) W.extensions))
          ∙ fold_append [] own_pairs (map_of words_cmp (builtins W.extensions) ++ (map_of words_cmp alias_pairs ++ []))))
          (has_put names_exact (builtin_name word) (λ u. u ≡ t) (map_of words_cmp own_pairs) (map_of words_cmp (builtins W.extensions) ++ (map_of words_cmp alias_pairs ++ []))
          (none_first (get words_cmp (map_of words_cmp own_pairs) (builtin_name word))
          (some_in_map names_exact own_pairs (builtin_name word) ∙ ap (list_any (is_at (words_cmp (builtin_name word)))) (keys_flat (λ (ns : Namespace). ns.common_types) W.namespaces) ∙ none_callers word)) all_say)

      -- and defined so
      pub builtin_defined : definition_of (meanings W) (builtin_name word) ≡ Some t
      builtin_defined = by (definition_of (meanings W) (builtin_name word)) refl (defined_common (builtin_name word) ∙ builtin_declared)
        where
          by : (o : Option (Written NameReference)) → definition_of (meanings W) (builtin_name word) ≡ o → is_some o ≡ true → o ≡ Some t
          by None is e = absurd (cc)
          by (Some u) is e = ap Some (has u is)
