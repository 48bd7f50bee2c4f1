-- SPDX-License-Identifier: Apache-2.0
-- A printable fragment has no names that are both an entity type and a common type, so that its text isn't refused.
use Rattle.std.proofs.Common.{◌≡◌, ◌++◌, ◌||◌, Bool, true, false, List, [], ◌∷◌, map, Option, Some, None, is_some, if◌then◌else◌, refl, sym, ap, ◌∙◌}
use Rattle.std.specs.BTreeMap.{is_at}
use Rattle.std.specs.List.{flat_map, list_any}
use Rattle.std.specs.Map.{keys_of, lookup}
use Rattle.std.specs.Ordering.{is_eq}
use Rattle.cedar_data.proofs.Exact.{texts_exact}
use Rattle.cedar_data.specs.Sets.{contains}
use Rattle.cedar_names.proofs.NameOrder.{words_cmp-equal}
use Rattle.cedar_names.specs.Identifiers.{unreserved_word}
use Rattle.cedar_names.specs.Names.{internal_cmp, name_words}
use Rattle.cedar_names.specs.Order.{words_cmp}
use Rattle.cedar_names.specs.declared.id.UnreservedId.{UnreservedId}
use Rattle.cedar_names.specs.declared.name.Name.{Name}
use Rattle.cedar_schema_error.specs.FullNames.{FullName}
use Rattle.cedar_tree.specs.Trees.{Text}
use Rattle.cedar_world.specs.Worlds.{own}
use Rattle.cedar_written.specs.CommonTypeIds.{common_id}
use Rattle.cedar_written.specs.declared.common_type_id.CommonTypeId.{CommonTypeId}
use Rattle.cedar_written.specs.declared.raw_name.RawName.{RawName}
use Rattle.cedar_fragment.specs.ActionUids.{over_raw}
use Rattle.cedar_fragment.specs.declared.definitions.CommonType.{CommonType}
use Rattle.cedar_fragment.specs.declared.definitions.EntityType.{EntityType}
use Rattle.cedar_fragment.specs.declared.definitions.Fragment as held
use Rattle.cedar_fragment.specs.declared.definitions.NamespaceDefinition.{NamespaceDefinition}
use Rattle.cedar_data.specs.Sets.{set_of}
use Rattle.cedar_fmt.specs.Collisions.{collisions, common_cmp, has_common, shared_name, shared_names, shared_under}
use Rattle.cedar_convert_fragment.specs.Views.{common_word, commons_seen, entities_seen, fragment_seen, namespaces_seen}
use Rattle.cedar_fragment_world.specs.FragmentWorlds.{common_at, entity_at, full_name, namespaces_of, world_of_fragment}
use Rattle.cedar_reread_laws.specs.Printable.{IsPrintable}
use Rattle.cedar_reread_laws.proofs.Known.{equal}

-- ---- members of lists

any_first : {A : Type 0} (p : A → Bool) (xs ys : List A) → list_any p xs ≡ true → list_any p (xs ++ ys) ≡ true
any_first p [] ys e = cc
any_first p (x ∷ xs) ys e = by (p x) e (any_first p xs ys)
  where
    by : (t : Bool) → (t || list_any p xs) ≡ true → (list_any p xs ≡ true → list_any p (xs ++ ys) ≡ true) → (t || list_any p (xs ++ ys)) ≡ true
    by true e later = refl
    by false e later = later e

any_second : {A : Type 0} (p : A → Bool) (xs ys : List A) → list_any p ys ≡ true → list_any p (xs ++ ys) ≡ true
any_second p [] ys e = e
any_second p (x ∷ xs) ys e = by (p x) (any_second p xs ys e)
  where
    by : (t : Bool) → list_any p (xs ++ ys) ≡ true → (t || list_any p (xs ++ ys)) ≡ true
    by true e = refl
    by false e = e

-- the key that is found is one of the keys
found : {K V : Type 0} (p : K → Bool) (es : List (K × V)) → is_some (lookup p es) ≡ true → list_any p (keys_of es) ≡ true
found p [] e = cc
found p (x ∷ es) e = by (p x.0) e (found p es)
  where
    by : (t : Bool) → is_some (if t then Some x.1 else lookup p es) ≡ true → (is_some (lookup p es) ≡ true → list_any p (keys_of es) ≡ true) → (t || list_any p (keys_of es)) ≡ true
    by true e later = refl
    by false e later = later e

-- a name is equal to itself
itself : (name : FullName) → is_at (words_cmp name) name ≡ true
itself name = ap is_eq ((words_cmp-equal name name).1 refl)

module _ (ns : Option FullName) (w : Text) where
  -- a common type of this word is one of the full name
  one_common : (es : List (CommonTypeId × CommonType RawName)) (id : UnreservedId) → unreserved_word id ≡ w → list_any (is_at (common_cmp (common_id id))) (keys_of es) ≡ true
      → contains words_cmp (keys_of (map (common_at ns) (commons_seen es))) (full_name ns w) ≡ true
  one_common [] id same e = cc
  one_common (c ∷ es) id same e = by (is_at (common_cmp (common_id id)) c.0) refl e (one_common es id same)
    where
      by : (t : Bool) → is_at (common_cmp (common_id id)) c.0 ≡ t → (t || list_any (is_at (common_cmp (common_id id))) (keys_of es)) ≡ true
          → (list_any (is_at (common_cmp (common_id id))) (keys_of es) ≡ true → contains words_cmp (keys_of (map (common_at ns) (commons_seen es))) (full_name ns w) ≡ true)
          → (is_at (words_cmp (full_name ns w)) (full_name ns (common_word c.0)) || contains words_cmp (keys_of (map (common_at ns) (commons_seen es))) (full_name ns w)) ≡ true
      by true is e later =
          let word : w ≡ common_word c.0 = sym same ∙ texts_exact.exact (unreserved_word id) (common_word c.0) (equal (common_cmp (common_id id) c.0) is) in
          let here : is_at (words_cmp (full_name ns w)) (full_name ns (common_word c.0)) ≡ true = ap (λ v. is_at (words_cmp (full_name ns w)) (full_name ns v)) (sym word) ∙ itself (full_name ns w) in
          ap (λ b. b || contains words_cmp (keys_of (map (common_at ns) (commons_seen es))) (full_name ns w)) here
      by false is e later = any_second (is_at (words_cmp (full_name ns w))) (full_name ns (common_word c.0) ∷ []) (keys_of (map (common_at ns) (commons_seen es))) (later e)

-- ---- no name is both

module _ (entities commons : List FullName) (none : (name : FullName) → contains words_cmp entities name ≡ true → contains words_cmp commons name ≡ true → ⊥) where
  abbrev Among : List FullName → List FullName → Type 0
  Among some all = (name : FullName) → contains words_cmp some name ≡ true → contains words_cmp all name ≡ true

  each_alone : (path : Name) (n : NamespaceDefinition RawName over_raw) (es : List (UnreservedId × EntityType RawName)) → Among (keys_of (map (entity_at (Some (name_words path))) (entities_seen es))) entities
      → Among (keys_of (map (common_at (Some (name_words path))) (commons_seen n.common_types))) commons → flat_map (λ (e : UnreservedId × EntityType RawName). shared_name path n e.0) es ≡ []
  each_alone path n [] among others = refl
  each_alone path n (e ∷ es) among others =
      let name = full_name (Some (name_words path)) (unreserved_word e.0) in
      let rest = each_alone path n es (λ other is. among other (any_second (is_at (words_cmp other)) (name ∷ []) (keys_of (map (entity_at (Some (name_words path))) (entities_seen es))) is)) others in
      by (has_common n e.0) refl rest
    where
      by : (t : Bool) → has_common n e.0 ≡ t → flat_map (λ (e : UnreservedId × EntityType RawName). shared_name path n e.0) es ≡ []
          → (if t then Rattle.cedar_fmt.specs.Collisions.full_name path e.0 ∷ [] else []) ++ flat_map (λ (e : UnreservedId × EntityType RawName). shared_name path n e.0) es ≡ []
      by false is rest = rest
      by true is rest =
          let name = full_name (Some (name_words path)) (unreserved_word e.0) in
          let common = others name (one_common (Some (name_words path)) (unreserved_word e.0) n.common_types e.0 refl (found (is_at (common_cmp (common_id e.0))) n.common_types is)) in
          let here = among name (ap (λ b. b || contains words_cmp (keys_of (map (entity_at (Some (name_words path))) (entities_seen es))) name) (itself name)) in
          absurd (none name here common)

  all_alone : (es : List (Option Name × NamespaceDefinition RawName over_raw)) → Among (flat_map (λ ns. keys_of ns.entity_types) (namespaces_of (namespaces_seen es))) entities
      → Among (flat_map (λ ns. keys_of ns.common_types) (namespaces_of (namespaces_seen es))) commons → flat_map (λ (e : Option Name × NamespaceDefinition RawName over_raw). shared_under e.0 e.1) es ≡ []
  all_alone [] among others = refl
  all_alone ((None, n) ∷ es) among others =
      all_alone es (λ name is. among name (any_second (is_at (words_cmp name)) (keys_of (map (entity_at None) (entities_seen n.entity_types))) _ is)) (λ name is. others name (any_second (is_at (words_cmp name)) (keys_of (map (common_at None) (commons_seen n.common_types))) _ is))
  all_alone ((Some path, n) ∷ es) among others =
      let first = each_alone path n n.entity_types (λ name is. among name (any_first (is_at (words_cmp name)) (keys_of (map (entity_at (Some (name_words path))) (entities_seen n.entity_types))) _ is))
      (λ name is. others name (any_first (is_at (words_cmp name)) (keys_of (map (common_at (Some (name_words path))) (commons_seen n.common_types))) _ is)) in
      let rest = all_alone es (λ name is. among name (any_second (is_at (words_cmp name)) (keys_of (map (entity_at (Some (name_words path))) (entities_seen n.entity_types))) _ is))
      (λ name is. others name (any_second (is_at (words_cmp name)) (keys_of (map (common_at (Some (name_words path))) (commons_seen n.common_types))) _ is)) in
      ap (λ l. l ++ flat_map (λ (e : Option Name × NamespaceDefinition RawName over_raw). shared_under e.0 e.1) es) first ∙ rest

-- a printable fragment has none that are both
pub no_collisions : (F : held.Fragment RawName over_raw) (extensions : List Text) → IsPrintable (fragment_seen F) extensions → collisions F ≡ []
no_collisions F extensions printable =
    let names = own (world_of_fragment (fragment_seen F) extensions) in
    ap (set_of internal_cmp) (all_alone names.entity_types names.common_types (λ name entity common. printable.one_kind name entity common) F.0 (λ name is. is) (λ name is. is))
