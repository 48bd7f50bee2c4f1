-- SPDX-License-Identifier: Apache-2.0
-- Fragments that say the same have the same names that are both an entity type and a common type.
use Rattle.std.proofs.Common.{◌≡◌, ◌++◌, ℕ, Bool, true, false, cond, if◌then◌else◌, codes, List, [], ◌∷◌, map, Option, Some, None, is_some, refl, sym, ap, ◌∙◌}
use Rattle.std.proofs.lemmas.List.{map-append}
use Rattle.std.specs.List.{flat_map}
use Rattle.std.specs.Ordering.{is_eq}
use Rattle.cedar_data.specs.Maps.{get}
use Rattle.cedar_data.specs.Sets.{set_of}
use Rattle.cedar_text.specs.Joining.{joined}
use Rattle.cedar_names.specs.Components.{all_ids, components}
use Rattle.cedar_names.specs.Identifiers.{id_of, id_word, unreserved_word}
use Rattle.cedar_names.specs.Names.{internal_cmp, internal_of, name_words}
use Rattle.cedar_names.specs.Order.{word_cmp, words_cmp}
use Rattle.cedar_names.specs.declared.id.UnreservedId.{UnreservedId}
use Rattle.cedar_names.specs.declared.internal_name.InternalName.{InternalName}
use Rattle.cedar_names.specs.declared.name.Name.{Name}
use Rattle.cedar_written.specs.CommonTypeIds.{common_id}
use Rattle.cedar_written.specs.declared.common_type_id.CommonTypeId.{CommonTypeId}
use Rattle.cedar_written.specs.declared.raw_name.RawName.{RawName}
use Rattle.cedar_fragment.specs.declared.definitions.CommonType.{CommonType}
use Rattle.cedar_fragment.specs.declared.definitions.EntityType.{EntityType}
use Rattle.cedar_convert_fragment.specs.Fragments.{ByName, EntityContent, TypeAt}
use Rattle.cedar_convert_fragment.specs.Views.{common_seen, common_word, commons_seen, entities_seen, fragment_seen, namespace_words, namespaces_seen}
use Rattle.cedar_fmt.specs.Collisions.{all_shared, collisions, common_cmp, full_name, has_common, shared_name, shared_under}
use Rattle.cedar_fmt.specs.Texts.{names_text}
use Rattle.cedar_merge.specs.Lookups.{Definition, Path}
use Rattle.cedar_merge_laws.specs.Together.{Said, said}
use Rattle.cedar_namespace_definitions.proofs.OrderedSets.{seen_set}
use Rattle.cedar_reviews.specs.Merging.{Held}

-- ---- the names, by what is said

abbrev shared_seen : List (List ℕ) → ByName TypeAt → ByName EntityContent → List (List (List ℕ))
shared_seen path commons entities = flat_map (λ e. if is_some (get word_cmp commons e.0) then (path ++ e.0 ∷ []) ∷ [] else []) entities

abbrev shared_said : Path → ByName TypeAt → ByName EntityContent → List (List (List ℕ))
shared_said None commons entities = []
shared_said (Some path) commons entities = shared_seen path commons entities

abbrev all_said : List (Path × Said) → List (List (List ℕ))
all_said ns = flat_map (λ n. shared_said n.0 n.1.common_types n.1.entity_types) ns

-- ---- of one namespace

common_there : (es : List (CommonTypeId × CommonType RawName)) (id : UnreservedId) → is_some (get common_cmp es (common_id id)) ≡ is_some (get word_cmp (commons_seen es) (unreserved_word id))
common_there [] id = refl
common_there (e ∷ es) id = by (is_eq (word_cmp (unreserved_word id) (common_word e.0))) (common_there es id)
  where
    by : (b : Bool) → is_some (get common_cmp es (common_id id)) ≡ is_some (get word_cmp (commons_seen es) (unreserved_word id))
        → is_some (cond b (Some e.1) (get common_cmp es (common_id id))) ≡ is_some (cond b (Some (common_seen e.1)) (get word_cmp (commons_seen es) (unreserved_word id)))
    by true same = refl
    by false same = same

-- the words of a name in a namespace
name_seen : (path : Name) (id : UnreservedId) → components (full_name path id) ≡ name_words path ++ unreserved_word id ∷ []
name_seen path id = map-append id_word (all_ids (internal_of path)) (id_of id ∷ [])

module _ (path : Name) (n : Definition) where
  one_shared : (id : UnreservedId) → map components (shared_name path n id) ≡ (if is_some (get word_cmp (commons_seen n.common_types) (unreserved_word id)) then (name_words path ++ unreserved_word id ∷ []) ∷ [] else [])
  one_shared id = by (has_common n id) ∙ ap (λ b. if b then (name_words path ++ unreserved_word id ∷ []) ∷ [] else []) (common_there n.common_types id)
    where
      by : (b : Bool) → map components (if b then full_name path id ∷ [] else []) ≡ (if b then (name_words path ++ unreserved_word id ∷ []) ∷ [] else [])
      by true = ap (λ ws. ws ∷ []) (name_seen path id)
      by false = refl

  each_shared : (es : List (UnreservedId × EntityType RawName)) → map components (flat_map (λ e. shared_name path n e.0) es) ≡ shared_seen (name_words path) (commons_seen n.common_types) (entities_seen es)
  each_shared [] = refl
  each_shared (e ∷ es) = map-append components (shared_name path n e.0) (flat_map (λ e. shared_name path n e.0) es) ∙ (λ i. one_shared e.0 i ++ each_shared es i)

under_same : (name : Option Name) (n : Definition) → map components (shared_under name n) ≡ shared_said (namespace_words name) (commons_seen n.common_types) (entities_seen n.entity_types)
under_same None n = refl
under_same (Some path) n = each_shared path n n.entity_types

-- ---- of all namespaces

all_same : (ns : List (Option Name × Definition)) → map components (flat_map (λ e. shared_under e.0 e.1) ns) ≡ all_said (said (namespaces_seen ns))
all_same [] = refl
all_same (n ∷ ns) = map-append components (shared_under n.0 n.1) (flat_map (λ e. shared_under e.0 e.1) ns) ∙ (λ i. under_same n.0 n.1 i ++ all_same ns i)

collisions_words : (F : Held) → map components (collisions F) ≡ set_of words_cmp (all_said (said (fragment_seen F)))
collisions_words F = seen_set internal_cmp words_cmp components (λ a b. refl) (all_shared F) ∙ ap (set_of words_cmp) (all_same F.0)

-- ---- their text

abbrev words_text : List (List (List ℕ)) → List ℕ
words_text [] = []
words_text (ws ∷ wss) = joined ws ++ flat_map (λ vs. codes ", " ++ joined vs) wss

further_same : (ns : List InternalName) → flat_map (λ m. codes ", " ++ joined (components m)) ns ≡ flat_map (λ vs. codes ", " ++ joined vs) (map components ns)
further_same [] = refl
further_same (n ∷ ns) = ap (λ rest. (codes ", " ++ joined (components n)) ++ rest) (further_same ns)

text_same : (ns : List InternalName) → names_text ns ≡ words_text (map components ns)
text_same [] = refl
text_same (n ∷ ns) = ap (λ rest. joined (components n) ++ rest) (further_same ns)

pub collisions_said : (F G : Held) → said (fragment_seen F) ≡ said (fragment_seen G) → names_text (collisions F) ≡ names_text (collisions G)
collisions_said F G same =
    text_same (collisions F) ∙ ap words_text (collisions_words F ∙ ap (λ ns. set_of words_cmp (all_said ns)) same ∙ sym (collisions_words G)) ∙ sym (text_same (collisions G))
