-- SPDX-License-Identifier: Apache-2.0
-- What stands in the order of its keys stands in that of their words, as it is seen.
use Rattle.std.proofs.Common.{◌≡◌, ◌++◌, ℕ, ◌+◌, ◌<◌, List, [], ◌∷◌, map, length, get_or, take, Option, sym, ap, ◌∙◌, subst}
use Rattle.std.proofs.lemmas.List.{take_more}
use Rattle.std.specs.List.{AllByRecursion}
use Rattle.std.specs.List.Sorted.{IsStrictlySortedBy}
use Rattle.std.specs.Map.{keys_of}
use Rattle.std.specs.declared.cmp.Ordering.{Ordering}
use Rattle.std.specs.declared.cmp.Ordering.TheVariants.{Less}
use Rattle.cedar_data.proofs.Passing.{AllPass-append}
use Rattle.cedar_data.specs.Firsts.{AllPass}
use Rattle.cedar_data.specs.Maps.{IsSortedMap}
use Rattle.cedar_names.specs.Annotating.{annotation_entries}
use Rattle.cedar_names.specs.Identifiers.{any_word, unreserved_word}
use Rattle.cedar_names.specs.Order.{word_cmp}
use Rattle.cedar_names.specs.declared.annotation.Annotation.{Annotation}
use Rattle.cedar_names.specs.declared.name.Name.{Name}
use Rattle.cedar_tree.specs.Meanings.{place_where}
use Rattle.cedar_tree.specs.Trees.{Node, Text}
use Rattle.cedar_convert_fragment.specs.Views.{action_seen, common_seen, definition_seen, entity_seen, fragment_seen, namespaces_seen}
use Rattle.cedar_merge.specs.Lookups.{Definition, Fragment, common_word, path_cmp, path_of}
use Rattle.cedar_merge.specs.Merged.{Ascends, DeclaresInOrder, StandsInOrder}
use Rattle.cedar_merge_laws.specs.Together.{DefinitionInOrder, InOrder}

module _ {K V W S : Type 0} (order : W → W → Ordering) (word : K → W) (see : V → S) where
  abbrev worded : List (K × V) → List (W × S)
  worded es = map (λ e. (word e.0, see e.1)) es

  above : (k : K) (es : List (K × V)) → AllByRecursion (λ y. order (word k) (word y) ≡ Less) (keys_of es) → AllByRecursion (λ y. order (word k) y ≡ Less) (keys_of (worded es))
  above k [] h = tt
  above k (e ∷ es) h = (h.0, above k es h.1)

  -- entries whose words ascend, as they are seen
  seen_ascending : (es : List (K × V)) → Ascends order word es → IsSortedMap order (worded es)
  unfolding IsStrictlySortedBy
  seen_ascending [] s = tt
  seen_ascending (e ∷ es) s = (above e.0 es s.0, seen_ascending es s.1)

-- the value of an annotation, at its place
abbrev pub note_seen : Annotation → Node Text
note_seen a = record { node = a.val; loc = place_where a.loc }

-- ---- one fragment

definition_seen_in_order : (d : Definition) → DeclaresInOrder d → DefinitionInOrder (definition_seen d)
definition_seen_in_order d h = record {
  common_types = seen_ascending word_cmp common_word common_seen d.common_types h.common_types;
  entity_types = seen_ascending word_cmp unreserved_word entity_seen d.entity_types h.entity_types;
  actions = seen_ascending word_cmp (λ id. id) action_seen d.actions h.actions;
  annotations = seen_ascending word_cmp any_word note_seen (annotation_entries d.annotations) h.annotations;
}

definitions_seen_in_order : (ns : List (Option Name × Definition)) → AllPass (λ n. DeclaresInOrder n.1) ns → AllPass (λ n. DefinitionInOrder n.1) (namespaces_seen ns)
definitions_seen_in_order [] h = tt
definitions_seen_in_order (n ∷ ns) h = (definition_seen_in_order n.1 h.0, definitions_seen_in_order ns h.1)

-- what stands in order stands so as it is seen
pub fragment_seen_in_order : (F : Fragment) → StandsInOrder F → InOrder (fragment_seen F)
fragment_seen_in_order F h = record {
  namespaces = seen_ascending path_cmp path_of definition_seen F.0 h.namespaces;
  definitions = definitions_seen_in_order F.0 h.definitions;
}

-- ---- several fragments

-- one fragment more
pub fragment-next : (whole : List Fragment) (i : ℕ) (f : Fragment) → i < length whole → f ≡ get_or whole i f → AllPass (λ f. InOrder (fragment_seen f)) (take i whole) → InOrder (fragment_seen f)
    → AllPass (λ f. InOrder (fragment_seen f)) (take (i + 1) whole)
fragment-next whole i f within is sofar h =
    subst (AllPass (λ f. InOrder (fragment_seen f))) (sym (take_more whole i f within ∙ ap (λ t. take i whole ++ t ∷ []) (sym is)))
    (AllPass-append (λ f. InOrder (fragment_seen f)) (take i whole) (f ∷ []) sofar (h, tt))
