-- SPDX-License-Identifier: Apache-2.0
-- Fragments in the order of their names that say the same are the same, the places of annotations aside.
use Rattle.std.proofs.Common.{◌≡◌, ℕ, Bool, true, false, cond, List, [], ◌∷◌, map, Option, Some, None, option_map, refl, sym, ap, ◌∙◌}
use Rattle.std.specs.BTreeMap.{is_at}
use Rattle.std.specs.List.Sorted.{IsPermutation}
use Rattle.std.specs.Option.{is_some, option_and_then}
use Rattle.cedar_data.specs.Firsts.{AllPass}
use Rattle.cedar_data.specs.Maps.{IsSortedMap, get, map_values}
use Rattle.cedar_names.specs.Annotating.{annotation_entries}
use Rattle.cedar_names.specs.Identifiers.{any_word, unreserved_word}
use Rattle.cedar_names.specs.Order.{word_cmp}
use Rattle.cedar_names.specs.declared.name.Name.{Name}
use Rattle.cedar_convert_fragment.specs.Fragments as tree
use Rattle.cedar_convert_fragment.specs.Views.{action_seen, common_seen, definition_seen, entity_seen, fragment_seen, namespaces_seen}
use Rattle.cedar_tree.specs.Meanings.{annotations_tree}
use Rattle.cedar_merge.specs.Lookups.{Declaration, Definition, Fragment, Path, action, at, at_word, common_type, common_word, declared_in, definition_at, entity_type, path_cmp, path_of, text_at}
use Rattle.cedar_merge.specs.Merged.{Merged}
use Rattle.cedar_merge.specs.declared.errors.DeclKind.{DeclKind}
use Rattle.cedar_merge.specs.declared.errors.DeclKind.TheVariants.{Common, Entity, Action}
use Rattle.cedar_merge.proofs.Orders.{paths_exact, words_exact}
use Rattle.cedar_merge.proofs.Permuted.{merged_permuted}
use Rattle.cedar_merge_laws.specs.Together.{DefinitionInOrder, InOrder, definition_said, said}
use Rattle.cedar_merge_laws.proofs.Loops.{fragment_seen_in_order, note_seen}
use Rattle.cedar_merge_laws.proofs.SeenLookups.{SayAlike, SeenDeclaration, action_is, common_is, declaration_seen, entity_is, merged_alike, same_alike}
use Rattle.cedar_merge_laws.proofs.SameMaps.{found_changed, found_seen, same_map, seen_each, sorted_changed}

-- ---- one declaration

abbrev common_back : SeenDeclaration → Option (tree.Declared tree.TypeAt)
common_back (common_is c) = Some c
common_back (entity_is e) = None
common_back (action_is a) = None

abbrev entity_back : SeenDeclaration → Option (tree.Declared tree.EntityContent)
entity_back (common_is c) = None
entity_back (entity_is e) = Some e
entity_back (action_is a) = None

abbrev action_back : SeenDeclaration → Option (tree.Declared tree.ActionContent)
action_back (common_is c) = None
action_back (entity_is e) = None
action_back (action_is a) = Some a

module _ {V S : Type 0} (make : V → Declaration) (see : V → S) (back : SeenDeclaration → Option S) (is : (v : V) → back (declaration_seen (make v)) ≡ Some (see v)) where
  recovered : (o : Option V) → option_and_then back (option_map declaration_seen (option_map make o)) ≡ option_map see o
  recovered None = refl
  recovered (Some v) = is v

  made_alike : (o p : Option V) → option_map declaration_seen (option_map make o) ≡ option_map declaration_seen (option_map make p) → option_map see o ≡ option_map see p
  made_alike o p h = sym (recovered o) ∙ ap (option_and_then back) h ∙ recovered p

  -- values under words that are found alike are seen alike
  seen_same : {K : Type 0} (word : K → List ℕ) (es fs : List (K × V)) → IsSortedMap word_cmp (seen_each word see es) → IsSortedMap word_cmp (seen_each word see fs)
      → ((w : List ℕ) → option_map declaration_seen (option_map make (at_word word es w)) ≡ option_map declaration_seen (option_map make (at_word word fs w))) → seen_each word see es ≡ seen_each word see fs
  seen_same word es fs s t h =
      same_map words_exact (seen_each word see es) (seen_each word see fs) s t
      (λ w. found_seen word_cmp word see es w ∙ made_alike (at_word word es w) (at_word word fs w) (h w) ∙ sym (found_seen word_cmp word see fs w))

-- ---- one namespace

module _ (d e : Definition) (s : DefinitionInOrder (definition_seen d)) (t : DefinitionInOrder (definition_seen e)) (same : (kind : DeclKind) (w : List ℕ) → option_map declaration_seen (declared_in kind w d) ≡ option_map declaration_seen (declared_in kind w e))
    (notes : (key : List ℕ) → text_at (annotation_entries d.annotations) key ≡ text_at (annotation_entries e.annotations) key) where
  abbrev texts : Definition → List (List ℕ × List ℕ)
  texts d = map_values (λ v. v.node) (annotations_tree d.annotations)

  noted : (d : Definition) (key : List ℕ) → get word_cmp (texts d) key ≡ text_at (annotation_entries d.annotations) key
  noted d key =
      found_changed word_cmp (λ v. v.node) (annotations_tree d.annotations) key
      ∙ ap (option_map (λ v. v.node)) (found_seen word_cmp any_word note_seen (annotation_entries d.annotations) key)
      ∙ by (at_word any_word (annotation_entries d.annotations) key)
    where
      by : (o : Option Rattle.cedar_names.specs.declared.annotation.Annotation.Annotation) → option_map (λ v. v.node) (option_map note_seen o) ≡ option_map (λ a. a.val) o
      by None = refl
      by (Some a) = refl

  texts_same : texts d ≡ texts e
  texts_same =
      same_map words_exact (texts d) (texts e) (sorted_changed word_cmp (λ v. v.node) (annotations_tree d.annotations) s.annotations) (sorted_changed word_cmp (λ v. v.node) (annotations_tree e.annotations) t.annotations)
      (λ key. noted d key ∙ notes key ∙ sym (noted e key))

  definitions_same : definition_said (definition_seen d) ≡ definition_said (definition_seen e)
  definitions_same = λ i. record {
    common_types = seen_same common_type common_seen common_back (λ c. refl) common_word d.common_types e.common_types s.common_types t.common_types (same Common) i;
    entity_types = seen_same entity_type entity_seen entity_back (λ c. refl) unreserved_word d.entity_types e.entity_types s.entity_types t.entity_types (same Entity) i;
    actions = seen_same action action_seen action_back (λ c. refl) (λ id. id) d.actions e.actions s.actions t.actions (same Action) i;
    annotations = texts_same i;
  }

-- ---- all namespaces

-- what is found stands in order
found_ordered : (ns : List (Option Name × Definition)) → AllPass (λ n. DefinitionInOrder n.1) (namespaces_seen ns) → (path : Path) (d : Definition) → at path_cmp path_of ns path ≡ Some d → DefinitionInOrder (definition_seen d)
found_ordered [] h path d is = absurd (cc)
found_ordered (n ∷ ns) h path d is = by (is_at (path_cmp path) (path_of n.0)) is (found_ordered ns h.1 path d)
  where
    by : (b : Bool) → cond b (Some n.1) (at path_cmp path_of ns path) ≡ Some d → (at path_cmp path_of ns path ≡ Some d → DefinitionInOrder (definition_seen d)) → DefinitionInOrder (definition_seen d)
    by true found rest = let same : n.1 ≡ d = cc in Rattle.std.proofs.Common.subst (λ e. DefinitionInOrder (definition_seen e)) same h.0
    by false found rest = rest found

module _ (F G : Fragment) (f : InOrder (fragment_seen F)) (g : InOrder (fragment_seen G)) (alike : SayAlike F G) where
  found_said : (H : Fragment) (path : Path) → get path_cmp (said (fragment_seen H)) path ≡ option_map (λ d. definition_said (definition_seen d)) (definition_at H path)
  found_said H path =
      found_changed path_cmp definition_said (fragment_seen H) path ∙ ap (option_map definition_said) (found_seen path_cmp path_of definition_seen H.0 path)
      ∙ by (definition_at H path)
    where
      by : (o : Option Definition) → option_map definition_said (option_map definition_seen o) ≡ option_map (λ d. definition_said (definition_seen d)) o
      by None = refl
      by (Some d) = refl

  each_same : (path : Path) (o p : Option Definition) → definition_at F path ≡ o → definition_at G path ≡ p → option_map (λ d. definition_said (definition_seen d)) o ≡ option_map (λ d. definition_said (definition_seen d)) p
  each_same path None None a b = refl
  each_same path None (Some e) a b = absurd (let wrong : false ≡ true = sym (ap is_some a) ∙ alike.namespaces path ∙ ap is_some b in cc)
  each_same path (Some d) None a b = absurd (let wrong : true ≡ false = sym (ap is_some a) ∙ alike.namespaces path ∙ ap is_some b in cc)
  each_same path (Some d) (Some e) a b =
      ap Some (definitions_same d e (found_ordered F.0 f.definitions path d a) (found_ordered G.0 g.definitions path e b)
      (λ kind w. sym (ap (λ o. option_map declaration_seen (option_and_then (declared_in kind w) o)) a) ∙ alike.declarations (record { namespace = path; kind = kind; name = w })
      ∙ ap (λ o. option_map declaration_seen (option_and_then (declared_in kind w) o)) b)
      (λ key. sym (ap (option_and_then (λ d. text_at (annotation_entries d.annotations) key)) a) ∙ alike.annotations path key ∙ ap (option_and_then (λ d. text_at (annotation_entries d.annotations) key)) b))

  pub said_alike : said (fragment_seen F) ≡ said (fragment_seen G)
  said_alike =
      same_map paths_exact (said (fragment_seen F)) (said (fragment_seen G)) (sorted_changed path_cmp definition_said (fragment_seen F) f.namespaces) (sorted_changed path_cmp definition_said (fragment_seen G) g.namespaces)
      (λ path. found_said F path ∙ each_same path (definition_at F path) (definition_at G path) refl refl ∙ sym (found_said G path))

-- what is merged in another order says the same
pub merged_said : (L M : List Fragment) → IsPermutation L M → (F G : Fragment) → Merged L F → Merged M G → said (fragment_seen F) ≡ said (fragment_seen G)
merged_said L M permutes F G a b = said_alike F G (fragment_seen_in_order F a.ordered) (fragment_seen_in_order G b.ordered) (same_alike F G (merged_permuted L M permutes F G a b))

-- so does what is merged of fragments that are seen alike
pub alike_said : (L M : List Fragment) → map fragment_seen L ≡ map fragment_seen M → (F G : Fragment) → Merged L F → Merged M G → said (fragment_seen F) ≡ said (fragment_seen G)
alike_said L M same F G a b = said_alike F G (fragment_seen_in_order F a.ordered) (fragment_seen_in_order G b.ordered) (merged_alike L M same F G a b)
