-- SPDX-License-Identifier: Apache-2.0
-- Fragments that may be written, by what is seen of them.
use Rattle.std.proofs.Common.{◌≡◌, ℕ, List, [], ◌∷◌, Option, Some, None, map, option_map, refl, sym, subst}
use Rattle.std.specs.Prelude.{IfSome}
use Rattle.std.specs.List.{AllByRecursion}
use Rattle.std.specs.Option.{option_cmp}
use Rattle.std.specs.declared.cmp.Ordering.{Ordering}
use Rattle.cedar_data.specs.Maps.{IsSortedMap}
use Rattle.cedar_names.specs.Annotating.{annotation_entries}
use Rattle.cedar_names.specs.Identifiers.{unreserved_word}
use Rattle.cedar_names.specs.Names.{name_cmp, name_words}
use Rattle.cedar_names.specs.Order.{word_cmp, words_cmp}
use Rattle.cedar_names.specs.declared.id.UnreservedId.{UnreservedId}
use Rattle.cedar_names.specs.declared.name.Name.{Name}
use Rattle.cedar_tree.specs.Meanings.{annotation_tree}
use Rattle.cedar_tree.specs.Trees.{Text}
use Rattle.cedar_types.specs.declared.value.ValueMap.{ValueMap}
use Rattle.cedar_written.specs.declared.common_type_id.CommonTypeId.{CommonTypeId}
use Rattle.cedar_written.specs.declared.raw_name.RawName.{RawName}
use Rattle.cedar_written.specs.declared.ty.SchemaType.{SchemaType}
use Rattle.cedar_fragment.specs.ActionUids.{over_raw}
use Rattle.cedar_fragment.specs.Shapes.{type_of_shape}
use Rattle.cedar_fragment.specs.declared.definitions.ActionType.{ActionType}
use Rattle.cedar_fragment.specs.declared.definitions.ApplySpec.{ApplySpec}
use Rattle.cedar_fragment.specs.declared.definitions.CommonType.{CommonType}
use Rattle.cedar_fragment.specs.declared.definitions.EntityType.{EntityType}
use Rattle.cedar_fragment.specs.declared.definitions.EntityTypeKind.{EntityTypeKind}
use Rattle.cedar_fragment.specs.declared.definitions.EntityTypeKind.TheVariants as sort
use Rattle.cedar_fragment.specs.declared.definitions.Fragment as held
use Rattle.cedar_fragment.specs.declared.definitions.NamespaceDefinition.{NamespaceDefinition}
use Rattle.cedar_convert_faults.specs.Gathering.{namespace_cmp}
use Rattle.cedar_convert_fragment.specs.Fragments.{ActionContent, Declared, Definition, EntityContent}
use Rattle.cedar_convert_fragment.specs.Views.{action_seen, actions_seen, apply_seen, common_seen, common_word, commons_seen, definition_seen, entities_seen, entity_seen, fragment_seen, kind_seen, namespace_words, namespaces_seen, type_seen}
use Rattle.cedar_json_written_laws.specs.Writable.{IsBareUnnamed, WritableAction, WritableApply, WritableCommonEntry, WritableEntity, WritableEntry, WritableFragment, WritableKind, WritableNamespace, WritableType, WritableValues}
use Rattle.cedar_json_schema_laws.specs.TypeWords.{IsNoWord, NamesNoWord, OfAction, OfDefinition, OfEntity}
use Rattle.cedar_json_schema_laws.proofs.SeenTypes.{Fits}
use Rattle.cedar_json_schema_laws.proofs.DeclaredTypes.{ShapeFits, shape_named}
use Rattle.cedar_json_schema_laws.specs.Bare.{IsBare}
use Rattle.cedar_json_schema_laws.proofs.SeenFragments.{ActionFits, AnyKey, CommonFits, DefinitionFits, EntityFits, EntryIs, FragmentFits, FreeKey, NamespaceFits}
use Rattle.cedar_json_schema_laws.proofs.WritableTypes.{annotations_writable, sorted_through, type_writable}

-- ---- declarations

tags_writable : (tags : Option (SchemaType RawName)) → IfSome (option_map type_seen tags) (Fits 129) → IfSome tags WritableType
tags_writable None fits = tt
tags_writable (Some t) fits = type_writable 129 t fits

kind_writable : (k : EntityTypeKind RawName) → EntityFits (kind_seen k) → OfEntity IsNoWord (kind_seen k) → WritableKind k
kind_writable (sort.Standard e) fits other = (type_writable 129 (type_of_shape e.shape) (shape_named (type_seen (type_of_shape e.shape)) fits.0 other), tags_writable e.tags fits.1)
kind_writable (sort.Enum choices) fits other = tt

applies_writable : (a : Option (ApplySpec RawName)) → IfSome (option_map apply_seen a) (λ applies. ShapeFits applies.context) → IfSome (option_map apply_seen a) (λ applies. IsNoWord applies.context) → IfSome a WritableApply
applies_writable None fits other = tt
applies_writable (Some a) fits other = type_writable 129 (type_of_shape a.context) (shape_named (type_seen (type_of_shape a.context)) fits other)

action_writable : (a : ActionType RawName over_raw) → ActionFits (action_seen a).content → OfAction IsNoWord (action_seen a).content → IsSortedMap word_cmp (action_seen a).annotations → WritableAction a
action_writable a fits other sorted = (
  subst (λ (values : Option ValueMap). IfSome values WritableValues) (sym fits.0) tt,
  applies_writable a.applies_to fits.1 other,
  annotations_writable a.annotations sorted,
)

-- ---- declarations by name

commons_writable : (es : List (CommonTypeId × CommonType RawName)) → AllByRecursion (EntryIs FreeKey CommonFits) (commons_seen es) → AllByRecursion WritableCommonEntry es
commons_writable [] fit = tt
commons_writable (e ∷ es) fit =
    let here = fit.0 in
    ((here.0, (type_writable 129 e.1.ty here.1, annotations_writable e.1.annotations here.2)), commons_writable es fit.1)

entities_writable : (es : List (UnreservedId × EntityType RawName)) → AllByRecursion (EntryIs AnyKey EntityFits) (entities_seen es)
    → AllByRecursion {X = Text × Declared EntityContent} (λ e. OfEntity IsNoWord e.1.content) (entities_seen es) → AllByRecursion {X = UnreservedId × EntityType RawName} (λ e. WritableEntity e.1) es
entities_writable [] fit others = tt
entities_writable (e ∷ es) fit others =
    let here = fit.0 in
    ((kind_writable e.1.kind here.1 others.0, annotations_writable e.1.annotations here.2), entities_writable es fit.1 others.1)

actions_writable : (es : List (List ℕ × ActionType RawName over_raw)) → AllByRecursion (EntryIs AnyKey ActionFits) (actions_seen es)
    → AllByRecursion {X = Text × Declared ActionContent} (λ e. OfAction IsNoWord e.1.content) (actions_seen es) → AllByRecursion {X = List ℕ × ActionType RawName over_raw} (λ e. WritableAction e.1) es
actions_writable [] fit others = tt
actions_writable (e ∷ es) fit others =
    let here = fit.0 in
    (action_writable e.1 here.1 others.0 here.2, actions_writable es fit.1 others.1)

-- ---- namespaces

namespace_writable : (n : NamespaceDefinition RawName over_raw) → DefinitionFits (definition_seen n) → OfDefinition IsNoWord (definition_seen n) → WritableNamespace n
namespace_writable n fits others = (
  (sorted_through word_cmp common_word common_seen n.common_types fits.0.0, commons_writable n.common_types fits.0.1),
  (sorted_through word_cmp unreserved_word entity_seen n.entity_types fits.1.0, entities_writable n.entity_types fits.1.1 others.0),
  (sorted_through word_cmp (λ (k : List ℕ). k) action_seen n.actions fits.2.0, actions_writable n.actions fits.2.1 others.1),
  annotations_writable n.annotations fits.3,
)

none_before : {X Y : Type 0} (f : X → Y) (xs : List X) → map f xs ≡ [] → xs ≡ []
none_before f [] none = refl
none_before f (x ∷ xs) none = absurd cc

bare_writable : (name : Option Name) (n : NamespaceDefinition RawName over_raw) → IsBare (namespace_words name) (definition_seen n).annotations → IsBareUnnamed name n
bare_writable None n bare = none_before annotation_tree (annotation_entries n.annotations) bare
bare_writable (Some name) n bare = tt

each_writable : (es : List (Option Name × NamespaceDefinition RawName over_raw)) → AllByRecursion NamespaceFits (namespaces_seen es)
    → AllByRecursion {X = Option (List Text) × Definition} (λ n. OfDefinition IsNoWord n.1) (namespaces_seen es) → AllByRecursion WritableEntry es
each_writable [] fit others = tt
each_writable (e ∷ es) fit others = ((bare_writable e.0 e.1 fit.0.0, namespace_writable e.1 fit.0.1 others.0), each_writable es fit.1 others.1)

-- the orders of names of namespaces, and of their words
same_order : (a b : Option Name) → option_cmp words_cmp (option_map name_words a) (option_map name_words b) ≡ option_cmp name_cmp a b
same_order None None = refl
same_order None (Some b) = refl
same_order (Some a) None = refl
same_order (Some a) (Some b) = refl

-- a fragment, by what is seen of it, where no shape and no context is a word of types
pub fragment_writable : (F : held.Fragment RawName over_raw) → FragmentFits (fragment_seen F) → NamesNoWord (fragment_seen F) → WritableFragment F
fragment_writable F fits others =
    let sorted = sorted_through namespace_cmp namespace_words definition_seen F.0 fits.0 in
    (subst (λ (cmp : Option Name → Option Name → Ordering). IsSortedMap cmp F.0) (λ i a b. same_order a b i) sorted, each_writable F.0 fits.1 others)
