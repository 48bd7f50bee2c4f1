-- SPDX-License-Identifier: Apache-2.0
-- What is written of a namespace has its shape.
use Rattle.std.proofs.Common.{◌≡◌, ℕ, false, List, [], ◌∷◌, ◌++◌, codes, None, refl, ◌∙◌, subst, append_assoc}
use Rattle.std.specs.Cmp.Lexicographic.{slice_cmp}
use Rattle.std.specs.List.{AllByRecursion}
use Rattle.std.specs.Ordering.{nat_cmp}
use Rattle.std.specs.Str.{bytes_eq}
use Rattle.serde_json.specs.Data.{Data}
use Rattle.serde_json.specs.Find.{get}
use Rattle.cedar_data.specs.Maps.{IsSortedMap, map_values}
use Rattle.cedar_names.specs.Identifiers.{unreserved_word}
use Rattle.cedar_names.specs.declared.id.UnreservedId.{UnreservedId}
use Rattle.cedar_written.specs.CommonTypeIds.{unreserved_of}
use Rattle.cedar_written.specs.declared.common_type_id.CommonTypeId.{CommonTypeId}
use Rattle.cedar_written.specs.declared.raw_name.RawName.{RawName}
use Rattle.cedar_fragment.specs.ActionUids.{over_raw}
use Rattle.cedar_fragment.specs.declared.definitions.ActionType.{ActionType}
use Rattle.cedar_fragment.specs.declared.definitions.CommonType.{CommonType}
use Rattle.cedar_fragment.specs.declared.definitions.EntityType.{EntityType}
use Rattle.cedar_fragment.specs.declared.definitions.NamespaceDefinition.{NamespaceDefinition}
use Rattle.cedar_json_types.specs.CommonIds.{IdentifiesCommon}
use Rattle.cedar_json_types.specs.Keys.{namespace_keys}
use Rattle.cedar_json_types.specs.Parts.{Identifies}
use Rattle.cedar_json_types.specs.Shapes.{Entry, MapOf, OrAbsent}
use Rattle.cedar_json_read.specs.Declarations.{IsAction, IsCommonType, IsEntityType}
use Rattle.cedar_json_namespaces.specs.Namespaces.{IsNamespace, common_cmp, id_cmp}
use Rattle.cedar_json_write.specs.Written.{Field, action_json, annotations_json, common_json, common_word, each_at, entity_json, if_any, namespace_json, notes, object_of}
use Rattle.cedar_json_written_laws.specs.Unplaced.{action_unplaced, common_unplaced, entity_unplaced, namespace_unplaced}
use Rattle.cedar_json_written_laws.specs.Writable.{WritableAction, WritableCommonEntry, WritableEntity, WritableNamespace}
use Rattle.cedar_json_written_laws.proofs.Fields.{any-other, at_field, field_at, get_field, in_neither, keyed_object, may_have_field, not_before, not_behind, within-any, within-append}
use Rattle.cedar_json_written_laws.proofs.Ordered.{AllWritten, map_written}
use Rattle.cedar_json_written_laws.proofs.WrittenDeclarations.{action_written, common_written, entity_written, notes-other}
use Rattle.cedar_json_written_laws.proofs.WrittenParts.{id_written, noted}

-- ---- the maps of a namespace

abbrev CommonEntry : List ℕ → Data → CommonTypeId → CommonType RawName → Type 0
CommonEntry = Entry IdentifiesCommon IsCommonType

abbrev EntityEntry : List ℕ → Data → UnreservedId → EntityType RawName → Type 0
EntityEntry = Entry Identifies IsEntityType

abbrev ActionEntry : List ℕ → Data → List ℕ → ActionType RawName over_raw → Type 0
ActionEntry = Entry (λ k t. t ≡ k) IsAction

all_commons : (es : List (CommonTypeId × CommonType RawName)) → AllByRecursion WritableCommonEntry es → AllWritten common_word common_json common_unplaced CommonEntry es
all_commons [] all = tt
all_commons (e ∷ es) all = (((id_written (unreserved_of e.0), all.0.0), common_written e.1 all.0.1), all_commons es all.1)

all_entities : (es : List (UnreservedId × EntityType RawName)) → AllByRecursion {X = UnreservedId × EntityType RawName} (λ e. WritableEntity e.1) es → AllWritten unreserved_word entity_json entity_unplaced EntityEntry es
all_entities [] all = tt
all_entities (e ∷ es) all = ((id_written e.0, entity_written e.1 all.0), all_entities es all.1)

all_actions : (es : List (List ℕ × ActionType RawName over_raw)) → AllByRecursion {X = List ℕ × ActionType RawName over_raw} (λ e. WritableAction e.1) es → AllWritten (λ (k : List ℕ). k) action_json action_unplaced ActionEntry es
all_actions [] all = tt
all_actions (e ∷ es) all = ((refl, action_written e.1 all.0), all_actions es all.1)

-- common types are written where there are some
commons_at : (es : List (CommonTypeId × CommonType RawName)) → IsSortedMap common_cmp es → AllByRecursion WritableCommonEntry es
    → OrAbsent (λ (m : List (CommonTypeId × CommonType RawName)). m ≡ []) (MapOf common_cmp CommonEntry) (field_at (codes "commonTypes") (if_any (codes "commonTypes") (each_at common_word common_json) es)) (map_values common_unplaced es)
commons_at [] sorted all = refl
commons_at (e ∷ es) sorted all = map_written common_word common_json common_unplaced CommonEntry (e ∷ es) sorted (all_commons (e ∷ es) all)

-- ---- namespaces

module _ (n : NamespaceDefinition RawName over_raw) where
  abbrev commons : List Field
  commons = if_any (codes "commonTypes") (each_at common_word common_json) n.common_types

  abbrev types : List Field
  types = (codes "entityTypes", each_at unreserved_word entity_json n.entity_types) ∷ (codes "actions", each_at (λ k. k) action_json n.actions) ∷ []

  abbrev fields : List Field
  fields = commons ++ types

  commons-other : (k : List ℕ) → bytes_eq k (codes "commonTypes") ≡ false → field_at k commons ≡ None
  commons-other k other = any-other k (codes "commonTypes") (each_at common_word common_json) n.common_types other

  fields_written : WritableNamespace n → IsNamespace (object_of (fields ++ notes n.annotations)) (namespace_unplaced n)
  fields_written writable =
      let fs = fields ++ notes n.annotations in
      let front = λ (k : List ℕ) (other : bytes_eq k (codes "annotations") ≡ false). not_behind k fields (notes n.annotations) (notes-other k n.annotations other) in
      let at_commons = front (codes "commonTypes") refl ∙ not_behind (codes "commonTypes") commons types refl in
      let at_entities = front (codes "entityTypes") refl ∙ not_before (codes "entityTypes") commons types (commons-other (codes "entityTypes") refl) in
      let at_actions = front (codes "actions") refl ∙ not_before (codes "actions") commons types (commons-other (codes "actions") refl) in (
        keyed_object namespace_keys fs (within-append namespace_keys fields (notes n.annotations) (within-append namespace_keys commons types (within-any namespace_keys (codes "commonTypes") (each_at common_word common_json) n.common_types refl) (refl, (refl, tt))) (within-any namespace_keys (codes "annotations") annotations_json _ refl)),
        may_have_field (MapOf common_cmp CommonEntry) (codes "commonTypes") (λ m. m ≡ []) fs (field_at (codes "commonTypes") commons) (map_values common_unplaced n.common_types) at_commons (commons_at n.common_types writable.0.0 writable.0.1),
        at_field (MapOf id_cmp EntityEntry) (codes "entityTypes") fs (each_at unreserved_word entity_json n.entity_types) (map_values entity_unplaced n.entity_types) at_entities
            (map_written unreserved_word entity_json entity_unplaced EntityEntry n.entity_types writable.1.0 (all_entities n.entity_types writable.1.1)),
        at_field (MapOf (slice_cmp nat_cmp) ActionEntry) (codes "actions") fs (each_at (λ k. k) action_json n.actions) (map_values action_unplaced n.actions) at_actions
            (map_written (λ (k : List ℕ). k) action_json action_unplaced ActionEntry n.actions writable.2.0 (all_actions n.actions writable.2.1)),
        noted fields n.annotations (in_neither (codes "annotations") commons types (commons-other (codes "annotations") refl) refl) writable.3,
      )

  pub namespace_written : WritableNamespace n → IsNamespace (namespace_json n) (namespace_unplaced n)
  namespace_written writable = subst (λ fs. IsNamespace (object_of fs) (namespace_unplaced n)) (append_assoc commons types (notes n.annotations)) (fields_written writable)

  -- the annotations of the namespace, where it has some
  pub notes_found : get (codes "annotations") (namespace_json n) ≡ field_at (codes "annotations") (notes n.annotations)
  notes_found =
      get_field (codes "annotations") (commons ++ (types ++ notes n.annotations)) ∙ not_before (codes "annotations") commons (types ++ notes n.annotations) (commons-other (codes "annotations") refl)
      ∙ not_before (codes "annotations") types (notes n.annotations) refl
