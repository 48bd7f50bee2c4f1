-- SPDX-License-Identifier: Apache-2.0
-- A value without a fault as a namespace or a fragment has the shape of one.
use Rattle.std.proofs.Common.{◌≡◌, ℕ, List, [], ◌∷◌, codes, Option, Some, None, refl}
use Rattle.std.specs.Cmp.Lexicographic.{slice_cmp}
use Rattle.std.specs.Option.{option_cmp}
use Rattle.std.specs.Ordering.{nat_cmp}
use Rattle.serde_json.specs.Data.{Data}
use Rattle.cedar_names.specs.Names.{name_cmp}
use Rattle.cedar_names.specs.declared.id.UnreservedId.{UnreservedId}
use Rattle.cedar_names.specs.declared.name.Name.{Name}
use Rattle.cedar_written.specs.declared.common_type_id.CommonTypeId.{CommonTypeId}
use Rattle.cedar_written.specs.declared.raw_name.RawName.{RawName}
use Rattle.cedar_fragment.specs.ActionUids.{over_raw}
use Rattle.cedar_fragment.specs.declared.definitions.ActionType.{ActionType}
use Rattle.cedar_fragment.specs.declared.definitions.CommonType.{CommonType}
use Rattle.cedar_fragment.specs.declared.definitions.EntityType.{EntityType}
use Rattle.cedar_fragment.specs.declared.definitions.Fragment.{Fragment}
use Rattle.cedar_fragment.specs.declared.definitions.NamespaceDefinition.{NamespaceDefinition}
use Rattle.cedar_json_fault.specs.declared.json_fault.JsonShape.TheVariants as shape
use Rattle.cedar_json_fault.specs.declared.json_fault.NameKind.TheVariants as what
use Rattle.cedar_json_types.specs.CommonIds.{IdentifiesCommon, common_id_fault}
use Rattle.cedar_json_types.specs.Faults.{allows, any_text, entry_fault, keys_fault, map_fault, needs, under}
use Rattle.cedar_json_types.specs.Keys.{namespace_keys}
use Rattle.cedar_json_types.specs.Parts.{Identifies, id_fault}
use Rattle.cedar_json_types.specs.Shapes.{Entry, MapOf}
use Rattle.cedar_json_namespaces.specs.of_json_read.Declarations.{IsAction, IsCommonType, IsEntityType, action_fault, common_type_fault, entity_fault, notes_fault}
use Rattle.cedar_json_namespaces.specs.Namespaces.{IsFragment, IsNamespace, NamesNamespace, NamespaceEntry, common_cmp, definition_fault, fragment_fault, id_cmp, namespace_entry_fault, namespace_fault, namespace_name_fault, noted_fault}
use Rattle.cedar_json_shape_laws.proofs.Declarations.{action_shaped, common_type_shaped, entity_shaped}
use Rattle.cedar_json_shape_laws.proofs.Members.{at_shaped, entries_shaped, map_shaped, may_have_shaped, text_key}
use Rattle.cedar_json_shape_laws.proofs.Names.{common_id_shaped, id_shaped, unreserved_shaped}
use Rattle.cedar_json_shape_laws.proofs.Steps.{keyed, neither, not_under}
use Rattle.cedar_json_shape_laws.proofs.Types.{notes_shaped}

-- ---- the maps of a namespace

commons_shaped : (d : Data) → map_fault (entry_fault common_id_fault common_type_fault) d ≡ None → (m : List (CommonTypeId × CommonType RawName)) × MapOf common_cmp (Entry IdentifiesCommon IsCommonType) d m
commons_shaped = entries_shaped IdentifiesCommon IsCommonType common_id_fault common_type_fault common_id_shaped common_type_shaped common_cmp

entities_shaped : (d : Data) → map_fault (entry_fault (id_fault what.Id) entity_fault) d ≡ None → (m : List (UnreservedId × EntityType RawName)) × MapOf id_cmp (Entry Identifies IsEntityType) d m
entities_shaped = entries_shaped Identifies IsEntityType (id_fault what.Id) entity_fault (id_shaped what.Id) entity_shaped id_cmp

actions_shaped : (d : Data) → map_fault (entry_fault any_text action_fault) d ≡ None → (m : List (List ℕ × ActionType RawName over_raw)) × MapOf (slice_cmp nat_cmp) (Entry (λ k t. t ≡ k) IsAction) d m
actions_shaped = entries_shaped (λ k t. t ≡ k) IsAction any_text action_fault text_key action_shaped (slice_cmp nat_cmp)

-- ---- namespaces

pub namespace_shaped : (d : Data) → namespace_fault d ≡ None → (n : NamespaceDefinition RawName over_raw) × IsNamespace d n
namespace_shaped d none =
    let commons = map_fault (entry_fault common_id_fault common_type_fault) in
    let entities = map_fault (entry_fault (id_fault what.Id) entity_fault) in
    let actions = map_fault (entry_fault any_text action_fault) in
    let keys = neither (keys_fault shape.Namespace namespace_keys d) _ none in
    let first = neither (allows (codes "commonTypes") commons d) _ keys.1 in
    let second = neither (needs (codes "entityTypes") entities d) _ first.1 in
    let third = neither (needs (codes "actions") actions d) (notes_fault d) second.1 in
    let common_types = may_have_shaped (MapOf common_cmp (Entry IdentifiesCommon IsCommonType)) commons commons_shaped (codes "commonTypes") (λ m. m ≡ []) [] refl d first.0 in
    let entity_types = at_shaped (MapOf id_cmp (Entry Identifies IsEntityType)) entities entities_shaped (codes "entityTypes") d second.0 in
    let action_types = at_shaped (MapOf (slice_cmp nat_cmp) (Entry (λ k t. t ≡ k) IsAction)) actions actions_shaped (codes "actions") d third.0 in
    let notes = notes_shaped d third.1 in (
      record { common_types = common_types.0; entity_types = entity_types.0; actions = action_types.0; annotations = notes.0 },
      (keyed shape.Namespace namespace_keys d keys.0, common_types.1, entity_types.1, action_types.1, notes.1),
    )

-- ---- fragments

name_shaped : (s : List ℕ) → namespace_name_fault s ≡ None → (n : Option Name) × NamesNamespace s n
name_shaped [] none = (None, refl)
name_shaped (b ∷ bs) none = let made = unreserved_shaped what.Namespace (b ∷ bs) none in (Some made.0, (made.1, made.2, made.3))

definition_shaped : (k : List ℕ) (d : Data) → namespace_entry_fault k d ≡ None → (e : Option Name × NamespaceDefinition RawName over_raw) × NamespaceEntry k d e.0 e.1
definition_shaped k d none =
    let both = neither (namespace_name_fault k) (under k (definition_fault k d)) none in
    let name = name_shaped k both.0 in
    let last = neither (namespace_fault d) (noted_fault k d) (not_under k (definition_fault k d) both.1) in
    let made = namespace_shaped d last.0 in
    ((name.0, made.0), (name.1, made.1, last.1))

pub fragment_shaped : (d : Data) → fragment_fault d ≡ None → (f : Fragment RawName over_raw) × IsFragment d f
fragment_shaped d none =
    let made = map_shaped NamespaceEntry namespace_entry_fault definition_shaped (option_cmp name_cmp) d none in
    (record { 0 = made.0 }, made.1)
