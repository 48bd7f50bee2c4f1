-- SPDX-License-Identifier: Apache-2.0
-- A value that has the shape of a declaration, a namespace or a fragment has no fault.
use Rattle.std.proofs.Common.{◌≡◌, ℕ, is_some, if◌then◌else◌, List, [], ◌∷◌, codes, Option, Some, None, refl, ap, ◌∙◌}
use Rattle.std.specs.Cmp.Lexicographic.{slice_cmp}
use Rattle.std.specs.Option.{option_cmp}
use Rattle.std.specs.Ordering.{nat_cmp}
use Rattle.serde_json.specs.Data.{Data}
use Rattle.cedar_text.specs.Lists.{elements}
use Rattle.cedar_text.specs.declared.non_empty.NonEmpty.{NonEmpty}
use Rattle.cedar_names.specs.Names.{name_cmp}
use Rattle.cedar_names.specs.declared.name.Name.{Name}
use Rattle.cedar_written.specs.declared.raw_name.RawName.{RawName}
use Rattle.cedar_types.specs.declared.value.ValueMap.{ValueMap}
use Rattle.cedar_fragment.specs.ActionUids.{over_raw}
use Rattle.cedar_fragment.specs.Shapes.{type_of_shape}
use Rattle.cedar_fragment.specs.declared.action_uid.ActionEntityUID.{ActionEntityUID}
use Rattle.cedar_fragment.specs.declared.attributes_or_context.AttributesOrContext.{AttributesOrContext}
use Rattle.cedar_fragment.specs.declared.definitions.ActionType.{ActionType}
use Rattle.cedar_fragment.specs.declared.definitions.ApplySpec.{ApplySpec}
use Rattle.cedar_fragment.specs.declared.definitions.CommonType.{CommonType}
use Rattle.cedar_fragment.specs.declared.definitions.EntityType.{EntityType}
use Rattle.cedar_fragment.specs.declared.definitions.EntityTypeKind.{EntityTypeKind}
use Rattle.cedar_fragment.specs.declared.definitions.EntityTypeKind.TheVariants as sort
use Rattle.cedar_fragment.specs.declared.definitions.Fragment.{Fragment}
use Rattle.cedar_fragment.specs.declared.definitions.NamespaceDefinition.{NamespaceDefinition}
use Rattle.cedar_fragment.specs.declared.definitions.StandardEntityType.{StandardEntityType}
use Rattle.cedar_json_fault.specs.declared.json_fault.JsonShape.TheVariants as shape
use Rattle.cedar_json_fault.specs.declared.json_fault.NameKind.TheVariants as what
use Rattle.cedar_json_types.specs.CommonIds.{IdentifiesCommon, common_id_fault}
use Rattle.cedar_json_types.specs.Faults.{first, in_text, any_text, needs, allows, unless_null, array_fault, map_fault, entry_fault}
use Rattle.cedar_json_types.specs.Keys.{namespace_keys, entity_keys, action_keys, apply_keys, parent_keys}
use Rattle.cedar_json_types.specs.Parts.{named, reference_fault, id_fault, Identifies, IsName}
use Rattle.cedar_json_types.specs.Shapes.{OrNull, Nothing, Present, ArrayOf, Entry, IsText}
use Rattle.cedar_json_types.specs.Types.{Part, part_fault}
use Rattle.cedar_json_types.specs.declared.keyed.KeySet.TheVariants as set
use Rattle.cedar_json_types.proofs.Chains.{under-none}
use Rattle.cedar_json_values.specs.ActionValues.{ValuePart, ValuesShape, value_fault}
use Rattle.cedar_json_namespaces.specs.of_json_read.Declarations.{IsAction, IsApplySpec, IsCommonType, IsEntityType, IsKind, IsParent, IsShape, IsStandard, AreChoices, ShapeAt, action_fault, apply_fault, choices_fault, common_type_fault, empty_shape, entity_fault, kind_fault, names_fault, parent_fault, present, standard_fault, unexpected, values_fault}
use Rattle.cedar_json_namespaces.proofs.of_json_read.ChoiceLemmas.{no_fields, some_choices}
use Rattle.cedar_json_namespaces.specs.Namespaces.{IsFragment, IsNamespace, NamesNamespace, NamespaceEntry, common_cmp, fragment_fault, id_cmp, namespace_entry_fault, namespace_fault, namespace_name_fault, noted_fault}
use Rattle.cedar_json_laws.proofs.CleanParts.{neither_fault, keyed_clean, at_clean, may_have_clean, or_null_clean, present_clean, array_clean, map_clean, entry_clean, any_text_clean, is_text_clean, name_clean, identifies_clean, common_id_clean, notes_clean}
use Rattle.cedar_json_laws.proofs.CleanTypes.{part_clean}
use Rattle.cedar_json_laws.proofs.CleanValues.{value_clean, values_clean}

-- ---- parts

names_clean : (d : Data) (ns : List RawName) → ArrayOf IsName d ns → names_fault d ≡ None
names_clean = array_clean IsName (in_text (reference_fault what.Name)) (name_clean what.Name)

is_shape_clean : (d : Data) (s : AttributesOrContext RawName) → IsShape d s → part_fault 129 set.Type d ≡ None
is_shape_clean d s is = part_clean 129 set.Type d (type_of_shape s) is

shape_clean : (k : List ℕ) (d : Data) (s : AttributesOrContext RawName) → ShapeAt k d s → allows k (part_fault 129 set.Type) d ≡ None
shape_clean k d s is = may_have_clean IsShape (part_fault 129 set.Type) is_shape_clean k (λ s. s ≡ empty_shape) d s is

-- ---- common types and entity types

pub common_type_clean : (d : Data) (c : CommonType RawName) → IsCommonType d c → common_type_fault d ≡ None
common_type_clean d c is = neither_fault _ _ (part_clean 129 set.CommonType d c.ty is.0) (notes_clean d c.annotations is.1)

standard_clean : (d : Data) (e : StandardEntityType RawName) → IsStandard d e → standard_fault d ≡ None
standard_clean d e is =
    neither_fault _ _ (may_have_clean (ArrayOf IsName) names_fault names_clean (codes "memberOfTypes") (λ ns. ns ≡ []) d e.member_of_types is.0)
    (neither_fault _ _ (shape_clean (codes "shape") d e.shape is.1)
    (may_have_clean (Present (Part 129 set.Type)) (part_fault 129 set.Type) (present_clean (Part 129 set.Type) (part_fault 129 set.Type) (part_clean 129 set.Type)) (codes "tags") Nothing d e.tags is.2))

choices_clean : (d : Data) (c : NonEmpty (List ℕ)) → AreChoices d c → choices_fault d ≡ None
choices_clean d c are = neither_fault _ _ (array_clean IsText (in_text any_text) is_text_clean d (elements c) are) (some_choices d (elements c) c are refl)

kind_clean : (d : Data) (k : EntityTypeKind RawName) → IsKind d k → kind_fault d ≡ None
kind_clean d (sort.Standard e) is =
    ap (λ b. if b then first (needs (codes "enum") choices_fault d) (unexpected (present d)) else standard_fault d) is.0 ∙ standard_clean d e is.1
kind_clean d (sort.Enum c) is =
    ap (λ o. if is_some o then first (needs (codes "enum") choices_fault d) (unexpected (present d)) else standard_fault d) is.0.1
    ∙ neither_fault _ _ (at_clean AreChoices choices_fault choices_clean (codes "enum") d c is.0) (no_fields (present d) is.1)

pub entity_clean : (d : Data) (e : EntityType RawName) → IsEntityType d e → entity_fault d ≡ None
entity_clean d e is = neither_fault _ _ (keyed_clean shape.EntityType entity_keys d is.0) (neither_fault _ _ (kind_clean d e.kind is.1) (notes_clean d e.annotations is.2))

-- ---- actions

pub parent_clean : (d : Data) (a : ActionEntityUID RawName over_raw) → IsParent d a → parent_fault d ≡ None
parent_clean d a is =
    neither_fault _ _ (keyed_clean shape.Parent parent_keys d is.0)
    (neither_fault _ _ (at_clean IsText (in_text any_text) is_text_clean (codes "id") d a.id is.1)
    (may_have_clean (OrNull IsName) (unless_null (in_text (reference_fault what.Name))) (or_null_clean IsName (in_text (reference_fault what.Name)) (name_clean what.Name)) (codes "type") Nothing d a.ty is.2))

pub apply_clean : (d : Data) (a : ApplySpec RawName) → IsApplySpec d a → apply_fault d ≡ None
apply_clean d a is =
    neither_fault _ _ (keyed_clean shape.ApplySpec apply_keys d is.0)
    (neither_fault _ _ (at_clean (ArrayOf IsName) names_fault names_clean (codes "resourceTypes") d a.resource_types is.1)
    (neither_fault _ _ (at_clean (ArrayOf IsName) names_fault names_clean (codes "principalTypes") d a.principal_types is.2)
    (shape_clean (codes "context") d a.context is.3)))

action_values_clean : (d : Data) (m : ValueMap) → ValuesShape (ValuePart 129) d m → values_fault d ≡ None
action_values_clean = values_clean (ValuePart 129) (value_fault 129) (value_clean 129)

parents_clean : (d : Data) (ps : List (ActionEntityUID RawName over_raw)) → ArrayOf IsParent d ps → array_fault parent_fault d ≡ None
parents_clean = array_clean IsParent parent_fault parent_clean

pub action_clean : (d : Data) (a : ActionType RawName over_raw) → IsAction d a → action_fault d ≡ None
action_clean d a is =
    neither_fault _ _ (keyed_clean shape.Action action_keys d is.0)
    (neither_fault _ _ (may_have_clean (OrNull (ValuesShape (ValuePart 129))) (unless_null values_fault) (or_null_clean (ValuesShape (ValuePart 129)) values_fault action_values_clean) (codes "attributes") Nothing d a.attributes is.1)
    (neither_fault _ _ (may_have_clean (OrNull IsApplySpec) (unless_null apply_fault) (or_null_clean IsApplySpec apply_fault apply_clean) (codes "appliesTo") Nothing d a.applies_to is.2)
    (neither_fault _ _ (may_have_clean (OrNull (ArrayOf IsParent)) (unless_null (array_fault parent_fault)) (or_null_clean (ArrayOf IsParent) (array_fault parent_fault) parents_clean) (codes "memberOf") Nothing d a.member_of is.3)
    (notes_clean d a.annotations is.4))))

-- ---- namespaces and fragments

pub namespace_clean : (d : Data) (n : NamespaceDefinition RawName over_raw) → IsNamespace d n → namespace_fault d ≡ None
namespace_clean d n is =
    neither_fault _ _ (keyed_clean shape.Namespace namespace_keys d is.0)
    (neither_fault _ _ (may_have_clean _ (map_fault (entry_fault common_id_fault common_type_fault)) (map_clean (Entry IdentifiesCommon IsCommonType) (entry_fault common_id_fault common_type_fault) (entry_clean IdentifiesCommon IsCommonType common_id_fault common_type_fault common_id_clean common_type_clean) common_cmp) (codes "commonTypes") (λ m. m ≡ []) d n.common_types is.1)
    (neither_fault _ _ (at_clean _ (map_fault (entry_fault (id_fault what.Id) entity_fault)) (map_clean (Entry Identifies IsEntityType) (entry_fault (id_fault what.Id) entity_fault) (entry_clean Identifies IsEntityType (id_fault what.Id) entity_fault (identifies_clean what.Id) entity_clean) id_cmp) (codes "entityTypes") d n.entity_types is.2)
    (neither_fault _ _ (at_clean _ (map_fault (entry_fault any_text action_fault)) (map_clean (Entry (λ k t. t ≡ k) IsAction) (entry_fault any_text action_fault) (entry_clean (λ k t. t ≡ k) IsAction any_text action_fault any_text_clean action_clean) (slice_cmp nat_cmp)) (codes "actions") d n.actions is.3)
    (notes_clean d n.annotations is.4))))

name_of_namespace_clean : (s : List ℕ) (n : Option Name) → NamesNamespace s n → namespace_name_fault s ≡ None
name_of_namespace_clean s None is = ap namespace_name_fault is
name_of_namespace_clean [] (Some n) is = refl
name_of_namespace_clean (b ∷ bs) (Some n) is = ap (named what.Namespace (b ∷ bs)) is.0

namespace_entry_clean : (k : List ℕ) (d : Data) (name : Option Name) (n : NamespaceDefinition RawName over_raw) → NamespaceEntry k d name n → namespace_entry_fault k d ≡ None
namespace_entry_clean k d name n is =
    neither_fault _ _ (name_of_namespace_clean k name is.0) (under-none k _ (neither_fault (namespace_fault d) (noted_fault k d) (namespace_clean d n is.1) is.2))

pub fragment_clean : (d : Data) (f : Fragment RawName over_raw) → IsFragment d f → fragment_fault d ≡ None
fragment_clean d f is = map_clean NamespaceEntry namespace_entry_fault namespace_entry_clean (option_cmp name_cmp) d f.0 is
