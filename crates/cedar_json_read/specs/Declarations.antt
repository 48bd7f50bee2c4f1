-- SPDX-License-Identifier: Apache-2.0
-- Declarations: what is first wrong with a value that has to be one, and which one a value has the shape of.
use Rattle.std.specs.Prelude.{◌≡◌, ℕ, true, false, is_some, if◌then◌else◌, List, [], ◌∷◌, ◌++◌, codes, Option, Some, None}
use Rattle.serde_json.specs.Data.{Data, Items, no_items, item}
use Rattle.serde_json.specs.Find.{get, as_array}
use Rattle.cedar_text.specs.Lists.{elements}
use Rattle.cedar_text.specs.declared.non_empty.NonEmpty.{NonEmpty}
use Rattle.cedar_names.specs.declared.annotation.Annotations.{Annotations}
use Rattle.cedar_written.specs.WrittenTypes.{empty_record}
use Rattle.cedar_written.specs.declared.raw_name.RawName.{RawName}
use Rattle.cedar_written.specs.declared.ty.SchemaType.TheVariants as type
use Rattle.cedar_written.specs.declared.ty.TypeVariant.TheVariants as variant
use Rattle.cedar_fragment.specs.ActionUids.{over_raw}
use Rattle.cedar_fragment.specs.Shapes.{shape_of, type_of_shape}
use Rattle.cedar_fragment.specs.declared.action_uid.ActionEntityUID.{ActionEntityUID}
use Rattle.cedar_fragment.specs.declared.attributes_or_context.AttributesOrContext.{AttributesOrContext}
use Rattle.cedar_fragment.specs.declared.definitions.ActionType.{ActionType}
use Rattle.cedar_fragment.specs.declared.definitions.ApplySpec.{ApplySpec}
use Rattle.cedar_fragment.specs.declared.definitions.CommonType.{CommonType}
use Rattle.cedar_fragment.specs.declared.definitions.EntityType.{EntityType}
use Rattle.cedar_fragment.specs.declared.definitions.EntityTypeKind.{EntityTypeKind}
use Rattle.cedar_fragment.specs.declared.definitions.EntityTypeKind.TheVariants as sort
use Rattle.cedar_fragment.specs.declared.definitions.StandardEntityType.{StandardEntityType}
use Rattle.cedar_json_fault.specs.declared.json_fault.JsonFault.TheVariants as fault
use Rattle.cedar_json_fault.specs.declared.json_fault.JsonShape.TheVariants as shape
use Rattle.cedar_json_fault.specs.declared.json_fault.NameKind.TheVariants as what
use Rattle.cedar_json_types.specs.Faults.{Fault, here, first, in_text, any_text, needs, allows, unless_null, keys_fault, array_fault, map_fault, entry_fault}
use Rattle.cedar_json_types.specs.Keys.{entity_keys, action_keys, apply_keys, parent_keys}
use Rattle.cedar_json_types.specs.Parts.{reference_fault, annotations_fault, IsName, AreAnnotations, NoAnnotations}
use Rattle.cedar_json_types.specs.Shapes.{Keyed, At, MayHave, OrNull, Nothing, Present, ArrayOf, IsText}
use Rattle.cedar_json_types.specs.Types.{Part, part_fault}
use Rattle.cedar_json_types.specs.declared.keyed.KeySet.TheVariants as set
use Rattle.cedar_json_values.specs.ActionValues.{ValuePart, ValuesShape, value_fault}

-- ---- parts of declarations

-- what is wrong with a list of names
abbrev pub names_fault : Data → Fault
names_fault = array_fault (in_text (reference_fault what.Name))

-- what is wrong with annotations, where they are there
abbrev pub notes_fault : Data → Fault
notes_fault = allows (codes "annotations") annotations_fault

-- what is said of a declaration
abbrev pub Noted : Data → Annotations → Type 0
Noted = MayHave (codes "annotations") NoAnnotations AreAnnotations

-- the closed record type without attributes
abbrev pub empty_shape : AttributesOrContext RawName
empty_shape = shape_of (type.Variant (variant.Record empty_record) None)

-- the type at the key as a shape or a context; an absent one is the closed record without attributes
abbrev pub IsShape : Data → AttributesOrContext RawName → Type 0
IsShape d s = Part 129 set.Type d (type_of_shape s)

abbrev pub ShapeAt : List ℕ → Data → AttributesOrContext RawName → Type 0
ShapeAt k = MayHave k (λ s. s ≡ empty_shape) IsShape

-- ---- common types

abbrev pub common_type_fault : Data → Fault
common_type_fault d = first (part_fault 129 set.CommonType d) (notes_fault d)

abbrev pub IsCommonType : Data → CommonType RawName → Type 0
IsCommonType d c = Part 129 set.CommonType d c.ty × Noted d c.annotations × (c.loc ≡ None)

-- ---- entity types

-- what is wrong with an entity type whose entities have attributes
abbrev pub standard_fault : Data → Fault
standard_fault d = first (allows (codes "memberOfTypes") names_fault d) (first (allows (codes "shape") (part_fault 129 set.Type) d) (allows (codes "tags") (part_fault 129 set.Type) d))

abbrev pub IsStandard : Data → StandardEntityType RawName → Type 0
IsStandard d e =
    MayHave (codes "memberOfTypes") (λ ns. ns ≡ []) (ArrayOf IsName) d e.member_of_types × ShapeAt (codes "shape") d e.shape
    × MayHave (codes "tags") Nothing (Present (Part 129 set.Type)) d e.tags

-- the key, if it is there
abbrev pub if_present : List ℕ → Data → List (List ℕ)
if_present k d = if is_some (get k d) then k ∷ [] else []

-- those keys that are there of which an enumerated entity type may have none
abbrev pub present : Data → List (List ℕ)
present d = if_present (codes "memberOfTypes") d ++ if_present (codes "shape") d ++ if_present (codes "tags") d

-- keys that are there and may not be
abbrev pub unexpected : List (List ℕ) → Fault
unexpected [] = None
unexpected (k ∷ ks) = Some (here (fault.UnexpectedFields (k ∷ ks)))

-- an enumerated entity type has at least one entity
abbrev pub no_item : Option Items → Fault
no_item None = None
no_item (Some no_items) = Some (here fault.EmptyEnum)
no_item (Some (item d ds)) = None

abbrev pub no_choice : Data → Fault
no_choice d = no_item (as_array d)

-- the value is an array of these texts
abbrev pub AreTexts : Data → List (List ℕ) → Type 0
AreTexts = ArrayOf IsText

-- what is wrong with the list of the entities of an enumerated entity type
abbrev pub choices_fault : Data → Fault
choices_fault d = first (array_fault (in_text any_text) d) (no_choice d)

abbrev pub AreChoices : Data → NonEmpty (List ℕ) → Type 0
AreChoices d choices = ArrayOf IsText d (elements choices)

-- what is wrong with the kind of an entity type: it is enumerated where it has the key `enum`
abbrev pub kind_fault : Data → Fault
kind_fault d = if is_some (get (codes "enum") d) then first (needs (codes "enum") choices_fault d) (unexpected (present d)) else standard_fault d

abbrev pub entity_fault : Data → Fault
entity_fault d = first (keys_fault shape.EntityType entity_keys d) (first (kind_fault d) (notes_fault d))

abbrev pub IsKind : Data → EntityTypeKind RawName → Type 0
IsKind d (sort.Standard e) = (is_some (get (codes "enum") d) ≡ false) × IsStandard d e
IsKind d (sort.Enum choices) = At (codes "enum") AreChoices d choices × (present d ≡ [])

abbrev pub IsEntityType : Data → EntityType RawName → Type 0
IsEntityType d e = Keyed entity_keys d × IsKind d e.kind × Noted d e.annotations × (e.loc ≡ None)

-- ---- actions

abbrev pub parent_fault : Data → Fault
parent_fault d = first (keys_fault shape.Parent parent_keys d) (first (needs (codes "id") (in_text any_text) d) (allows (codes "type") (unless_null (in_text (reference_fault what.Name))) d))

abbrev pub IsParent : Data → ActionEntityUID RawName over_raw → Type 0
IsParent d a = Keyed parent_keys d × At (codes "id") IsText d a.id × MayHave (codes "type") Nothing (OrNull IsName) d a.ty

abbrev pub apply_fault : Data → Fault
apply_fault d = first (keys_fault shape.ApplySpec apply_keys d) (first (needs (codes "resourceTypes") names_fault d) (first (needs (codes "principalTypes") names_fault d) (allows (codes "context") (part_fault 129 set.Type) d)))

abbrev pub IsApplySpec : Data → ApplySpec RawName → Type 0
IsApplySpec d a =
    Keyed apply_keys d × At (codes "resourceTypes") (ArrayOf IsName) d a.resource_types × At (codes "principalTypes") (ArrayOf IsName) d a.principal_types × ShapeAt (codes "context") d a.context

abbrev pub values_fault : Data → Fault
values_fault = map_fault (entry_fault any_text (value_fault 129))

abbrev pub action_fault : Data → Fault
action_fault d =
    first (keys_fault shape.Action action_keys d)
    (first (allows (codes "attributes") (unless_null values_fault) d)
    (first (allows (codes "appliesTo") (unless_null apply_fault) d)
    (first (allows (codes "memberOf") (unless_null (array_fault parent_fault)) d) (notes_fault d))))

abbrev pub IsAction : Data → ActionType RawName over_raw → Type 0
IsAction d a =
    Keyed action_keys d × MayHave (codes "attributes") Nothing (OrNull (ValuesShape (ValuePart 129))) d a.attributes
    × MayHave (codes "appliesTo") Nothing (OrNull IsApplySpec) d a.applies_to × MayHave (codes "memberOf") Nothing (OrNull (ArrayOf IsParent)) d a.member_of
    × Noted d a.annotations × (a.loc ≡ None)
