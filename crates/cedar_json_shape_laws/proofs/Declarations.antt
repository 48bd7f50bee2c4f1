-- SPDX-License-Identifier: Apache-2.0
-- A value without a fault as a declaration has the shape of one.
use Rattle.std.proofs.Common.{◌≡◌, ℕ, Bool, true, false, is_some, if◌then◌else◌, List, [], ◌∷◌, codes, Option, None, refl, arith}
use Rattle.serde_json.specs.Data.{Data}
use Rattle.serde_json.specs.Find.{get}
use Rattle.cedar_text.specs.declared.non_empty.NonEmpty.{NonEmpty}
use Rattle.cedar_types.specs.declared.value.ValueMap.{ValueMap}
use Rattle.cedar_written.specs.declared.raw_name.RawName.{RawName}
use Rattle.cedar_fragment.specs.ActionUids.{over_raw, raw_uid}
use Rattle.cedar_fragment.specs.Shapes.{shape_of}
use Rattle.cedar_fragment.specs.declared.action_uid.ActionEntityUID.{ActionEntityUID}
use Rattle.cedar_fragment.specs.declared.attributes_or_context.AttributesOrContext.{AttributesOrContext}
use Rattle.cedar_fragment.specs.declared.definitions.ActionType.{ActionType}
use Rattle.cedar_fragment.specs.declared.definitions.ApplySpec.{ApplySpec}
use Rattle.cedar_fragment.specs.declared.definitions.CommonType.{CommonType}
use Rattle.cedar_fragment.specs.declared.definitions.EntityType.{EntityType}
use Rattle.cedar_fragment.specs.declared.definitions.EntityTypeKind.{EntityTypeKind}
use Rattle.cedar_fragment.specs.declared.definitions.EntityTypeKind.TheVariants as sort
use Rattle.cedar_fragment.specs.declared.definitions.StandardEntityType.{StandardEntityType}
use Rattle.cedar_json_fault.specs.declared.json_fault.JsonShape.TheVariants as shape
use Rattle.cedar_json_fault.specs.declared.json_fault.NameKind.TheVariants as what
use Rattle.cedar_json_types.specs.Faults.{Fault, allows, any_text, array_fault, first, in_text, keys_fault, needs, unless_null}
use Rattle.cedar_json_types.specs.Keys.{action_keys, apply_keys, entity_keys, parent_keys}
use Rattle.cedar_json_types.specs.Parts.{IsName, reference_fault}
use Rattle.cedar_json_types.specs.Shapes.{ArrayOf, IsText, MayHave, Nothing, OrNull, Present}
use Rattle.cedar_json_types.specs.Types.{Part, part_fault}
use Rattle.cedar_json_types.specs.declared.keyed.KeySet.TheVariants as set
use Rattle.cedar_json_values.specs.ActionValues.{ValuePart, ValuesShape, value_fault}
use Rattle.cedar_json_namespaces.specs.of_json_read.Declarations.{AreChoices, IsAction, IsApplySpec, IsCommonType, IsEntityType, IsKind, IsParent, IsShape, IsStandard, ShapeAt, action_fault, apply_fault, choices_fault, common_type_fault, empty_shape, entity_fault, kind_fault, names_fault, no_choice, notes_fault, parent_fault, present, standard_fault, unexpected, values_fault}
use Rattle.cedar_json_namespaces.proofs.of_json_read.ChoiceLemmas.{no_choices}
use Rattle.cedar_json_shape_laws.proofs.Members.{array_shaped, at_shaped, may_have_shaped, or_null_shaped, present_shaped}
use Rattle.cedar_json_shape_laws.proofs.Names.{name_shaped}
use Rattle.cedar_json_shape_laws.proofs.Steps.{a_text, keyed, neither}
use Rattle.cedar_json_shape_laws.proofs.Types.{notes_shaped, part_shaped}
use Rattle.cedar_json_shape_laws.proofs.Values.{value_shaped, values_shaped}

-- ---- parts of declarations

text_shaped : (d : Data) → in_text any_text d ≡ None → (t : List ℕ) × IsText d t
text_shaped d none = let text = a_text any_text d none in (text.0, text.1)

names_shaped : (d : Data) → names_fault d ≡ None → (ns : List RawName) × ArrayOf IsName d ns
names_shaped = array_shaped IsName (in_text (reference_fault what.Name)) (name_shaped what.Name)

is_shape_shaped : (d : Data) → part_fault 129 set.Type d ≡ None → (s : AttributesOrContext RawName) × IsShape d s
is_shape_shaped d none = let made = part_shaped 129 set.Type d (omega arith) none in (shape_of made.0, made.1)

shape_shaped : (k : List ℕ) (d : Data) → allows k (part_fault 129 set.Type) d ≡ None → (s : AttributesOrContext RawName) × ShapeAt k d s
shape_shaped k d none = may_have_shaped IsShape (part_fault 129 set.Type) is_shape_shaped k (λ s. s ≡ empty_shape) empty_shape refl d none

-- the value at the key, of which an absent one and `null` are none
optional_shaped : {V : Type 0} (P : Data → V → Type 0) (fault : Data → Fault) → ((d : Data) → fault d ≡ None → (v : V) × P d v) → (k : List ℕ) (d : Data) → allows k (unless_null fault) d ≡ None
    → (o : Option V) × MayHave k Nothing (OrNull P) d o
optional_shaped P fault shaped k d none = may_have_shaped (OrNull P) (unless_null fault) (or_null_shaped P fault shaped) k Nothing None refl d none

-- ---- common types

pub common_type_shaped : (d : Data) → common_type_fault d ≡ None → (c : CommonType RawName) × IsCommonType d c
common_type_shaped d none =
    let both = neither (part_fault 129 set.CommonType d) (notes_fault d) none in
    let ty = part_shaped 129 set.CommonType d (omega arith) both.0 in
    let notes = notes_shaped d both.1 in
    (record { ty = ty.0; annotations = notes.0; loc = None }, (ty.1, notes.1, refl))

-- ---- entity types

standard_shaped : (d : Data) → standard_fault d ≡ None → (e : StandardEntityType RawName) × IsStandard d e
standard_shaped d none =
    let both = neither (allows (codes "memberOfTypes") names_fault d) _ none in
    let last = neither (allows (codes "shape") (part_fault 129 set.Type) d) (allows (codes "tags") (part_fault 129 set.Type) d) both.1 in
    let parents = may_have_shaped (ArrayOf IsName) names_fault names_shaped (codes "memberOfTypes") (λ ns. ns ≡ []) [] refl d both.0 in
    let shape = shape_shaped (codes "shape") d last.0 in
    let tag = present_shaped (Part 129 set.Type) (part_fault 129 set.Type) (λ e. part_shaped 129 set.Type e (omega arith)) in
    let tags = may_have_shaped (Present (Part 129 set.Type)) (part_fault 129 set.Type) tag (codes "tags") Nothing None refl d last.1 in
    (record { member_of_types = parents.0; shape = shape.0; tags = tags.0 }, (parents.1, shape.1, tags.1))

some_chosen : (d : Data) (ts : List (List ℕ)) → ArrayOf IsText d ts → no_choice d ≡ None → (c : NonEmpty (List ℕ)) × AreChoices d c
some_chosen d [] are none = absurd (cc (no_choices d [] are refl, none))
some_chosen d (t ∷ ts) are none = (record { head = t; tail = ts }, are)

choices_shaped : (d : Data) → choices_fault d ≡ None → (c : NonEmpty (List ℕ)) × AreChoices d c
choices_shaped d none =
    let both = neither (array_fault (in_text any_text) d) (no_choice d) none in
    let texts = array_shaped IsText (in_text any_text) text_shaped d both.0 in
    some_chosen d texts.0 texts.1 both.1

none_expected : (ks : List (List ℕ)) → unexpected ks ≡ None → ks ≡ []
none_expected [] none = refl
none_expected (k ∷ ks) none = absurd (cc)

-- an entity type is enumerated where it has the key of that
kind_where : (d : Data) (listed : Bool) → is_some (get (codes "enum") d) ≡ listed → (if listed then first (needs (codes "enum") choices_fault d) (unexpected (present d)) else standard_fault d) ≡ None
    → (k : EntityTypeKind RawName) × IsKind d k
kind_where d false is none = let made = standard_shaped d none in (sort.Standard made.0, (is, made.1))
kind_where d true is none =
    let both = neither (needs (codes "enum") choices_fault d) (unexpected (present d)) none in
    let made = at_shaped AreChoices choices_fault choices_shaped (codes "enum") d both.0 in
    (sort.Enum made.0, (made.1, none_expected (present d) both.1))

pub entity_shaped : (d : Data) → entity_fault d ≡ None → (e : EntityType RawName) × IsEntityType d e
entity_shaped d none =
    let both = neither (keys_fault shape.EntityType entity_keys d) (first (kind_fault d) (notes_fault d)) none in
    let last = neither (kind_fault d) (notes_fault d) both.1 in
    let kind = kind_where d (is_some (get (codes "enum") d)) refl last.0 in
    let notes = notes_shaped d last.1 in
    (record { kind = kind.0; annotations = notes.0; loc = None }, (keyed shape.EntityType entity_keys d both.0, kind.1, notes.1, refl))

-- ---- actions

pub parent_shaped : (d : Data) → parent_fault d ≡ None → (a : ActionEntityUID RawName over_raw) × IsParent d a
parent_shaped d none =
    let both = neither (keys_fault shape.Parent parent_keys d) _ none in
    let last = neither (needs (codes "id") (in_text any_text) d) (allows (codes "type") (unless_null (in_text (reference_fault what.Name))) d) both.1 in
    let id = at_shaped IsText (in_text any_text) text_shaped (codes "id") d last.0 in
    let ty = optional_shaped IsName (in_text (reference_fault what.Name)) (name_shaped what.Name) (codes "type") d last.1 in
    (raw_uid ty.0 id.0, (keyed shape.Parent parent_keys d both.0, id.1, ty.1))

pub apply_shaped : (d : Data) → apply_fault d ≡ None → (a : ApplySpec RawName) × IsApplySpec d a
apply_shaped d none =
    let both = neither (keys_fault shape.ApplySpec apply_keys d) _ none in
    let rest = neither (needs (codes "resourceTypes") names_fault d) _ both.1 in
    let last = neither (needs (codes "principalTypes") names_fault d) (allows (codes "context") (part_fault 129 set.Type) d) rest.1 in
    let resources = at_shaped (ArrayOf IsName) names_fault names_shaped (codes "resourceTypes") d rest.0 in
    let principals = at_shaped (ArrayOf IsName) names_fault names_shaped (codes "principalTypes") d last.0 in
    let context = shape_shaped (codes "context") d last.1 in
    (record { resource_types = resources.0; principal_types = principals.0; context = context.0 }, (keyed shape.ApplySpec apply_keys d both.0, resources.1, principals.1, context.1))

action_values_shaped : (d : Data) → values_fault d ≡ None → (m : ValueMap) × ValuesShape (ValuePart 129) d m
action_values_shaped = values_shaped (ValuePart 129) (value_fault 129) (λ e. value_shaped 129 e (omega arith))

parents_shaped : (d : Data) → array_fault parent_fault d ≡ None → (ps : List (ActionEntityUID RawName over_raw)) × ArrayOf IsParent d ps
parents_shaped = array_shaped IsParent parent_fault parent_shaped

pub action_shaped : (d : Data) → action_fault d ≡ None → (a : ActionType RawName over_raw) × IsAction d a
action_shaped d none =
    let keys = neither (keys_fault shape.Action action_keys d) _ none in
    let first = neither (allows (codes "attributes") (unless_null values_fault) d) _ keys.1 in
    let second = neither (allows (codes "appliesTo") (unless_null apply_fault) d) _ first.1 in
    let third = neither (allows (codes "memberOf") (unless_null (array_fault parent_fault)) d) (notes_fault d) second.1 in
    let attributes = optional_shaped (ValuesShape (ValuePart 129)) values_fault action_values_shaped (codes "attributes") d first.0 in
    let applies = optional_shaped IsApplySpec apply_fault apply_shaped (codes "appliesTo") d second.0 in
    let parents = optional_shaped (ArrayOf IsParent) (array_fault parent_fault) parents_shaped (codes "memberOf") d third.0 in
    let notes = notes_shaped d third.1 in (
      record { attributes = attributes.0; applies_to = applies.0; member_of = parents.0; annotations = notes.0; loc = None },
      (keyed shape.Action action_keys d keys.0, attributes.1, applies.1, parents.1, notes.1, refl),
    )
