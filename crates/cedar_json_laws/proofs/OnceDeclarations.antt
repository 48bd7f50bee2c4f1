-- SPDX-License-Identifier: Apache-2.0
-- A value has the shape of at most one declaration, namespace or fragment.
use Rattle.std.proofs.Common.{◌≡◌, ℕ, true, false, true≢false, IsTrue, ◌||◌, is_some, List, [], codes, Option, Some, None, refl, sym, ap, ◌∙◌, subst}
use Rattle.std.proofs.Props.{props}
use Rattle.std.proofs.lemmas.Option.{none-some}
use Rattle.std.specs.Cmp.Lexicographic.{slice_cmp}
use Rattle.std.specs.Option.{option_cmp}
use Rattle.std.specs.Ordering.{nat_cmp}
use Rattle.serde_json.specs.Data.{Data, Members, null, string}
use Rattle.serde_json.specs.Find.{as_object, get}
use Rattle.cedar_text.specs.Lists.{elements}
use Rattle.cedar_text.specs.Faults.{no_unreserved_id}
use Rattle.cedar_text.specs.NormalNames.{name_fault}
use Rattle.cedar_text.specs.declared.fault.NameFault.TheVariants.{Empty}
use Rattle.cedar_text.specs.declared.non_empty.NonEmpty.{NonEmpty}
use Rattle.cedar_names.specs.Names.{name_cmp}
use Rattle.cedar_names.specs.declared.annotation.Annotations.{Annotations}
use Rattle.cedar_names.specs.declared.name.Name.{Name}
use Rattle.cedar_names.proofs.NameLemmas.{Name-same}
use Rattle.cedar_types.specs.declared.value.ValueMap.{ValueMap}
use Rattle.cedar_written.specs.declared.raw_name.RawName.{RawName}
use Rattle.cedar_fragment.specs.ActionUids.{over_raw, raw_uid}
use Rattle.cedar_fragment.specs.Shapes.{type_of_shape}
use Rattle.cedar_fragment.specs.declared.action_uid.ActionEntityUID.{ActionEntityUID}
use Rattle.cedar_fragment.specs.declared.attributes_or_context.AttributesOrContext.{AttributesOrContext}
use Rattle.cedar_fragment.specs.declared.definitions.ActionType.{ActionType}
use Rattle.cedar_fragment.specs.declared.definitions.ApplySpec.{ApplySpec}
use Rattle.cedar_fragment.specs.declared.definitions.CommonType.{CommonType}
use Rattle.cedar_fragment.specs.declared.definitions.EntityType.{EntityType}
use Rattle.cedar_fragment.specs.declared.definitions.EntityTypeKind.{EntityTypeKind}
use Rattle.cedar_fragment.specs.declared.definitions.EntityTypeKind.TheVariants as sort
use Rattle.cedar_fragment.specs.declared.definitions.Fragment.{Fragment}
use Rattle.cedar_fragment.specs.declared.definitions.NamespaceDefinition.{NamespaceDefinition}
use Rattle.cedar_fragment.specs.declared.definitions.StandardEntityType.{StandardEntityType}
use Rattle.cedar_json_types.specs.CommonIds.{IdentifiesCommon}
use Rattle.cedar_json_types.specs.Parts.{AreAnnotations, Identifies, IsName, NoAnnotations}
use Rattle.cedar_json_types.specs.Shapes.{ArrayOf, Entry, IsText, MapOf, Nothing, OrNull, Present}
use Rattle.cedar_json_types.specs.Types.{Part}
use Rattle.cedar_json_types.specs.declared.keyed.KeySet.TheVariants as set
use Rattle.cedar_json_values.specs.ActionValues.{ValuePart, ValuesShape}
use Rattle.cedar_json_namespaces.specs.of_json_read.Declarations.{AreChoices, IsAction, IsApplySpec, IsCommonType, IsEntityType, IsKind, IsParent, IsShape, IsStandard, Noted, ShapeAt, empty_shape}
use Rattle.cedar_json_namespaces.specs.Namespaces.{IsFragment, IsNamespace, NamesNamespace, NamespaceEntry, common_cmp, id_cmp}
use Rattle.cedar_json_laws.proofs.OnceParts.{annotations_once, array_once, at_once, common_id_once, entry_once, identifies_once, internal_once, is_once, map_once, may_have_once, name_once, no_annotations_once, no_array, no_map, nothing_once, or_null_once, present_once, text_key_once, text_once}
use Rattle.cedar_json_laws.proofs.OnceTypes.{part_once}
use Rattle.cedar_json_laws.proofs.OnceValues.{value_once, values_once}

not_there : (d : Data) (e : Data) → is_some (get (codes "enum") d) ≡ false → get (codes "enum") d ≡ Some e → ⊥
not_there d e lacks is = true≢false (sym (ap is_some is) ∙ lacks)

not_text : (s : List ℕ) → null ≡ string s → ⊥
not_text s is = absurd (cc)

not_object : (ms : Members) → as_object null ≡ Some ms → ⊥
not_object ms is = absurd (cc)

-- an empty text is no name
unnamed : (s : List ℕ) (n : Name) → NamesNamespace s None → NamesNamespace s (Some n) → ⊥
unnamed s n empty is = let none : name_fault no_unreserved_id [] ≡ None = subst (λ t. name_fault no_unreserved_id t ≡ None) empty is.0 in none-some Empty (sym none)

-- ---- parts

noted_once : (d : Data) (a b : Annotations) → Noted d a → Noted d b → a ≡ b
noted_once d a b x y = may_have_once AreAnnotations annotations_once (codes "annotations") NoAnnotations no_annotations_once d a b x y

is_shape_once : (d : Data) (s t : AttributesOrContext RawName) → IsShape d s → IsShape d t → s ≡ t
is_shape_once d s t x y = let same = part_once 129 set.Type d (type_of_shape s) (type_of_shape t) x y in λ i. record { 0 = same i }

shape_once : (k : List ℕ) (d : Data) (s t : AttributesOrContext RawName) → ShapeAt k d s → ShapeAt k d t → s ≡ t
shape_once k d s t x y = may_have_once IsShape is_shape_once k (λ s. s ≡ empty_shape) (is_once empty_shape) d s t x y

names_once : (d : Data) (ns ms : List RawName) → ArrayOf IsName d ns → ArrayOf IsName d ms → ns ≡ ms
names_once = array_once IsName name_once

-- ---- common types and entity types

pub common_type_once : (d : Data) (c e : CommonType RawName) → IsCommonType d c → IsCommonType d e → c ≡ e
common_type_once d c e x y =
    let ty = part_once 129 set.CommonType d c.ty e.ty x.0 y.0 in
    let noted = noted_once d c.annotations e.annotations x.1 y.1 in
    let place = nothing_once c.loc e.loc x.2 y.2 in
    λ i. record { ty = ty i; annotations = noted i; loc = place i }

standard_once : (d : Data) (e f : StandardEntityType RawName) → IsStandard d e → IsStandard d f → e ≡ f
standard_once d e f x y =
    let parents = may_have_once (ArrayOf IsName) names_once (codes "memberOfTypes") (λ ns. ns ≡ []) (is_once []) d e.member_of_types f.member_of_types x.0 y.0 in
    let shape = shape_once (codes "shape") d e.shape f.shape x.1 y.1 in
    let tags = may_have_once (Present (Part 129 set.Type)) (present_once (Part 129 set.Type) (part_once 129 set.Type)) (codes "tags") Nothing nothing_once d e.tags f.tags x.2 y.2 in
    λ i. record { member_of_types = parents i; shape = shape i; tags = tags i }

list_is : (c e : NonEmpty (List ℕ)) → elements c ≡ elements e → c ≡ e
list_is c e same =
    let head : c.head ≡ e.head = cc in
    let tail : c.tail ≡ e.tail = cc in
    λ i. record { head = head i; tail = tail i }

choices_once : (d : Data) (c e : NonEmpty (List ℕ)) → AreChoices d c → AreChoices d e → c ≡ e
choices_once d c e x y = list_is c e (array_once IsText text_once d (elements c) (elements e) x y)

kind_once : (d : Data) (k l : EntityTypeKind RawName) → IsKind d k → IsKind d l → k ≡ l
kind_once d (sort.Standard e) (sort.Standard f) x y = ap sort.Standard (standard_once d e f x.1 y.1)
kind_once d (sort.Standard e) (sort.Enum c) x y = absurd (not_there d y.0.0 x.0 y.0.1)
kind_once d (sort.Enum c) (sort.Standard e) x y = absurd (not_there d x.0.0 y.0 x.0.1)
kind_once d (sort.Enum c) (sort.Enum e) x y = ap sort.Enum (at_once AreChoices choices_once (codes "enum") d c e x.0 y.0)

pub entity_once : (d : Data) (e f : EntityType RawName) → IsEntityType d e → IsEntityType d f → e ≡ f
entity_once d e f x y =
    let kind = kind_once d e.kind f.kind x.1 y.1 in
    let noted = noted_once d e.annotations f.annotations x.2 y.2 in
    let place = nothing_once e.loc f.loc x.3 y.3 in
    λ i. record { kind = kind i; annotations = noted i; loc = place i }

-- ---- actions

no_name : (n : RawName) → IsName null n → ⊥
no_name n is = not_text is.0 is.1

-- that only a parent over raw names may lack its type adds nothing to one over them
uid_is : (a : ActionEntityUID RawName over_raw) → a ≡ raw_uid a.ty a.id
uid_is a = let p : IsProp (IsTrue (true || is_some a.ty)) = hlevel props in λ i. record { ty = a.ty; id = a.id; typed = p a.typed refl i }

pub parent_once : (d : Data) (a b : ActionEntityUID RawName over_raw) → IsParent d a → IsParent d b → a ≡ b
parent_once d a b x y =
    let id = at_once IsText text_once (codes "id") d a.id b.id x.1 y.1 in
    let ty = may_have_once (OrNull IsName) (or_null_once IsName name_once no_name) (codes "type") Nothing nothing_once d a.ty b.ty x.2 y.2 in
    uid_is a ∙ (λ i. raw_uid (ty i) (id i)) ∙ sym (uid_is b)

pub apply_once : (d : Data) (a b : ApplySpec RawName) → IsApplySpec d a → IsApplySpec d b → a ≡ b
apply_once d a b x y =
    let resources = at_once (ArrayOf IsName) names_once (codes "resourceTypes") d a.resource_types b.resource_types x.1 y.1 in
    let principals = at_once (ArrayOf IsName) names_once (codes "principalTypes") d a.principal_types b.principal_types x.2 y.2 in
    let context = shape_once (codes "context") d a.context b.context x.3 y.3 in
    λ i. record { resource_types = resources i; principal_types = principals i; context = context i }

no_apply : (a : ApplySpec RawName) → IsApplySpec null a → ⊥
no_apply a is = not_object is.0.0 is.0.1

no_values : (m : ValueMap) → ValuesShape (ValuePart 129) null m → ⊥
no_values m is = no_map (slice_cmp nat_cmp) (Entry (λ k t. t ≡ k) (ValuePart 129)) _ is

action_values_once : (d : Data) (m n : ValueMap) → ValuesShape (ValuePart 129) d m → ValuesShape (ValuePart 129) d n → m ≡ n
action_values_once = values_once (ValuePart 129) (value_once 129)

parents_once : (d : Data) (ps qs : List (ActionEntityUID RawName over_raw)) → ArrayOf IsParent d ps → ArrayOf IsParent d qs → ps ≡ qs
parents_once = array_once IsParent parent_once

pub action_once : (d : Data) (a b : ActionType RawName over_raw) → IsAction d a → IsAction d b → a ≡ b
action_once d a b x y =
    let attributes = may_have_once (OrNull (ValuesShape (ValuePart 129))) (or_null_once (ValuesShape (ValuePart 129)) action_values_once no_values) (codes "attributes") Nothing nothing_once d a.attributes b.attributes x.1 y.1 in
    let applies = may_have_once (OrNull IsApplySpec) (or_null_once IsApplySpec apply_once no_apply) (codes "appliesTo") Nothing nothing_once d a.applies_to b.applies_to x.2 y.2 in
    let parents = may_have_once (OrNull (ArrayOf IsParent)) (or_null_once (ArrayOf IsParent) parents_once (no_array IsParent)) (codes "memberOf") Nothing nothing_once d a.member_of b.member_of x.3 y.3 in
    let noted = noted_once d a.annotations b.annotations x.4 y.4 in
    let place = nothing_once a.loc b.loc x.5 y.5 in
    λ i. record { attributes = attributes i; applies_to = applies i; member_of = parents i; annotations = noted i; loc = place i }

-- ---- namespaces and fragments

pub namespace_once : (d : Data) (m n : NamespaceDefinition RawName over_raw) → IsNamespace d m → IsNamespace d n → m ≡ n
namespace_once d m n x y =
    let commons = may_have_once (MapOf common_cmp (Entry IdentifiesCommon IsCommonType)) (map_once (Entry IdentifiesCommon IsCommonType) (entry_once IdentifiesCommon IsCommonType common_id_once common_type_once) common_cmp) (codes "commonTypes") (λ m. m ≡ []) (is_once []) d m.common_types n.common_types x.1 y.1 in
    let entities = at_once (MapOf id_cmp (Entry Identifies IsEntityType)) (map_once (Entry Identifies IsEntityType) (entry_once Identifies IsEntityType identifies_once entity_once) id_cmp) (codes "entityTypes") d m.entity_types n.entity_types x.2 y.2 in
    let actions = at_once (MapOf (slice_cmp nat_cmp) (Entry (λ k t. t ≡ k) IsAction)) (map_once (Entry (λ k t. t ≡ k) IsAction) (entry_once (λ k t. t ≡ k) IsAction text_key_once action_once) (slice_cmp nat_cmp)) (codes "actions") d m.actions n.actions x.3 y.3 in
    let noted = noted_once d m.annotations n.annotations x.4 y.4 in
    λ i. record { common_types = commons i; entity_types = entities i; actions = actions i; annotations = noted i }

name_of_namespace_once : (s : List ℕ) (m n : Option Name) → NamesNamespace s m → NamesNamespace s n → m ≡ n
name_of_namespace_once s None None x y = refl
name_of_namespace_once s None (Some n) x y = absurd (unnamed s n x y)
name_of_namespace_once s (Some m) None x y = absurd (unnamed s m y x)
name_of_namespace_once s (Some m) (Some n) x y = ap Some (Name-same m.internal n.internal m.unreserved n.unreserved (internal_once m.internal n.internal (x.1 ∙ sym y.1) (x.2 ∙ sym y.2)))

namespace_entry_once : (k : List ℕ) (d : Data) (a b : Option Name) (m n : NamespaceDefinition RawName over_raw) → NamespaceEntry k d a m → NamespaceEntry k d b n
    → ◌≡◌ {A = Option Name × NamespaceDefinition RawName over_raw} (a, m) (b, n)
namespace_entry_once k d a b m n x y = λ i. (name_of_namespace_once k a b x.0 y.0 i, namespace_once d m n x.1 y.1 i)

pub fragment_once : (d : Data) (f g : Fragment RawName over_raw) → IsFragment d f → IsFragment d g → f ≡ g
fragment_once d f g x y = let same = map_once NamespaceEntry namespace_entry_once (option_cmp name_cmp) d f.0 g.0 x y in λ i. record { 0 = same i }
