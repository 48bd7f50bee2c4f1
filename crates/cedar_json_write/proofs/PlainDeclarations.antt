-- SPDX-License-Identifier: Apache-2.0
-- No float is written of a declaration, a namespace or a fragment.
use Rattle.std.proofs.Common.{◌≡◌, ℕ, false, List, ◌∷◌, codes, refl}
use Rattle.serde_json.specs.Data.{Data, string}
use Rattle.serde_json.specs.Written.{has_float}
use Rattle.cedar_text.specs.Lists.{elements}
use Rattle.cedar_names.specs.Identifiers.{unreserved_word}
use Rattle.cedar_types.specs.declared.value.ValueMap.{ValueMap}
use Rattle.cedar_written.specs.declared.raw_name.RawName.{RawName}
use Rattle.cedar_fragment.specs.ActionUids.{over_raw, type_in}
use Rattle.cedar_fragment.specs.Printed.{is_empty_type}
use Rattle.cedar_fragment.specs.Shapes.{type_of_shape}
use Rattle.cedar_fragment.specs.declared.action_uid.ActionEntityUID.{ActionEntityUID}
use Rattle.cedar_fragment.specs.declared.attributes_or_context.AttributesOrContext.{AttributesOrContext}
use Rattle.cedar_fragment.specs.declared.definitions.ActionType.{ActionType}
use Rattle.cedar_fragment.specs.declared.definitions.ApplySpec.{ApplySpec}
use Rattle.cedar_fragment.specs.declared.definitions.CommonType.{CommonType}
use Rattle.cedar_fragment.specs.declared.definitions.EntityType.{EntityType}
use Rattle.cedar_fragment.specs.declared.definitions.EntityTypeKind.{EntityTypeKind}
use Rattle.cedar_fragment.specs.declared.definitions.EntityTypeKind.TheVariants as sort
use Rattle.cedar_fragment.specs.declared.definitions.Fragment.{Fragment}
use Rattle.cedar_fragment.specs.declared.definitions.NamespaceDefinition.{NamespaceDefinition}
use Rattle.cedar_fragment.specs.declared.definitions.StandardEntityType.{StandardEntityType}
use Rattle.cedar_json_write.specs.Written.{action_json, all_of, apply_json, common_json, common_word, each_at, entity_json, fragment_json, if_any, if_some, kind_fields, map_fields, name_json, names_json, namespace_json, namespace_text, notes, parent_json, shape_at, standard_fields, type_fields, type_json, values_json}
use Rattle.cedar_json_write.proofs.Plain.{Plain, append_plain, each_plain, if_any_plain, if_some_plain, items_plain, object_plain, unless_plain}
use Rattle.cedar_json_write.proofs.PlainTypes.{map_fields_plain, notes_plain, type_fields_plain, type_plain}

names_plain : (ns : List RawName) → has_float (names_json ns) ≡ false
names_plain ns = items_plain name_json (λ n. refl) ns

shape_plain : (k : List ℕ) (s : AttributesOrContext RawName) → Plain (shape_at k s)
shape_plain k s = unless_plain (is_empty_type (type_of_shape s)) k (type_json (type_of_shape s)) (type_plain (type_of_shape s))

common_plain : (c : CommonType RawName) → has_float (common_json c) ≡ false
common_plain c = object_plain _ (append_plain (type_fields c.ty) (notes c.annotations) (type_fields_plain c.ty) (notes_plain c.annotations))

standard_plain : (e : StandardEntityType RawName) → Plain (standard_fields e)
standard_plain e =
    append_plain (if_any (codes "memberOfTypes") names_json e.member_of_types) _ (if_any_plain (codes "memberOfTypes") names_json names_plain e.member_of_types)
    (append_plain (shape_at (codes "shape") e.shape) _ (shape_plain (codes "shape") e.shape) (if_some_plain (codes "tags") type_json type_plain e.tags))

kind_plain : (k : EntityTypeKind RawName) → Plain (kind_fields k)
kind_plain (sort.Standard e) = standard_plain e
kind_plain (sort.Enum choices) = (items_plain string (λ t. refl) (elements choices), tt)

entity_plain : (e : EntityType RawName) → has_float (entity_json e) ≡ false
entity_plain e = object_plain _ (append_plain (kind_fields e.kind) (notes e.annotations) (kind_plain e.kind) (notes_plain e.annotations))

parent_plain : (a : ActionEntityUID RawName over_raw) → has_float (parent_json a) ≡ false
parent_plain a = object_plain ((codes "id", string a.id) ∷ if_some (codes "type") name_json (type_in a)) (refl, if_some_plain (codes "type") name_json (λ n. refl) (type_in a))

apply_plain : (a : ApplySpec RawName) → has_float (apply_json a) ≡ false
apply_plain a = object_plain ((codes "resourceTypes", names_json a.resource_types) ∷ (codes "principalTypes", names_json a.principal_types) ∷ shape_at (codes "context") a.context) (names_plain a.resource_types, (names_plain a.principal_types, shape_plain (codes "context") a.context))

action_values_plain : (m : ValueMap) → has_float (values_json m) ≡ false
action_values_plain m = object_plain (map_fields m) (map_fields_plain m)

parents_plain : (ps : List (ActionEntityUID RawName over_raw)) → has_float (all_of parent_json ps) ≡ false
parents_plain ps = items_plain parent_json parent_plain ps

action_plain : (a : ActionType RawName over_raw) → has_float (action_json a) ≡ false
action_plain a = object_plain _
    (append_plain (if_some (codes "attributes") values_json a.attributes) _ (if_some_plain (codes "attributes") values_json action_values_plain a.attributes)
    (append_plain (if_some (codes "appliesTo") apply_json a.applies_to) _ (if_some_plain (codes "appliesTo") apply_json apply_plain a.applies_to)
    (append_plain (if_some (codes "memberOf") (all_of parent_json) a.member_of) (notes a.annotations) (if_some_plain (codes "memberOf") (all_of parent_json) parents_plain a.member_of) (notes_plain a.annotations))))

map_plain : {K V : Type 0} (key : K → List ℕ) (of : V → Data) → ((v : V) → has_float (of v) ≡ false) → (es : List (K × V)) → has_float (each_at key of es) ≡ false
map_plain key of plain es = object_plain _ (each_plain key of plain es)

namespace_plain : (n : NamespaceDefinition RawName over_raw) → has_float (namespace_json n) ≡ false
namespace_plain n = object_plain _
    (append_plain (if_any (codes "commonTypes") (each_at common_word common_json) n.common_types) ((codes "entityTypes", each_at unreserved_word entity_json n.entity_types) ∷ (codes "actions", each_at (λ k. k) action_json n.actions) ∷ notes n.annotations) (if_any_plain (codes "commonTypes") (each_at common_word common_json) (map_plain common_word common_json common_plain) n.common_types)
    (map_plain unreserved_word entity_json entity_plain n.entity_types, (map_plain (λ k. k) action_json action_plain n.actions, notes_plain n.annotations)))

pub fragment_plain : (f : Fragment RawName over_raw) → has_float (fragment_json f) ≡ false
fragment_plain f = map_plain namespace_text namespace_json namespace_plain f.0
