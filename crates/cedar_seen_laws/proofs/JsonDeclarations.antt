-- SPDX-License-Identifier: Apache-2.0
-- What is written in JSON of a fragment is what is written of it as it is seen.
use Rattle.std.proofs.Common.{◌≡◌, ℕ, List, ◌∷◌, ◌++◌, map, codes, Option, Some, None, refl, sym, ap, ◌∙◌}
use Rattle.serde_json.specs.Data.{string}
use Rattle.cedar_names.specs.Identifiers.{unreserved_word}
use Rattle.cedar_names.specs.declared.id.UnreservedId.{UnreservedId}
use Rattle.cedar_names.specs.declared.name.Name.{Name}
use Rattle.cedar_written.specs.declared.common_type_id.CommonTypeId.{CommonTypeId}
use Rattle.cedar_written.specs.declared.raw_name.RawName.{RawName}
use Rattle.cedar_fragment.specs.ActionUids.{over_raw, type_in}
use Rattle.cedar_fragment.specs.Shapes.{type_of_shape}
use Rattle.cedar_fragment.specs.declared.action_uid.ActionEntityUID.{ActionEntityUID}
use Rattle.cedar_fragment.specs.declared.attributes_or_context.AttributesOrContext.{AttributesOrContext}
use Rattle.cedar_fragment.specs.declared.definitions.ActionType.{ActionType}
use Rattle.cedar_fragment.specs.declared.definitions.ApplySpec.{ApplySpec}
use Rattle.cedar_fragment.specs.declared.definitions.CommonType.{CommonType}
use Rattle.cedar_fragment.specs.declared.definitions.EntityType.{EntityType}
use Rattle.cedar_fragment.specs.declared.definitions.EntityTypeKind.{EntityTypeKind}
use Rattle.cedar_fragment.specs.declared.definitions.EntityTypeKind.TheVariants as sort
use Rattle.cedar_fragment.specs.declared.definitions.Fragment.{Fragment}
use Rattle.cedar_fragment.specs.declared.definitions.NamespaceDefinition.{NamespaceDefinition}
use Rattle.cedar_convert_fragment.specs.Views.{action_seen, apply_seen, common_seen, common_word, definition_seen, entity_seen, fragment_seen, kind_seen, name_at, namespace_words, parent_seen, type_seen}
use Rattle.cedar_json_write.specs.Written as json
use Rattle.cedar_json_write.specs.Written.{action_json, all_of, apply_json, common_json, each_at, entity_json, fragment_json, if_some, kind_fields, name_json, names_json, namespace_json, namespace_text, object_of, parent_json, shape_at, type_json, unless, values_json}
use Rattle.cedar_reread_print.proofs.Empty.{empty_alike}
use Rattle.cedar_seen_laws.proofs.JsonTypes.{notes_same, type_same, value_same}
use Rattle.cedar_seen_laws.proofs.Lists.{all_same, any_same, map_same, some_same}
use Rattle.cedar_seen_laws.proofs.SeenJson.{action_value, apply_value, common_value, content_members, definition_value, entity_value, fragment_value, name_value, names_value, parent_value, path_text, shape_members, type_value}

-- ---- parts

names_same : (ns : List RawName) → names_json ns ≡ names_value (map name_at ns)
names_same = all_same name_at name_json name_value (λ n. refl)

shape_same : (k : List ℕ) (s : AttributesOrContext RawName) → shape_at k s ≡ shape_members k (type_seen (type_of_shape s))
shape_same k s = λ i. unless (empty_alike (type_of_shape s) i) k (value_same (type_of_shape s) i)

-- ---- common types and entity types

common_same : (c : CommonType RawName) → common_json c ≡ common_value (common_seen c)
common_same c = λ i. object_of (type_same c.ty i ++ notes_same c.annotations i)

kind_same : (k : EntityTypeKind RawName) → kind_fields k ≡ content_members (kind_seen k)
kind_same (sort.Standard e) =
    let parents = any_same name_at (codes "memberOfTypes") names_json names_value names_same e.member_of_types in
    let tags = some_same type_seen type_json type_value value_same (codes "tags") e.tags in
    λ i. parents i ++ (shape_same (codes "shape") e.shape i ++ tags i)
kind_same (sort.Enum choices) = refl

entity_same : (e : EntityType RawName) → entity_json e ≡ entity_value (entity_seen e)
entity_same e = λ i. object_of (kind_same e.kind i ++ notes_same e.annotations i)

-- ---- actions

parent_same : (u : ActionEntityUID RawName over_raw) → parent_json u ≡ parent_value (parent_seen u)
parent_same u = ap (λ ty. object_of ((codes "id", string u.id) ∷ ty)) (some_same name_at name_json name_value (λ n. refl) (codes "type") (type_in u))

parents_same : (us : List (ActionEntityUID RawName over_raw)) → all_of parent_json us ≡ all_of parent_value (map parent_seen us)
parents_same = all_same parent_seen parent_json parent_value parent_same

apply_same : (a : ApplySpec RawName) → apply_json a ≡ apply_value (apply_seen a)
apply_same a =
    λ i. object_of ((codes "resourceTypes", names_same a.resource_types i) ∷ (codes "principalTypes", names_same a.principal_types i) ∷ shape_same (codes "context") a.context i)

action_same : (a : ActionType RawName over_raw) → action_json a ≡ action_value (action_seen a)
action_same a =
    let applies = some_same apply_seen apply_json apply_value apply_same (codes "appliesTo") a.applies_to in
    let parents = some_same (map parent_seen) (all_of parent_json) (all_of parent_value) parents_same (codes "memberOf") a.member_of in
    λ i. object_of (if_some (codes "attributes") values_json a.attributes ++ (applies i ++ (parents i ++ notes_same a.annotations i)))

-- ---- namespaces and fragments

commons_same : (es : List (CommonTypeId × CommonType RawName)) → each_at json.common_word common_json es ≡ each_at (λ k. k) common_value (map (λ e. (common_word e.0, common_seen e.1)) es)
commons_same = map_same common_word common_seen json.common_word (λ k. k) common_json common_value (λ k. refl) common_same

entities_same : (es : List (UnreservedId × EntityType RawName)) → each_at unreserved_word entity_json es ≡ each_at (λ k. k) entity_value (map (λ e. (unreserved_word e.0, entity_seen e.1)) es)
entities_same = map_same unreserved_word entity_seen unreserved_word (λ k. k) entity_json entity_value (λ k. refl) entity_same

actions_same : (es : List (List ℕ × ActionType RawName over_raw)) → each_at (λ k. k) action_json es ≡ each_at (λ k. k) action_value (map (λ e. (e.0, action_seen e.1)) es)
actions_same = map_same (λ k. k) action_seen (λ k. k) (λ k. k) action_json action_value (λ k. refl) action_same

namespace_same : (n : NamespaceDefinition RawName over_raw) → namespace_json n ≡ definition_value (definition_seen n)
namespace_same n =
    let commons = any_same (λ e. (common_word e.0, common_seen e.1)) (codes "commonTypes") (each_at json.common_word common_json) (each_at (λ k. k) common_value) commons_same n.common_types in
    λ i. object_of (commons i ++ ((codes "entityTypes", entities_same n.entity_types i) ∷ (codes "actions", actions_same n.actions i) ∷ notes_same n.annotations i))

path_same : (name : Option Name) → namespace_text name ≡ path_text (namespace_words name)
path_same None = refl
path_same (Some name) = refl

fragment_same : (F : Fragment RawName over_raw) → fragment_json F ≡ fragment_value (fragment_seen F)
fragment_same F = map_same namespace_words definition_seen namespace_text path_text namespace_json definition_value path_same namespace_same F.0

-- fragments that are seen alike
pub json_alike : (F G : Fragment RawName over_raw) → fragment_seen F ≡ fragment_seen G → fragment_json F ≡ fragment_json G
json_alike F G same = fragment_same F ∙ ap fragment_value same ∙ sym (fragment_same G)
