-- SPDX-License-Identifier: Apache-2.0
-- What declarations declare, as it is seen.
use Rattle.std.proofs.Common.{◌≡◌, ℕ, List, [], ◌∷◌, ◌++◌, map, Option, Some, None, option_map, Result, Ok, IfOk, refl, ap, subst, ◌∙◌}
use Rattle.cedar_names.specs.Identifiers.{unreserved_word}
use Rattle.cedar_names.specs.declared.annotation.Annotations.{Annotations}
use Rattle.cedar_names.specs.declared.id.UnreservedId.{UnreservedId}
use Rattle.cedar_text.specs.declared.location.Loc.{Loc}
use Rattle.cedar_tree.specs.Meanings.{annotations_tree}
use Rattle.cedar_fragment.specs.ActionUids.{over_raw}
use Rattle.cedar_text.specs.Lists.{elements}
use Rattle.cedar_text.specs.declared.non_empty.NonEmpty.{NonEmpty}
use Rattle.cedar_fragment.specs.Shapes.{type_of_shape}
use Rattle.cedar_fragment.specs.declared.action_uid.ActionEntityUID.{ActionEntityUID}
use Rattle.cedar_fragment.specs.declared.attributes_or_context.AttributesOrContext.{AttributesOrContext}
use Rattle.cedar_fragment.specs.declared.definitions.ActionType.{ActionType}
use Rattle.cedar_fragment.specs.declared.definitions.ApplySpec.{ApplySpec}
use Rattle.cedar_fragment.specs.declared.definitions.EntityTypeKind.TheVariants as sort
use Rattle.cedar_fragment.specs.declared.definitions.EntityType.{EntityType}
use Rattle.cedar_fragment.specs.declared.definitions.EntityTypeKind.{EntityTypeKind}
use Rattle.cedar_written.specs.declared.raw_name.RawName.{RawName}
use Rattle.cedar_written.specs.declared.ty.SchemaType.{SchemaType}
use Rattle.cedar_convert_fragment.specs.Declares.{each}
use Rattle.cedar_convert_fragment.specs.Fragments.{ActionAt, ActionContent, AppliesTo, EntityContent, NameAt, TypeAt, Shaped, Listed}
use Rattle.cedar_convert_fragment.specs.Views.{action_seen, actions_seen, apply_seen, entities_seen, entity_seen, kind_seen, name_at, parent_seen, type_seen}
use Rattle.cedar_convert_declarations.proofs.PutEach.{seen-each}

-- entity types with one kind
pub entities-each : (ids : List UnreservedId) (kind : EntityTypeKind RawName) (annotations : Annotations) (loc : Loc) (old made : List (UnreservedId × EntityType RawName)) (words : List (List ℕ)) (content : EntityContent)
    → made ≡ old ++ map (λ id. (id, record { kind = kind; annotations = annotations; loc = Some loc })) ids → map unreserved_word ids ≡ words → kind_seen kind ≡ content
    → entities_seen made ≡ entities_seen old ++ each words content (annotations_tree annotations) loc
entities-each ids kind annotations loc old made words content put named is =
    seen-each unreserved_word entity_seen ids (record { kind = kind; annotations = annotations; loc = Some loc }) old made words (record { content = content; annotations = annotations_tree annotations; loc = Some loc }) put named
    (ap (λ k. record { content = k; annotations = annotations_tree annotations; loc = Some loc }) is)

-- actions with one content
pub actions-each : (ids : List (List ℕ)) (action : ActionType RawName over_raw) (annotations : Annotations) (loc : Loc) (old made : List (List ℕ × ActionType RawName over_raw)) (words : List (List ℕ)) (content : ActionContent)
    → made ≡ old ++ map (λ id. (id, action)) ids → ids ≡ words → action_seen action ≡ record { content = content; annotations = annotations_tree annotations; loc = Some loc }
    → actions_seen made ≡ actions_seen old ++ each words content (annotations_tree annotations) loc
actions-each ids action annotations loc old made words content put named is =
    seen-each (λ k. k) action_seen ids action old made words (record { content = content; annotations = annotations_tree annotations; loc = Some loc }) put (same ids ∙ named) is
  where
    same : (ks : List (List ℕ)) → map (λ k. k) ks ≡ ks
    same [] = refl
    same (k ∷ ks) = ap (λ l. k ∷ l) (same ks)

-- entity types with parents, a shape and a type of tags
pub standard-is : (parents : List RawName) (shape : AttributesOrContext RawName) (tags : Option (SchemaType RawName)) (names : List NameAt) (content : TypeAt) (of_tags : Option TypeAt) → map name_at parents ≡ names → type_seen (type_of_shape shape) ≡ content → option_map type_seen tags ≡ of_tags
    → kind_seen (sort.Standard (record { member_of_types = parents; shape = shape; tags = tags })) ≡ Shaped names content of_tags
standard-is parents shape tags names content of_tags p s t = λ i. Shaped (p i) (s i) (t i)

-- the same, where all parts were made
pub standard-made : {E : Type 0} (named : Result (List RawName) E) (shaped : Result (AttributesOrContext RawName) E) (tagged : Result (Option (SchemaType RawName)) E) (parents : List RawName) (shape : AttributesOrContext RawName) (tags : Option (SchemaType RawName)) (names : List NameAt) (content : TypeAt) (of_tags : Option TypeAt)
    → IfOk named (λ made. map name_at made ≡ names) → IfOk shaped (λ made. type_seen (type_of_shape made) ≡ content) → IfOk tagged (λ made. option_map type_seen made ≡ of_tags) → named ≡ Ok parents → shaped ≡ Ok shape → tagged ≡ Ok tags
    → kind_seen (sort.Standard (record { member_of_types = parents; shape = shape; tags = tags })) ≡ Shaped names content of_tags
standard-made named shaped tagged parents shape tags names content of_tags p s t is_named is_shaped is_tagged =
    standard-is parents shape tags names content of_tags (subst (λ r. IfOk r (λ made. map name_at made ≡ names)) is_named p) (subst (λ r. IfOk r (λ made. type_seen (type_of_shape made) ≡ content)) is_shaped s)
    (subst (λ r. IfOk r (λ made. option_map type_seen made ≡ of_tags)) is_tagged t)

pub ruleset standard = (standard-made)

-- entity types that are listed
pub enum-is : (choices : NonEmpty (List ℕ)) (ids : List (List ℕ)) → elements choices ≡ ids → kind_seen (sort.Enum choices) ≡ Listed ids
enum-is choices ids is = ap Listed is

pub ruleset contents = (enum-is)

-- an action
pub action-is : (spec : ApplySpec RawName) (parents : Option (List (ActionEntityUID RawName over_raw))) (annotations : Annotations) (loc : Loc) (applies : AppliesTo) (members : Option (List ActionAt)) → apply_seen spec ≡ applies → option_map (map parent_seen) parents ≡ members
    → action_seen (record { attributes = None; applies_to = Some spec; member_of = parents; annotations = annotations; loc = Some loc })
    ≡ record { content = record { attributes = None; applies_to = Some applies; member_of = members }; annotations = annotations_tree annotations; loc = Some loc }
action-is spec parents annotations loc applies members a m = λ i. record { content = record { attributes = None; applies_to = Some (a i); member_of = m i }; annotations = annotations_tree annotations; loc = Some loc }

-- the same, where both parts were made
pub action-made : {E : Type 0} (applied : Result (ApplySpec RawName) E) (kin : Result (Option (List (ActionEntityUID RawName over_raw))) E) (spec : ApplySpec RawName) (parents : Option (List (ActionEntityUID RawName over_raw))) (annotations : Annotations) (loc : Loc) (applies : AppliesTo) (members : Option (List ActionAt))
    → IfOk applied (λ made. apply_seen made ≡ applies) → IfOk kin (λ made. option_map (map parent_seen) made ≡ members) → applied ≡ Ok spec → kin ≡ Ok parents
    → action_seen (record { attributes = None; applies_to = Some spec; member_of = parents; annotations = annotations; loc = Some loc })
    ≡ record { content = record { attributes = None; applies_to = Some applies; member_of = members }; annotations = annotations_tree annotations; loc = Some loc }
action-made applied kin spec parents annotations loc applies members a k is_spec is_parents =
    action-is spec parents annotations loc applies members (subst (λ r. IfOk r (λ made. apply_seen made ≡ applies)) is_spec a) (subst (λ r. IfOk r (λ made. option_map (map parent_seen) made ≡ members)) is_parents k)

pub ruleset acting = (action-made)
