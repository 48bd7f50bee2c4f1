-- SPDX-License-Identifier: Apache-2.0
-- The equality of declarations goes by what is left of them without places.
use denote.RattleType.{RattleType}
use mathlib.Core.Bool.{true≢false}
use mir.Syntax.{Dict}
use Rattle.std.specs.Prelude.{Bool, true, Option, option_map, None, Some, nat_eq}
use Rattle.std.specs.Cmp.{first_so, second_so}
use Rattle.std.specs.Cmp.Lexicographic.{pointwise}
use Rattle.std.specs.Option.{option_eq}
use Rattle.std.proofs.Common.{◌≡◌, refl, ap, sym}
use Rattle.std.specs.declared.cmp.PartialEq as eq
use Rattle.std.specs.contracts.cmp.PartialEq.TheBound.{Lawful}
use Rattle.cedar_types.specs.declared.value.ValueMap.{ValueMap}
use Rattle.cedar_written.specs.CommonTypeIds.{common_id, unreserved_of}
use Rattle.cedar_written.specs.declared.common_type_id.CommonTypeId.{CommonTypeId}
use Rattle.cedar_written.specs.contracts.common_type_id.CommonTypeIdPartialEq.TheImpl as common_id_eqs
use Rattle.cedar_written.specs.declared.ref_name.RefName as ref_name
use Rattle.cedar_written.specs.contracts.ty.SchemaTypePartialEq.TheImpl as type_eqs
use Rattle.cedar_fragment.specs.declared.action_uid.ActionEntityUID.{ActionEntityUID}
use Rattle.cedar_fragment.specs.declared.attributes_or_context.AttributesOrContext.{AttributesOrContext}
use Rattle.cedar_fragment.specs.declared.definitions.ActionType.{ActionType}
use Rattle.cedar_fragment.specs.declared.definitions.ApplySpec.{ApplySpec}
use Rattle.cedar_fragment.specs.declared.definitions.CommonType.{CommonType}
use Rattle.cedar_fragment.specs.declared.definitions.EntityType.{EntityType}
use Rattle.cedar_fragment.specs.declared.definitions.EntityTypeKind.{EntityTypeKind}
use Rattle.cedar_fragment.specs.declared.definitions.EntityTypeKind.TheVariants.{Standard, Enum}
use Rattle.cedar_fragment.specs.declared.definitions.Fragment.{Fragment}
use Rattle.cedar_fragment.specs.declared.definitions.NamespaceDefinition.{NamespaceDefinition}
use Rattle.cedar_fragment.specs.declared.definitions.StandardEntityType.{StandardEntityType}
use Rattle.cedar_fragment.specs.contracts.action_uid.ActionEntityUIDPartialEq.TheImpl as uid_eqs
use Rattle.cedar_fragment.specs.contracts.attributes_or_context.AttributesOrContextPartialEq.TheImpl as shape_eqs
use Rattle.cedar_fragment.specs.contracts.definitions.ActionTypePartialEq.TheImpl as action_eqs
use Rattle.cedar_fragment.specs.contracts.definitions.ApplySpecPartialEq.TheImpl as apply_eqs
use Rattle.cedar_fragment.specs.contracts.definitions.CommonTypePartialEq.TheImpl as common_eqs
use Rattle.cedar_fragment.specs.contracts.definitions.EntityTypePartialEq.TheImpl as entity_eqs
use Rattle.cedar_fragment.specs.contracts.definitions.EntityTypeKindPartialEq.TheImpl as kind_eqs
use Rattle.cedar_fragment.specs.contracts.definitions.FragmentPartialEq.TheImpl as fragment_eqs
use Rattle.cedar_fragment.specs.contracts.definitions.NamespaceDefinitionPartialEq.TheImpl as namespace_eqs
use Rattle.cedar_fragment.specs.contracts.definitions.StandardEntityTypePartialEq.TheImpl as standard_eqs
use Rattle.cedar_fragment.proofs.Uids.{uid-same}
use Rattle.cedar_comparing.specs.Comparing.{GoesBy}
use Rattle.cedar_comparing.specs.Unplaced.{action_unplaced, apply_unplaced, common_unplaced, entity_unplaced, fragment_unplaced, kind_unplaced, namespace_unplaced, shape_unplaced, standard_unplaced, still_typed, uid_unplaced}
use Rattle.cedar_comparing.proofs.Names.{annotations_go, ids_go, paths_go}
use Rattle.cedar_comparing.proofs.Parts.{both, entries_go, lists_go, options_go, text_lists_go, texts_go}
use Rattle.cedar_comparing.proofs.Types.{types_go}
use Rattle.cedar_comparing.proofs.Values.{map_eq, values_go}

common_ids_go : GoesBy common_id_eqs.ghosts.eq (λ (c : CommonTypeId). c)
common_ids_go = record {
  itself = λ c. ids_go.itself (unreserved_of c);
  alone = λ b c h. ap common_id (ids_go.alone (unreserved_of b) (unreserved_of c) h);
}

maybe_itself : (m : Option ValueMap) → option_eq map_eq m m ≡ true
maybe_itself None = refl
maybe_itself (Some m) = values_go.itself m

maybe_alone : (m n : Option ValueMap) → option_eq map_eq m n ≡ true → m ≡ n
maybe_alone None None h = refl
maybe_alone None (Some n) h = absurd (true≢false (sym h))
maybe_alone (Some m) None h = absurd (true≢false (sym h))
maybe_alone (Some m) (Some n) h = ap (λ (x : ValueMap). Some x) (values_go.alone m n h)

maybe_values_go : GoesBy (option_eq map_eq) (λ (m : Option ValueMap). m)
maybe_values_go = record { itself = maybe_itself; alone = maybe_alone }

module _ (A : RattleType) (G : eq.Ghosts A.Denot) (d : Dict) (lawful : Lawful A G d) (bare : A.Denot → A.Denot) (names : GoesBy G.eq bare) where
  abbrev N : Type 0
  N = A.Denot

  abbrev shape_eq : AttributesOrContext N → AttributesOrContext N → Bool
  shape_eq = (shape_eqs.ghosts A G d).eq

  pub shapes_go : GoesBy shape_eq (shape_unplaced bare)
  shapes_go =
      let types = types_go A G d lawful bare names in
      record {
        itself = λ s. types.itself s.0;
        alone = λ s t h i. record { 0 = types.alone s.0 t.0 h i };
      }

  abbrev common_eq : CommonType N → CommonType N → Bool
  common_eq = (common_eqs.ghosts A G d).eq

  pub commons_go : GoesBy common_eq (common_unplaced bare)
  commons_go =
      let types = types_go A G d lawful bare names in
      record {
        itself = λ c. both (types.itself c.ty) (annotations_go.itself c.annotations);
        alone = λ b c h i. record {
          ty = types.alone b.ty c.ty (first_so _ _ h) i;
          annotations = annotations_go.alone b.annotations c.annotations (second_so ((type_eqs.ghosts A G d).eq b.ty c.ty) _ h) i;
          loc = None;
        };
      }

  abbrev standard_eq : StandardEntityType N → StandardEntityType N → Bool
  standard_eq = (standard_eqs.ghosts A G d).eq

  pub standards_go : GoesBy standard_eq (standard_unplaced bare)
  standards_go =
      let parents = lists_go names in
      let tags = options_go (types_go A G d lawful bare names) in
      record {
        itself = λ e. both (parents.itself e.member_of_types) (both (shapes_go.itself e.shape) (tags.itself e.tags));
        alone = λ e f h.
            let later = second_so (pointwise G.eq e.member_of_types f.member_of_types) _ h in
            λ i. record {
              member_of_types = parents.alone e.member_of_types f.member_of_types (first_so _ _ h) i;
              shape = shapes_go.alone e.shape f.shape (first_so _ _ later) i;
              tags = tags.alone e.tags f.tags (second_so (shape_eq e.shape f.shape) _ later) i;
            };
      }

  abbrev kind_eq : EntityTypeKind N → EntityTypeKind N → Bool
  kind_eq = (kind_eqs.ghosts A G d).eq

  kinds_itself : (k : EntityTypeKind N) → kind_eq k (kind_unplaced bare k) ≡ true
  kinds_itself (Standard e) = standards_go.itself e
  kinds_itself (Enum choices) = both (texts_go.itself choices.head) (text_lists_go.itself choices.tail)

  kinds_alone : (k l : EntityTypeKind N) → kind_eq k l ≡ true → kind_unplaced bare k ≡ kind_unplaced bare l
  kinds_alone (Standard e) (Standard f) h = ap (λ (x : StandardEntityType N). Standard x) (standards_go.alone e f h)
  kinds_alone (Standard e) (Enum choices) h = absurd (true≢false (sym h))
  kinds_alone (Enum choices) (Standard e) h = absurd (true≢false (sym h))
  kinds_alone (Enum choices) (Enum others) h = λ i. Enum (record {
    head = texts_go.alone choices.head others.head (first_so _ _ h) i;
    tail = text_lists_go.alone choices.tail others.tail (second_so (pointwise nat_eq choices.head others.head) _ h) i;
  })

  pub kinds_go : GoesBy kind_eq (kind_unplaced bare)
  kinds_go = record { itself = kinds_itself; alone = kinds_alone }

  abbrev entity_eq : EntityType N → EntityType N → Bool
  entity_eq = (entity_eqs.ghosts A G d).eq

  pub entities_go : GoesBy entity_eq (entity_unplaced bare)
  entities_go = record {
    itself = λ e. both (kinds_go.itself e.kind) (annotations_go.itself e.annotations);
    alone = λ e f h i. record {
      kind = kinds_go.alone e.kind f.kind (first_so _ _ h) i;
      annotations = annotations_go.alone e.annotations f.annotations (second_so (kind_eq e.kind f.kind) _ h) i;
      loc = None;
    };
  }

  abbrev apply_eq : ApplySpec N → ApplySpec N → Bool
  apply_eq = (apply_eqs.ghosts A G d).eq

  pub applies_go : GoesBy apply_eq (apply_unplaced bare)
  applies_go =
      let types = lists_go names in
      record {
        itself = λ a. both (types.itself a.resource_types) (both (types.itself a.principal_types) (shapes_go.itself a.context));
        alone = λ a b h.
            let later = second_so (pointwise G.eq a.resource_types b.resource_types) _ h in
            λ i. record {
              resource_types = types.alone a.resource_types b.resource_types (first_so _ _ h) i;
              principal_types = types.alone a.principal_types b.principal_types (first_so _ _ later) i;
              context = shapes_go.alone a.context b.context (second_so (pointwise G.eq a.principal_types b.principal_types) _ later) i;
            };
      }

  module _ (R : ref_name.Ghosts A.Denot) (r : Dict) where
    abbrev uid_eq : ActionEntityUID N R → ActionEntityUID N R → Bool
    uid_eq = (uid_eqs.ghosts A R r G d).eq

    pub uids_go : GoesBy uid_eq (uid_unplaced R bare)
    uids_go =
        let types = options_go names in
        record {
          itself = λ u. both (types.itself u.ty) (texts_go.itself u.id);
          alone = λ u v h. uid-same R (option_map bare u.ty) (option_map bare v.ty) u.id v.id (still_typed bare R.may_lack_type u.ty u.typed) (still_typed bare R.may_lack_type v.ty v.typed)
              (types.alone u.ty v.ty (first_so _ _ h)) (texts_go.alone u.id v.id (second_so (option_eq G.eq u.ty v.ty) _ h));
        }

    abbrev action_eq : ActionType N R → ActionType N R → Bool
    action_eq = (action_eqs.ghosts A R r G d).eq

    pub actions_go : GoesBy action_eq (action_unplaced R bare)
    actions_go =
        let attributes : GoesBy (option_eq map_eq) (λ (m : Option ValueMap). m) = maybe_values_go in
        let applies = options_go applies_go in
        let parents = options_go (lists_go uids_go) in
        record {
          itself = λ a. both (attributes.itself a.attributes) (both (applies.itself a.applies_to) (both (parents.itself a.member_of) (annotations_go.itself a.annotations)));
          alone = λ a b h.
              let values = attributes.alone a.attributes b.attributes (first_so _ _ h) in
              let rest = second_so (option_eq map_eq a.attributes b.attributes) _ h in
              let applied = applies.alone a.applies_to b.applies_to (first_so _ _ rest) in
              let later = second_so (option_eq apply_eq a.applies_to b.applies_to) _ rest in
              let members = parents.alone a.member_of b.member_of (first_so _ _ later) in
              let notes = annotations_go.alone a.annotations b.annotations (second_so (option_eq (pointwise uid_eq) a.member_of b.member_of) _ later) in
              λ i. record { attributes = values i; applies_to = applied i; member_of = members i; annotations = notes i; loc = None };
        }

    abbrev namespace_eq : NamespaceDefinition N R → NamespaceDefinition N R → Bool
    namespace_eq = (namespace_eqs.ghosts A R r G d).eq

    pub namespaces_go : GoesBy namespace_eq (namespace_unplaced R bare)
    namespaces_go =
        let types = lists_go (entries_go common_ids_go commons_go) in
        let entities = lists_go (entries_go ids_go entities_go) in
        let actions = lists_go (entries_go texts_go actions_go) in
        record {
          itself = λ n. both (types.itself n.common_types) (both (entities.itself n.entity_types) (both (actions.itself n.actions) (annotations_go.itself n.annotations)));
          alone = λ m n h.
              let common = types.alone m.common_types n.common_types (first_so _ _ h) in
              let rest = second_so _ _ h in
              let entity = entities.alone m.entity_types n.entity_types (first_so _ _ rest) in
              let later = second_so _ _ rest in
              let action = actions.alone m.actions n.actions (first_so _ _ later) in
              let notes = annotations_go.alone m.annotations n.annotations (second_so _ _ later) in
              λ i. record { common_types = common i; entity_types = entity i; actions = action i; annotations = notes i };
        }

    abbrev fragment_eq : Fragment N R → Fragment N R → Bool
    fragment_eq = (fragment_eqs.ghosts A R r G d).eq

    pub fragments_go : GoesBy fragment_eq (fragment_unplaced R bare)
    fragments_go =
        let namespaces = lists_go (entries_go (options_go paths_go) namespaces_go) in
        record {
          itself = λ f. namespaces.itself f.0;
          alone = λ f g h i. record { 0 = namespaces.alone f.0 g.0 h i };
        }
