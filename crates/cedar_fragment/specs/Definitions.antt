-- SPDX-License-Identifier: Apache-2.0
-- Declarations with what comes of each name in its place: the first refusal in the order of fields and keys, else the same over the new names.
use Rattle.std.specs.Prelude.{false, map}
use Rattle.std.specs.Option.{option_map}
use Rattle.std.specs.declared.result.Result.{Result}
use Rattle.std.specs.declared.result.Result.TheVariants.{Ok}
use Rattle.cedar_types.specs.of_data.Maps.{map_values}
use Rattle.cedar_written.specs.Answers.{and_then, all_items, all_values, in_option}
use Rattle.cedar_written.specs.Bare.{nameless}
use Rattle.cedar_written.specs.Reference.{Reference, parent}
use Rattle.cedar_written.specs.Through.{through_names, through_type}
use Rattle.cedar_written.specs.declared.ref_name.RefName as ref_name
use Rattle.cedar_written.specs.declared.reference_type.ReferenceType.TheVariants as kind
use Rattle.cedar_fragment.specs.ActionUids.{uid_of}
use Rattle.cedar_fragment.specs.declared.action_uid.ActionEntityUID.{ActionEntityUID}
use Rattle.cedar_fragment.specs.declared.attributes_or_context.AttributesOrContext.{AttributesOrContext}
use Rattle.cedar_fragment.specs.declared.definitions.ActionType.{ActionType}
use Rattle.cedar_fragment.specs.declared.definitions.ApplySpec.{ApplySpec}
use Rattle.cedar_fragment.specs.declared.definitions.CommonType.{CommonType}
use Rattle.cedar_fragment.specs.declared.definitions.EntityType.{EntityType}
use Rattle.cedar_fragment.specs.declared.definitions.EntityTypeKind.{EntityTypeKind}
use Rattle.cedar_fragment.specs.declared.definitions.EntityTypeKind.TheVariants as sort
use Rattle.cedar_fragment.specs.declared.definitions.NamespaceDefinition.{NamespaceDefinition}
use Rattle.cedar_fragment.specs.declared.definitions.StandardEntityType.{StandardEntityType}

module _ {N M E : Type 0} (step : Reference N → Result M E) where
  -- a shape or a context
  abbrev pub through_shape : AttributesOrContext N → Result (AttributesOrContext M) E
  through_shape s = and_then (through_type step s.0) (λ ty. Ok (record { 0 = ty }))

  -- a common type
  abbrev pub through_common : CommonType N → Result (CommonType M) E
  through_common c = and_then (through_type step c.ty) (λ ty. Ok (record { ty = ty; annotations = c.annotations; loc = c.loc }))

  -- a standard entity type
  abbrev pub through_standard : StandardEntityType N → Result (StandardEntityType M) E
  through_standard e =
      and_then (through_names step kind.Entity e.member_of_types) (λ member_of_types.
      and_then (through_shape e.shape) (λ shape.
      and_then (in_option (option_map (through_type step) e.tags)) (λ tags.
      Ok (record { member_of_types = member_of_types; shape = shape; tags = tags }))))

  -- what kind of entity type it is
  abbrev pub through_kind : EntityTypeKind N → Result (EntityTypeKind M) E
  through_kind (sort.Standard e) = and_then (through_standard e) (λ e. Ok (sort.Standard e))
  through_kind (sort.Enum choices) = Ok (sort.Enum choices)

  -- an entity type
  abbrev pub through_entity : EntityType N → Result (EntityType M) E
  through_entity e = and_then (through_kind e.kind) (λ sort. Ok (record { kind = sort; annotations = e.annotations; loc = e.loc }))

  -- what an action applies to
  abbrev pub through_apply : ApplySpec N → Result (ApplySpec M) E
  through_apply a =
      and_then (through_names step kind.Entity a.resource_types) (λ resource_types.
      and_then (through_names step kind.Entity a.principal_types) (λ principal_types.
      and_then (through_shape a.context) (λ context.
      Ok (record { resource_types = resource_types; principal_types = principal_types; context = context }))))

module _ {N M E : Type 0} (R : ref_name.Ghosts N) (R' : ref_name.Ghosts M) (step : Reference N → Result M E) where
  -- an action as a parent
  abbrev pub through_uid : ActionEntityUID N R → Result (ActionEntityUID M R') E
  through_uid u = and_then (step (parent u.id u.ty)) (λ ty. Ok (uid_of R' u.id ty))

  -- an action
  abbrev pub through_action : ActionType N R → Result (ActionType M R') E
  through_action a =
      and_then (in_option (option_map (through_apply step) a.applies_to)) (λ applies_to.
      and_then (in_option (option_map (λ uids. all_items (map through_uid uids)) a.member_of)) (λ member_of.
      Ok (record { attributes = a.attributes; applies_to = applies_to; member_of = member_of; annotations = a.annotations; loc = a.loc })))

  -- the definitions of a namespace
  abbrev pub through_namespace : NamespaceDefinition N R → Result (NamespaceDefinition M R') E
  through_namespace n =
      and_then (all_values (map_values (through_common step) n.common_types)) (λ common_types.
      and_then (all_values (map_values (through_entity step) n.entity_types)) (λ entity_types.
      and_then (all_values (map_values through_action n.actions)) (λ actions.
      Ok (record { common_types = common_types; entity_types = entity_types; actions = actions; annotations = n.annotations }))))

-- nothing stands over no names
abbrev pub over_nothing : ref_name.Ghosts (Unit {0})
over_nothing = record { may_lack_type = false }

-- the definitions of a namespace with nothing in place of each name
abbrev pub bare_namespace : {N : Type 0} {R : ref_name.Ghosts N} → NamespaceDefinition N R → Result (NamespaceDefinition (Unit {0}) over_nothing) (Unit {0})
bare_namespace {N} {R} n = through_namespace R over_nothing nameless n
