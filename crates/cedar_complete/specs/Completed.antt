-- SPDX-License-Identifier: Apache-2.0
-- Definitions with the full name that each reference means in its place: the first reference that means nothing declared, or else the same definitions over full names.
use Rattle.std.specs.Prelude.{◌≡◌, List, cond, map, Option, Some, None}
use Rattle.std.specs.Option.{option_cmp, option_map}
use Rattle.std.specs.Ordering.{ordering_then}
use Rattle.std.specs.declared.cmp.Ordering.{Ordering}
use Rattle.std.specs.declared.result.Result.{Result}
use Rattle.std.specs.declared.result.Result.TheVariants.{Ok, Err}
use Rattle.cedar_data.specs.Maps.{map_values}
use Rattle.cedar_data.specs.Sets.{set_of}
use Rattle.cedar_names.specs.Components.{components, has_cedar}
use Rattle.cedar_names.specs.Names.{internal_cmp, internal_of, name_of}
use Rattle.cedar_names.specs.Order.{word_cmp}
use Rattle.cedar_names.specs.declared.internal_name.InternalName.{InternalName}
use Rattle.cedar_names.specs.declared.name.EntityType.{EntityType}
use Rattle.cedar_definitions.specs.Structures.{definitions_of}
use Rattle.cedar_definitions.specs.declared.structures.ActionFragment.{ActionFragment}
use Rattle.cedar_definitions.specs.declared.structures.ActionsDef.{ActionsDef}
use Rattle.cedar_definitions.specs.declared.structures.CommonTypeDefs.{CommonTypeDefs}
use Rattle.cedar_definitions.specs.declared.structures.EntityTypeFragment.{EntityTypeFragment}
use Rattle.cedar_definitions.specs.declared.structures.EntityTypeFragment.TheVariants.{Standard, Enum}
use Rattle.cedar_definitions.specs.declared.structures.EntityTypesDef.{EntityTypesDef}
use Rattle.cedar_definitions.specs.declared.structures.ValidatorApplySpec.{ValidatorApplySpec}
use Rattle.cedar_definitions.specs.declared.structures.ValidatorNamespaceDef.{ValidatorNamespaceDef}
use Rattle.cedar_definitions.specs.declared.structures.ValidatorSchemaFragment.{ValidatorSchemaFragment}
use Rattle.cedar_declared.specs.Names.{Names}
use Rattle.cedar_declared.specs.Targets.{resolving}
use Rattle.cedar_fragment.specs.ActionUids.{over_conditional, over_internal, type_in}
use Rattle.cedar_fragment.specs.Definitions.{through_shape, through_uid}
use Rattle.cedar_fragment.specs.declared.action_uid.ActionEntityUID.{ActionEntityUID}
use Rattle.cedar_schema_error.specs.declared.schema_error.SchemaError.{SchemaError}
use Rattle.cedar_schema_error.specs.declared.schema_error.SchemaError.TheVariants as error
use Rattle.cedar_written.specs.Answers.{all_items, all_values, and_then, in_option}
use Rattle.cedar_written.specs.Reference.{named}
use Rattle.cedar_written.specs.Through.{through_type}
use Rattle.cedar_written.specs.declared.conditional_name.ConditionalName.{ConditionalName}
use Rattle.cedar_written.specs.declared.reference_type.ReferenceType.TheVariants as kind
use Rattle.cedar_missing.specs.Undeclared.{Parent, refusal_of}
use Rattle.cedar_missing.specs.declared.missing.Missing.{Missing}

-- the name, unless it has `__cedar`
abbrev pub unreserved : InternalName → Result InternalName SchemaError
unreserved n = cond (has_cedar (components n)) (Err (error.ReservedName (record { name = n }))) (Ok n)

-- the parent of an action over full names
abbrev pub FullParent : Type 0
FullParent = ActionEntityUID InternalName over_internal

-- the order of parents of actions: by type, then by id
abbrev pub parent_cmp : FullParent → FullParent → Ordering
parent_cmp a b = ordering_then (option_cmp internal_cmp (type_in a) (type_in b)) (word_cmp a.id b.id)

-- what f gives of each of a set, as a set in this order
abbrev pub through_set : {A B E : Type 0} → (B → B → Ordering) → (A → Result B E) → List A → Result (List B) E
through_set cmp f xs = and_then (all_items (map f xs)) (λ ys. Ok (set_of cmp ys))

-- all three, or the first refusal
abbrev pub all_three : {A B C E : Type 0} → Result A E → Result B E → Result C E → Result (A × B × C) E
all_three a b c = and_then a (λ a. and_then b (λ b. and_then c (λ c. Ok (a, b, c))))

-- the name of an entity type
abbrev pub internal_in : EntityType → InternalName
internal_in t = internal_of (name_of t)

-- common types and entity types over full names
abbrev pub FullCommons : Type 0
FullCommons = CommonTypeDefs InternalName

abbrev pub FullEntity : Type 0
FullEntity = EntityTypeFragment InternalName

abbrev pub FullEntities : Type 0
FullEntities = EntityTypesDef InternalName

-- what an action applies to, over names in place of entity types
abbrev pub FullApply : Type 0
FullApply = ValidatorApplySpec InternalName

abbrev pub apply_content : ValidatorApplySpec EntityType → ValidatorApplySpec InternalName
apply_content a = record { principal_apply_spec = map internal_in a.principal_apply_spec; resource_apply_spec = map internal_in a.resource_apply_spec }

-- an action, so
abbrev pub FullAction : Type 0
FullAction = ActionFragment InternalName InternalName over_internal

abbrev pub action_content : ActionFragment InternalName EntityType over_internal → FullAction
action_content a = record {
  context = a.context;
  applies_to = apply_content a.applies_to;
  parents = a.parents;
  attribute_types = a.attribute_types;
  attributes = a.attributes;
  loc = a.loc;
}

-- actions, so
abbrev pub FullActions : Type 0
FullActions = ActionsDef InternalName InternalName over_internal

abbrev pub actions_content : ActionsDef InternalName EntityType over_internal → FullActions
actions_content d = record { actions = map_values action_content d.actions }

-- the definitions of a namespace, so
abbrev pub FullDefinition : Type 0
FullDefinition = ValidatorNamespaceDef InternalName InternalName over_internal

abbrev pub definition_content : ValidatorNamespaceDef InternalName EntityType over_internal → FullDefinition
definition_content d = record {
  namespace = d.namespace;
  common_types = d.common_types;
  entity_types = d.entity_types;
  actions = actions_content d.actions;
}

-- those of a fragment, so
abbrev pub fragment_content : ValidatorSchemaFragment InternalName EntityType over_internal → List FullDefinition
fragment_content f = map definition_content (definitions_of f)

module _ (names : Names) where
  -- what a parent, principal or resource means, which must not have `__cedar`
  abbrev pub membership : ConditionalName → Result InternalName SchemaError
  membership n = and_then (resolving names (named kind.Entity n)) unreserved

  -- all of these
  abbrev pub memberships : List ConditionalName → Result (List InternalName) SchemaError
  memberships ns = through_set internal_cmp membership ns

  -- the parent of an action
  abbrev pub completed_parent : Parent → Result FullParent SchemaError
  completed_parent a = through_uid over_conditional over_internal (resolving names) a

  -- common types
  abbrev pub completed_commons : CommonTypeDefs ConditionalName → Result (CommonTypeDefs InternalName) SchemaError
  completed_commons d = and_then (all_values (map_values (through_type (resolving names)) d.defs)) (λ defs. Ok (record { defs = defs }))

  -- an entity type
  abbrev pub completed_entity : EntityTypeFragment ConditionalName → Result (EntityTypeFragment InternalName) SchemaError
  completed_entity (Standard shape parents tags) =
      and_then (all_three (memberships parents) (through_shape (resolving names) shape) (in_option (option_map (through_type (resolving names)) tags)))
      (λ parts. Ok (Standard parts.1 parts.0 parts.2))
  completed_entity (Enum choices) = Ok (Enum choices)

  -- entity types, with their places
  abbrev pub completed_entities : EntityTypesDef ConditionalName → Result (EntityTypesDef InternalName) SchemaError
  completed_entities d = and_then (all_values (map_values completed_entity d.defs)) (λ defs. Ok (record { defs = defs; locs = d.locs }))

  -- what an action applies to
  abbrev pub completed_apply : ValidatorApplySpec ConditionalName → Result (ValidatorApplySpec InternalName) SchemaError
  completed_apply a =
      and_then (memberships a.principal_apply_spec) (λ principals.
      and_then (memberships a.resource_apply_spec) (λ resources.
      Ok (record { principal_apply_spec = principals; resource_apply_spec = resources })))

  -- an action
  abbrev pub completed_action : ActionFragment ConditionalName ConditionalName over_conditional → Result FullAction SchemaError
  completed_action a =
      and_then (all_three (through_set parent_cmp completed_parent a.parents) (completed_apply a.applies_to) (through_type (resolving names) a.context)) (λ parts.
      Ok (record {
        context = parts.2;
        applies_to = parts.1;
        parents = parts.0;
        attribute_types = a.attribute_types;
        attributes = a.attributes;
        loc = a.loc;
      }))

  -- actions
  abbrev pub completed_actions : ActionsDef ConditionalName ConditionalName over_conditional → Result FullActions SchemaError
  completed_actions d = and_then (all_values (map_values completed_action d.actions)) (λ actions. Ok (record { actions = actions }))

  -- the definitions of a namespace
  abbrev pub completed_definition : ValidatorNamespaceDef ConditionalName ConditionalName over_conditional → Result FullDefinition SchemaError
  completed_definition d =
      and_then (all_three (completed_commons d.common_types) (completed_entities d.entity_types) (completed_actions d.actions)) (λ parts.
      Ok (record { namespace = d.namespace; common_types = parts.0; entity_types = parts.1; actions = parts.2 }))

  -- the definitions of a fragment
  abbrev pub completed_fragment : ValidatorSchemaFragment ConditionalName ConditionalName over_conditional → Result (List FullDefinition) SchemaError
  completed_fragment f = all_items (map completed_definition (definitions_of f))

-- the refusal, or else what is made
abbrev pub unless_refused : {T : Type 0} → Option SchemaError → Result T SchemaError → Result T SchemaError
unless_refused (Some e) made = Err e
unless_refused None made = made

-- what comes of definitions that miss so much: their refusal, or else what is made of them
abbrev pub answer_of : {T : Type 0} → Missing → Result T SchemaError → Result T SchemaError
answer_of missing made = unless_refused (refusal_of missing) made

-- something is made, and nothing refused
abbrev pub IsMade : {T : Type 0} → Result T SchemaError → Type 0
IsMade {T} r = (made : T) × (r ≡ Ok made)
