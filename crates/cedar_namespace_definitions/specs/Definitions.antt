-- SPDX-License-Identifier: Apache-2.0
-- The definition that the declarations of a namespace become: under full names, and each reference with the names that it may stand for.
use Rattle.std.specs.Prelude.{◌≡◌, ℕ, fold, List, [], ◌∷◌, map, Option, Some, None, unwrap_or}
use Rattle.std.specs.BTreeMap.{insert_entry}
use Rattle.std.specs.List.{AllZip, flat_map}
use Rattle.std.specs.Option.{option_map, option_map_or}
use Rattle.std.specs.declared.cmp.Ordering.{Ordering}
use Rattle.std.specs.declared.result.Result.{Result}
use Rattle.std.specs.declared.result.Result.TheVariants.{Ok, Err}
use Rattle.cedar_data.specs.Sets.{set_of}
use Rattle.cedar_names.specs.Names.{internal_of}
use Rattle.cedar_names.specs.declared.id.UnreservedId.{UnreservedId}
use Rattle.cedar_names.specs.declared.internal_name.InternalName.{InternalName}
use Rattle.cedar_names.specs.declared.name.Name.{Name}
use Rattle.cedar_text.specs.declared.location.Loc.{Loc}
use Rattle.cedar_types.specs.Types.{attributes_of}
use Rattle.cedar_types.specs.declared.ty.Attributes.{Attributes}
use Rattle.cedar_types.specs.declared.value.ValueMap.{ValueMap, roll-ValueMap}
use Rattle.cedar_written.specs.Answers.{in_option}
use Rattle.cedar_written.specs.CommonTypeIds.{unreserved_of}
use Rattle.cedar_written.specs.Qualifying.{qualifying}
use Rattle.cedar_written.specs.Through.{through_type}
use Rattle.cedar_written.specs.WrittenTypes.{empty_record}
use Rattle.cedar_written.specs.declared.common_type_id.CommonTypeId.{CommonTypeId}
use Rattle.cedar_written.specs.declared.conditional_name.ConditionalName.{ConditionalName}
use Rattle.cedar_written.specs.declared.qualifying.Never.{Never}
use Rattle.cedar_written.specs.declared.ref_name.RefName as ref_name
use Rattle.cedar_written.specs.declared.raw_name.RawName.{RawName}
use Rattle.cedar_written.specs.declared.ty.SchemaType.{SchemaType}
use Rattle.cedar_written.specs.declared.ty.SchemaType.TheVariants as type
use Rattle.cedar_written.specs.declared.ty.TypeVariant.TheVariants as variant
use Rattle.cedar_fragment.specs.ActionUids.{over_conditional, over_raw}
use Rattle.cedar_fragment.specs.Definitions.{through_action, through_apply, through_entity, through_uid}
use Rattle.cedar_fragment.specs.Shapes.{type_of_shape}
use Rattle.cedar_fragment.specs.declared.action_uid.ActionEntityUID.{ActionEntityUID}
use Rattle.cedar_fragment.specs.declared.definitions.ActionType.{ActionType}
use Rattle.cedar_fragment.specs.declared.definitions.ApplySpec.{ApplySpec}
use Rattle.cedar_fragment.specs.declared.definitions.CommonType.{CommonType}
use Rattle.cedar_fragment.specs.declared.definitions.EntityType.{EntityType}
use Rattle.cedar_fragment.specs.declared.definitions.EntityTypeKind.{EntityTypeKind}
use Rattle.cedar_fragment.specs.declared.definitions.EntityTypeKind.TheVariants as sort
use Rattle.cedar_fragment.specs.declared.definitions.StandardEntityType.{StandardEntityType}
use Rattle.cedar_fragment.specs.declared.definitions.NamespaceDefinition.{NamespaceDefinition}
use Rattle.cedar_definitions.specs.declared.structures.ActionFragment.{ActionFragment}
use Rattle.cedar_definitions.specs.declared.structures.EntityTypeFragment.{EntityTypeFragment}
use Rattle.cedar_definitions.specs.declared.structures.EntityTypeFragment.TheVariants as made
use Rattle.cedar_definitions.specs.declared.structures.EntityTypesDef.{EntityTypesDef}
use Rattle.cedar_definitions.specs.declared.structures.ValidatorApplySpec.{ValidatorApplySpec}
use Rattle.cedar_definitions.specs.declared.structures.ValidatorNamespaceDef.{ValidatorNamespaceDef}
use Rattle.cedar_action_values.specs.ActionValues.{typed_attributes}
use Rattle.cedar_action_values.specs.declared.value_fault.ValueFault.{ValueFault}
use Rattle.cedar_namespace_definitions.specs.NamesIn.{ActionKey, action_at, action_key, entity_key, name_at}
use Rattle.cedar_namespace_definitions.specs.Orders.{conditional_cmp, parent_cmp}

-- what comes of a step that never refuses
abbrev pub sure : {T : Type 0} → Result T Never → T
sure (Ok t) = t
sure (Err never) = elim never [ ]

-- the entry at a key, where there is a value
abbrev pub entry_of : {J W : Type 0} → J → Option W → List (J × W)
entry_of key None = []
entry_of key (Some value) = (key, value) ∷ []

-- entries put into a map, one after another
abbrev pub put_entries : {J W : Type 0} → (J → J → Ordering) → List (J × W) → List (J × W) → List (J × W)
put_entries cmp es more = fold (λ es e. insert_entry cmp es e.0 e.1) es more

-- entries with their keys seen through f
abbrev pub with_keys : {K J V : Type 0} → (K → J) → List (K × V) → List (J × V)
with_keys f es = map (λ e. (f e.0, e.1)) es

-- ---- common types

-- a common type under its full name, at its place
abbrev pub common_in : Option InternalName → CommonTypeId × CommonType RawName → InternalName × SchemaType ConditionalName
common_in ns c = (name_at ns (unreserved_of c.0) c.1.loc, sure (through_type (qualifying ns) c.1.ty))

-- ---- entity types

-- the kind of entity type with its parents in order, of equal ones the first alone
abbrev pub distinct_parents : {N : Type 0} → (N → N → Ordering) → EntityTypeKind N → EntityTypeKind N
distinct_parents cmp (sort.Standard e) = sort.Standard (record { member_of_types = set_of cmp e.member_of_types; shape = e.shape; tags = e.tags })
distinct_parents cmp (sort.Enum choices) = sort.Enum choices

-- what kind of entity type it is; parents are a set
abbrev pub standard_made : {N : Type 0} → (N → N → Ordering) → StandardEntityType N → EntityTypeFragment N
standard_made cmp e = made.Standard e.shape (set_of cmp e.member_of_types) e.tags

abbrev pub kind_made : {N : Type 0} → (N → N → Ordering) → EntityTypeKind N → EntityTypeFragment N
kind_made cmp (sort.Standard e) = standard_made cmp e
kind_made cmp (sort.Enum choices) = made.Enum choices

-- the name of an entity type, at its place
abbrev pub entity_name : Option InternalName → UnreservedId × EntityType RawName → InternalName
entity_name ns e = name_at ns e.0 e.1.loc

-- what an entity type is, each reference with the names that it may stand for
unfoldable pub entity_made : Option InternalName → EntityType RawName → EntityTypeFragment ConditionalName
entity_made ns e = kind_made conditional_cmp (sure (through_entity (qualifying ns) e)).kind

-- an entity type under its full name
abbrev pub entity_in : Option InternalName → UnreservedId × EntityType RawName → InternalName × EntityTypeFragment ConditionalName
entity_in ns e = (entity_name ns e, entity_made ns e.1)

-- its place, where it has one
abbrev pub entity_place : Option InternalName → UnreservedId × EntityType RawName → List (InternalName × Loc)
entity_place ns e = entry_of (entity_name ns e) e.1.loc

-- ---- actions

-- the types of the attributes of an action; where it has none, or one of them has a fault, there are none
abbrev pub types_or_none : Result Attributes ValueFault → Attributes
types_or_none (Ok types) = types
types_or_none (Err f) = attributes_of []

abbrev pub types_in : Option ValueMap → Attributes
types_in None = attributes_of []
types_in (Some values) = types_or_none (typed_attributes values)

-- no values
abbrev pub no_values : ValueMap
no_values = roll-ValueMap (record { map = [] })

module _ {N : Type 0} where
  -- the closed record without attributes, with no place
  abbrev pub no_context : SchemaType N
  no_context = type.Variant (variant.Record empty_record) None

  -- an action that says nothing of what it applies to applies to nothing
  abbrev pub principals_in : Option (ApplySpec N) → List N
  principals_in a = option_map_or (λ a. a.principal_types) a []

  abbrev pub resources_in : Option (ApplySpec N) → List N
  resources_in a = option_map_or (λ a. a.resource_types) a []

  abbrev pub context_in : Option (ApplySpec N) → SchemaType N
  context_in a = option_map_or (λ a. type_of_shape a.context) a no_context

  -- principals and resources are sets
  abbrev pub application_in : (N → N → Ordering) → Option (ApplySpec N) → ValidatorApplySpec N
  application_in cmp a = record {
    principal_apply_spec = set_of cmp (principals_in a);
    resource_apply_spec = set_of cmp (resources_in a);
  }

  -- what an action applies to, with principals and resources in order, of equal ones the first alone
  abbrev pub distinct_application : (N → N → Ordering) → ApplySpec N → ApplySpec N
  distinct_application cmp a = record { resource_types = set_of cmp a.resource_types; principal_types = set_of cmp a.principal_types; context = a.context }

-- what an action applies to, each reference with the names that it may stand for
abbrev pub applied_in : Option InternalName → Option (ApplySpec RawName) → Option (ApplySpec ConditionalName)
applied_in ns a = sure (in_option (option_map (through_apply (qualifying ns)) a))

-- parents are a set
abbrev pub parents_in : {K : Type 0} → (K → K → Ordering) → Option (List K) → List K
parents_in cmp parents = set_of cmp (unwrap_or parents [])

-- a parent, its type with the names that it may stand for
abbrev pub parent_in : Option InternalName → ActionEntityUID RawName over_raw → ActionEntityUID ConditionalName over_conditional
parent_in ns parent = sure (through_uid over_raw over_conditional (qualifying ns) parent)

-- an action with attributes of these types
abbrev pub action_made : {N : Type 0} {R : ref_name.Ghosts N} → (N → N → Ordering) → Attributes → ActionType N R → ActionFragment N N R
action_made cmp types a = record {
  context = context_in a.applies_to;
  applies_to = application_in cmp a.applies_to;
  parents = parents_in (parent_cmp cmp) a.member_of;
  attribute_types = types;
  attributes = unwrap_or a.attributes no_values;
  loc = a.loc;
}

-- what an action is, each reference with the names that it may stand for
unfoldable pub action_made_in : Option InternalName → ActionType RawName over_raw → ActionFragment ConditionalName ConditionalName over_conditional
action_made_in ns a = action_made conditional_cmp (types_in a.attributes) (sure (through_action over_raw over_conditional (qualifying ns) a))

-- an action of a namespace, under its id
abbrev pub action_in : Option InternalName → List ℕ × ActionType RawName over_raw → ActionKey × ActionFragment ConditionalName ConditionalName over_conditional
action_in ns a = (action_at ns a.0 a.1.loc, action_made_in ns a.1)

-- ---- namespaces

-- the entity types of a namespace, with their places
pub record AreEntityTypes (ns : Option InternalName) (types : List (UnreservedId × EntityType RawName)) (d : EntityTypesDef ConditionalName) : Type 0 where
  pub types_are : with_keys entity_key d.defs ≡ map (entity_in ns) types
  pub places_are : with_keys entity_key d.locs ≡ flat_map (entity_place ns) types

-- the definition is that of the declarations of a namespace: it has what they declare, in order, and nothing else
pub record IsDefinitionOf (ns : Option InternalName) (n : NamespaceDefinition RawName over_raw) (d : ValidatorNamespaceDef ConditionalName ConditionalName over_conditional) : Type 0 where
  pub namespace_is : d.namespace ≡ ns
  pub common_types_are : d.common_types.defs ≡ map (common_in ns) n.common_types
  pub entity_types_are : AreEntityTypes ns n.entity_types d.entity_types
  pub actions_are : with_keys action_key d.actions.actions ≡ map (action_in ns) n.actions

-- the definitions are those of a fragment: one for each namespace, in order
abbrev pub AreDefinitionsOf : List (Option Name × NamespaceDefinition RawName over_raw) → List (ValidatorNamespaceDef ConditionalName ConditionalName over_conditional) → Type 0
AreDefinitionsOf ns ds = AllZip (λ n d. IsDefinitionOf (option_map internal_of n.0) n.1 d) ns ds
