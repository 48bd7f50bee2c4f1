-- SPDX-License-Identifier: Apache-2.0
-- What may be wrong with the declarations of a namespace, in order: the first of these faults is the refusal.
use Rattle.std.specs.Prelude.{◌++◌, ℕ, Bool, List, [], ◌∷◌, map, codes, Option, Some, None, is_some}
use Rattle.std.specs.List.{filter, flat_map}
use Rattle.std.specs.Map.{keys_of}
use Rattle.std.specs.Option.{option_map}
use Rattle.std.specs.Str.{bytes_eq}
use Rattle.std.specs.declared.result.Result.{Result}
use Rattle.std.specs.declared.result.Result.TheVariants.{Ok, Err}
use Rattle.cedar_names.specs.Components.{components}
use Rattle.cedar_names.specs.Identifiers.{unreserved_word}
use Rattle.cedar_names.specs.Names.{internal_of}
use Rattle.cedar_names.specs.declared.id.UnreservedId.{UnreservedId}
use Rattle.cedar_names.specs.declared.internal_name.InternalName.{InternalName}
use Rattle.cedar_types.specs.declared.value.ValueMap.{ValueMap}
use Rattle.cedar_written.specs.declared.raw_name.RawName.{RawName}
use Rattle.cedar_fragment.specs.ActionUids.{over_raw}
use Rattle.cedar_fragment.specs.declared.definitions.ActionType.{ActionType}
use Rattle.cedar_fragment.specs.declared.definitions.EntityType.{EntityType}
use Rattle.cedar_fragment.specs.declared.definitions.Fragment.{Fragment}
use Rattle.cedar_fragment.specs.declared.definitions.NamespaceDefinition.{NamespaceDefinition}
use Rattle.cedar_schema_error.specs.FullNames.{Uid}
use Rattle.cedar_schema_error.specs.Refusals.{Refusal, ActionAttributes, ActionAttributesContainEmptySet, ActionEntityTypeDeclared, UnsupportedActionAttribute}
use Rattle.cedar_schema_error.specs.declared.action_behavior.ActionBehavior.{ActionBehavior}
use Rattle.cedar_schema_error.specs.declared.action_behavior.ActionBehavior.TheVariants.{PermitAttributes, ProhibitAttributes}
use Rattle.cedar_action_values.specs.ActionValues.{typed_attributes}
use Rattle.cedar_action_values.specs.declared.value_fault.ValueFault.{ValueFault}
use Rattle.cedar_action_values.specs.declared.value_fault.ValueFault.TheVariants as fault
use Rattle.cedar_namespace_definitions.specs.NamesIn.{action_type_in, name_at, reserved_in}

-- ---- entity types named `Action`

abbrev pub is_action_id : UnreservedId → Bool
is_action_id id = bytes_eq (unreserved_word id) (codes "Action")

-- one refusal for each of them
abbrev pub action_types : List (UnreservedId × EntityType RawName) → List Refusal
action_types types = map (λ e. ActionEntityTypeDeclared) (filter (λ e. is_action_id e.0) types)

-- ---- actions with attributes

abbrev pub has_attributes : ActionType RawName over_raw → Bool
has_attributes a = is_some a.attributes

-- the actions that have attributes, in order
abbrev pub with_attributes : List (List ℕ × ActionType RawName over_raw) → List (List ℕ)
with_attributes actions = keys_of (filter (λ a. has_attributes a.1) actions)

-- where there are such actions, they are refused all at once
abbrev pub all_refused : List (List ℕ) → List Refusal
all_refused [] = []
all_refused (id ∷ ids) = ActionAttributes (id ∷ ids) ∷ []

-- but not where attributes are permitted
abbrev pub prohibited : ActionBehavior → List (List ℕ) → List Refusal
prohibited PermitAttributes ids = []
prohibited ProhibitAttributes ids = all_refused ids

-- ---- each action

-- what is said of the first fault in the attributes of an action
abbrev pub value_refusal : Uid → ValueFault → Refusal
value_refusal uid fault.EmptySet = ActionAttributesContainEmptySet uid
value_refusal uid fault.Null = UnsupportedActionAttribute uid (codes "null")
value_refusal uid fault.EntityEscape = UnsupportedActionAttribute uid (codes "entity escape (`__entity`)")
value_refusal uid fault.ExprEscape = UnsupportedActionAttribute uid (codes "expression escape (`__expr`)")
value_refusal uid fault.ExtnEscape = UnsupportedActionAttribute uid (codes "extension function escape (`__extn`)")

-- nothing, or the refusal for the fault
abbrev pub refusal_of : {T : Type 0} → Uid → Result T ValueFault → List Refusal
refusal_of uid (Ok t) = []
refusal_of uid (Err f) = value_refusal uid f ∷ []

-- those of the attributes that an action may have
abbrev pub attribute_faults : Uid → Option ValueMap → List Refusal
attribute_faults uid None = []
attribute_faults uid (Some values) = refusal_of uid (typed_attributes values)

-- the id of an action of a namespace
abbrev pub action_uid_in : Option InternalName → List ℕ → Uid
action_uid_in ns id = record { ty = components (action_type_in ns); id = id }

-- an action may not stand in a namespace with `__cedar`, and its attributes have to have types
unfoldable pub action_faults : Option InternalName → List ℕ × ActionType RawName over_raw → List Refusal
action_faults ns a = reserved_in ns (components (action_type_in ns)) ++ attribute_faults (action_uid_in ns a.0) a.1.attributes

-- ---- each entity type

-- an entity type may not stand in a namespace with `__cedar`
unfoldable pub entity_faults : Option InternalName → UnreservedId × EntityType RawName → List Refusal
entity_faults ns e = reserved_in ns (components (name_at ns e.0 e.1.loc))

-- ---- namespaces and fragments

-- what may be wrong with declarations as a whole
abbrev pub declaration_faults : ActionBehavior → NamespaceDefinition RawName over_raw → List Refusal
declaration_faults behavior d = action_types d.entity_types ++ prohibited behavior (with_attributes d.actions)

-- with each action, and then with each entity type
abbrev pub each_fault : Option InternalName → NamespaceDefinition RawName over_raw → List Refusal
each_fault ns d = flat_map (action_faults ns) d.actions ++ flat_map (entity_faults ns) d.entity_types

-- the faults of the declarations of a namespace
abbrev pub definition_faults : ActionBehavior → Option InternalName → NamespaceDefinition RawName over_raw → List Refusal
definition_faults behavior ns d = declaration_faults behavior d ++ each_fault ns d

-- those of a fragment: of each namespace, in order
abbrev pub fragment_faults : ActionBehavior → Fragment RawName over_raw → List Refusal
fragment_faults behavior f = flat_map (λ n. definition_faults behavior (option_map internal_of n.0) n.1) f.0
