-- SPDX-License-Identifier: Apache-2.0
-- What may be wrong with what a fragment declares, in order: the first of these faults is the refusal.
use Rattle.std.specs.Prelude.{◌++◌, ℕ, Bool, false, List, [], ◌∷◌, map, codes, Option, Some, None, is_some, if◌then◌else◌}
use Rattle.std.specs.List.{filter, flat_map}
use Rattle.std.specs.Map.{keys_of}
use Rattle.std.specs.Str.{bytes_eq}
use Rattle.cedar_names.specs.Components.{has_cedar}
use Rattle.cedar_schema_error.specs.FullNames.{FullName}
use Rattle.cedar_schema_error.specs.Refusals.{Refusal, ActionEntityTypeDeclared, ReservedName}
use Rattle.cedar_schema_error.specs.declared.action_behavior.ActionBehavior.{ActionBehavior}
use Rattle.cedar_namespace_definitions.specs.Faults.{attribute_faults, prohibited}
use Rattle.cedar_convert_fragment.specs.Fragments.{ActionContent, ByName, Declared, Definition, EntityContent, Fragment}
use Rattle.cedar_fragment_world.specs.FragmentWorlds.{action_type, action_uid, full_name}

-- whether a namespace has the component `__cedar`
abbrev pub is_reserved : Option FullName → Bool
is_reserved None = false
is_reserved (Some ns) = has_cedar ns

-- a name in such a namespace is refused
abbrev pub reserved_in : Option FullName → FullName → List Refusal
reserved_in ns name = if is_reserved ns then ReservedName name ∷ [] else []

-- one refusal for each entity type that is named `Action`
abbrev pub action_types : ByName EntityContent → List Refusal
action_types types = map (λ e. ActionEntityTypeDeclared) (filter (λ e. bytes_eq e.0 (codes "Action")) types)

-- the actions that have attributes, in order
abbrev pub with_attributes : ByName ActionContent → List (List ℕ)
with_attributes actions = keys_of (filter (λ a. is_some a.1.content.attributes) actions)

-- an action may not stand in a namespace with `__cedar`, and its attributes have to have types
abbrev pub action_faults : Option FullName → List ℕ × Declared ActionContent → List Refusal
action_faults ns a = reserved_in ns (action_type ns) ++ attribute_faults (action_uid ns a.0) a.1.content.attributes

-- an entity type may not stand in such a namespace
abbrev pub entity_faults : Option FullName → List ℕ × Declared EntityContent → List Refusal
entity_faults ns e = reserved_in ns (full_name ns e.0)

-- what may be wrong with the declarations of a namespace as a whole: entity types named `Action`, and then actions with attributes, where these are prohibited
abbrev pub declaration_faults : ActionBehavior → Definition → List Refusal
declaration_faults behavior d = action_types d.entity_types ++ prohibited behavior (with_attributes d.actions)

-- and with each action, and then with each entity type
abbrev pub each_fault : Option FullName → Definition → List Refusal
each_fault ns d = flat_map (action_faults ns) d.actions ++ flat_map (entity_faults ns) d.entity_types

-- the faults of what a namespace of this name declares
abbrev pub definition_faults : ActionBehavior → Option FullName × Definition → List Refusal
definition_faults behavior n = declaration_faults behavior n.1 ++ each_fault n.0 n.1

-- those of a fragment: of each namespace, in order
abbrev pub fragment_faults : ActionBehavior → Fragment → List Refusal
fragment_faults behavior f = flat_map (definition_faults behavior) f
