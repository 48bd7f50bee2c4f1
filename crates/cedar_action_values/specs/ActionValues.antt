-- SPDX-License-Identifier: Apache-2.0
-- The types of the attributes of actions, which their values tell, or the first fault, depth first.
use Rattle.std.specs.Prelude.{ℕ, List, [], ◌∷◌}
use Rattle.std.specs.declared.result.Result.{Result}
use Rattle.std.specs.declared.result.Result.TheVariants.{Ok, Err}
use Rattle.cedar_data.specs.Maps.{map_values}
use Rattle.cedar_types.specs.Types.{attributes_of, bool_type, long_type, record_type, required, set_type, string_type}
use Rattle.cedar_types.specs.declared.ty.AttributeType.{AttributeType}
use Rattle.cedar_types.specs.declared.ty.Attributes.{Attributes}
use Rattle.cedar_types.specs.declared.ty.OpenTag.TheVariants.{ClosedAttributes}
use Rattle.cedar_types.specs.declared.ty.ResolvedType.{ResolvedType}
use Rattle.cedar_types.specs.declared.value.CedarValueJson.{CedarValueJson, fold-CedarValueJson}
use Rattle.cedar_types.specs.declared.value.CedarValueJson.TheOpen as layer
use Rattle.cedar_types.specs.declared.value.CedarValueJson.TheOpen.{CedarValueJson-F, ValueList-F, ValueMap-F}
use Rattle.cedar_types.specs.declared.value.ValueList.{ValueList, fold-ValueList}
use Rattle.cedar_types.specs.declared.value.ValueMap.{ValueMap, fold-ValueMap}
use Rattle.cedar_written.specs.Answers.{and_then, all_values}
use Rattle.cedar_action_values.specs.declared.value_fault.ValueFault.{ValueFault}
use Rattle.cedar_action_values.specs.declared.value_fault.ValueFault.TheVariants as fault

-- the type of a value, or its first fault
abbrev pub Typed : Type 0
Typed = Result ResolvedType ValueFault

-- the types of fields by name, or the first fault
abbrev pub TypedFields : Type 0
TypedFields = Result (List (List ℕ × AttributeType)) ValueFault

-- the first fault of values, if there is one
abbrev pub all_typed : List Typed → Result (Unit {0}) ValueFault
all_typed [] = Ok tt
all_typed (t ∷ ts) = and_then t (λ _. all_typed ts)

-- a set has the type of sets of its first element; each of its elements has to have a type, and a set without elements has none
abbrev pub typed_set : List Typed → Typed
typed_set [] = Err fault.EmptySet
typed_set (t ∷ ts) = and_then t (λ element. and_then (all_typed ts) (λ _. Ok (set_type element)))

-- a field is always there
abbrev pub typed_field : Typed → Result AttributeType ValueFault
typed_field t = and_then t (λ ty. Ok (required ty))

-- a record has its fields, and no others
abbrev pub typed_record : TypedFields → Typed
typed_record t = and_then t (λ fields. Ok (record_type (attributes_of fields) ClosedAttributes))

abbrev pub value_step : CedarValueJson-F Typed (List Typed) TypedFields → Typed
value_step (layer.ExprEscape fields) = Err fault.ExprEscape
value_step (layer.EntityEscape fields) = Err fault.EntityEscape
value_step (layer.ExtnEscape fields) = Err fault.ExtnEscape
value_step (layer.Bool b) = Ok bool_type
value_step (layer.Long n) = Ok long_type
value_step (layer.String text) = Ok string_type
value_step (layer.Set elements) = typed_set elements
value_step (layer.Record fields) = typed_record fields
value_step layer.Null = Err fault.Null

abbrev pub list_step : ValueList-F Typed (List Typed) TypedFields → List Typed
list_step l = l.items

abbrev pub map_step : ValueMap-F Typed (List Typed) TypedFields → TypedFields
map_step m = all_values (map_values typed_field m.map)

-- the type of a value, or its first fault
abbrev pub typed : CedarValueJson → Typed
typed = fold-CedarValueJson Typed (List Typed) TypedFields value_step list_step map_step

-- the types of the elements of a set, each with its first fault in its place
abbrev pub typed_elements : ValueList → List Typed
typed_elements = fold-ValueList Typed (List Typed) TypedFields value_step list_step map_step

-- the types of fields in the order of their names, or the first fault
abbrev pub typed_fields : ValueMap → TypedFields
typed_fields = fold-ValueMap Typed (List Typed) TypedFields value_step list_step map_step

-- the same as attributes
abbrev pub typed_attributes : ValueMap → Result Attributes ValueFault
typed_attributes fields = and_then (typed_fields fields) (λ types. Ok (attributes_of types))

-- the type of a value, as that of a field
abbrev pub typed_attribute : CedarValueJson → Result AttributeType ValueFault
typed_attribute value = typed_field (typed value)
