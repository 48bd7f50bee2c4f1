-- SPDX-License-Identifier: Apache-2.0
-- The types of fields are those of their values.
use Rattle.std.proofs.Common.{◌≡◌, List, ap, ◌∙◌}
use Rattle.std.proofs.lemmas.Simd.{map-map}
use Rattle.std.specs.declared.result.Result.TheVariants.{Ok, Err}
use Rattle.cedar_data.specs.declared.memory.Failure.{Failure}
use Rattle.cedar_data.specs.Maps.{map_values}
use Rattle.cedar_types.specs.Types.{attributes_of}
use Rattle.cedar_types.specs.Values.{members}
use Rattle.cedar_types.specs.declared.value.ValueMap.{ValueMap, fold_out-ValueMap}
use Rattle.cedar_written.specs.Answers.{Answers, all_values, and_then}
use Rattle.cedar_written.proofs.Goes.{Answers-refused}
use Rattle.cedar_action_values.specs.declared.value_fault.ValueFault.{ValueFault}
use Rattle.cedar_action_values.specs.ActionValues.{Typed, TypedFields, list_step, map_step, typed, typed_attribute, typed_attributes, typed_field, typed_fields, value_step}

pub typed_fields-are : (fields : ValueMap) → typed_fields fields ≡ all_values (map_values typed_attribute (members fields))
typed_fields-are fields =
    fold_out-ValueMap Typed (List Typed) TypedFields value_step list_step map_step fields
    ∙ ap all_values (map-map (λ e. (e.0, typed_field e.1)) (λ e. (e.0, typed e.1)) (members fields))

-- a fault of the fields is one of the attributes
pub attributes_refused : (fields : ValueMap) (x : Failure ValueFault) → Answers (Err x) (all_values (map_values typed_attribute (members fields))) → Answers (Err x) (typed_attributes fields)
attributes_refused fields x refused =
    Answers-refused x (all_values (map_values typed_attribute (members fields))) (typed_attributes fields) refused
    (λ e is. ap (λ r. and_then r (λ types. Ok (attributes_of types))) (typed_fields-are fields ∙ is))
