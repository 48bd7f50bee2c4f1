-- SPDX-License-Identifier: Apache-2.0
-- Values of attributes of actions, as lists.
use Rattle.std.specs.Prelude.{ℕ, List}
use Rattle.cedar_types.specs.declared.value.CedarValueJson.{CedarValueJson}
use Rattle.cedar_types.specs.declared.value.ValueList.{ValueList, out-ValueList}
use Rattle.cedar_types.specs.declared.value.ValueMap.{ValueMap, out-ValueMap}

-- the values with their names, in the order of the names
abbrev pub members : ValueMap → List (List ℕ × CedarValueJson)
members m = (out-ValueMap m).map

-- the values in a row
abbrev pub list_values : ValueList → List CedarValueJson
list_values l = (out-ValueList l).items
