-- SPDX-License-Identifier: Apache-2.0
use Rattle.std.proofs.Common.{map}
use Rattle.std.specs.Slice.Iter.{iter_rest}
use Rattle.cedar_types.specs.Values.{list_values, members}
use Rattle.serde_json.specs.View.{members_view, view}
use Rattle.cedar_json_write.specs.Written.{value_json}
use Rattle.cedar_json_write.proofs.Building.{Puts, Rows}
use Rattle.cedar_json_write.proofs.values.+write.Given as goal

-- the values so far are written
abbrev pub invariant-write_list-loop-value : goal.invariant-write_list-loop-value
invariant-write_list-loop-value l = Rows value_json (list_values l.list) (iter_rest l.value-iterator) (map view l.values.items)

-- the values so far are put in
abbrev pub invariant-write_values-loop-name : goal.invariant-write_values-loop-name
invariant-write_values-loop-name l = Puts (λ k. k) value_json (members l.values) l.name-iterator (members_view l.members.entries)
