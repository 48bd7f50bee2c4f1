-- SPDX-License-Identifier: Apache-2.0
use Rattle.std.proofs.Common.{◌≡◌, ◌+◌, ◌*◌, drop}
use Rattle.std.specs.Cmp.Lexicographic.{slice_cmp}
use Rattle.std.specs.Ordering.{nat_cmp}
use Rattle.cedar_types.specs.Values.{members, list_values}
use Rattle.cedar_json_types.proofs.ItemLoops.{ReadsItems}
use Rattle.cedar_json_types.proofs.MemberLoops.{ReadsMembers}
use Rattle.cedar_json_types.specs.Faults.{any_text, entry_fault}
use Rattle.cedar_json_types.specs.Shapes.{Entry}
use Rattle.cedar_json_values.specs.ActionValues.{ValuePart, value_fault}
use Rattle.cedar_json_values.proofs.values.+read.Given as goal

-- each array or object costs one of what is left
abbrev pub decreases-read_value : goal.decreases-read_value
decreases-read_value l = 3 * l.left + 3

abbrev pub decreases-read_items : goal.decreases-read_items
decreases-read_items l = 3 * l.left + 2

abbrev pub decreases-read_members : goal.decreases-read_members
decreases-read_members l = 3 * l.left + 2

abbrev pub decreases-read_part : goal.decreases-read_part
decreases-read_part l = 3 * l.left + 1

-- the items so far are read, and none had a fault
abbrev pub invariant-read_items-loop-item : goal.invariant-read_items-loop-item
invariant-read_items-loop-item l = ReadsItems (ValuePart l.left) (value_fault l.left) l.items.items (drop l.item-index l.item-items) l.place (list_values l.read) × (l.place ≡ l.item-index)

-- the members so far are read, and none had a fault
abbrev pub invariant-read_members-loop-key : goal.invariant-read_members-loop-key
invariant-read_members-loop-key l = ReadsMembers (slice_cmp nat_cmp) (Entry (λ k t. t ≡ k) (ValuePart l.left)) (entry_fault any_text (value_fault l.left)) l.members.entries l.key-iterator (members l.read)
