-- SPDX-License-Identifier: Apache-2.0
use Rattle.std.proofs.Common.{◌≡◌, ◌+◌, ◌*◌}
use Rattle.std.specs.Cmp.Lexicographic.{slice_cmp}
use Rattle.std.specs.Ordering.{nat_cmp}
use Rattle.cedar_json_types.proofs.MemberLoops.{ReadsMembers}
use Rattle.cedar_json_types.specs.Faults.{any_text, entry_fault}
use Rattle.cedar_json_types.specs.Shapes.{Entry}
use Rattle.cedar_json_types.specs.Types.{AttributeShape, Part, attribute_fault, part_fault}
use Rattle.cedar_json_types.specs.declared.keyed.KeySet.TheVariants as set
use Rattle.cedar_json_types.proofs.types.+read.Given as goal

-- each set or record costs one of what is left
abbrev pub decreases-read_type : goal.decreases-read_type
decreases-read_type l = 9 * l.left + 8

abbrev pub decreases-read_variant : goal.decreases-read_variant
decreases-read_variant l = 9 * l.left + 7

abbrev pub decreases-read_set : goal.decreases-read_set
decreases-read_set l = 9 * l.left + 6

abbrev pub decreases-read_record : goal.decreases-read_record
decreases-read_record l = 9 * l.left + 6

abbrev pub decreases-attributes_at : goal.decreases-attributes_at
decreases-attributes_at l = 9 * l.left + 5

abbrev pub decreases-read_attributes : goal.decreases-read_attributes
decreases-read_attributes l = 9 * l.left + 4

abbrev pub decreases-read_members : goal.decreases-read_members
decreases-read_members l = 9 * l.left + 3

abbrev pub decreases-read_element : goal.decreases-read_element
decreases-read_element l = 9 * l.left + 3

abbrev pub decreases-read_attribute : goal.decreases-read_attribute
decreases-read_attribute l = 9 * l.left + 2

abbrev pub decreases-read_part : goal.decreases-read_part
decreases-read_part l = 9 * l.left + 1

-- the members so far are read, and none had a fault
abbrev pub invariant-read_members-loop-key : goal.invariant-read_members-loop-key
invariant-read_members-loop-key l = ReadsMembers (slice_cmp nat_cmp) (Entry (λ k t. t ≡ k) (AttributeShape (Part l.left set.Attribute))) (entry_fault any_text (attribute_fault (part_fault l.left set.Attribute))) l.members.entries l.key-iterator l.attributes
