-- SPDX-License-Identifier: Apache-2.0
use Rattle.std.proofs.Common.{◌≡◌, ◌≤◌, ◌+◌, ◌-◌, ◌^◌, drop}
use Rattle.serde_json.specs.View.{items_view, members_view}
use Rattle.cedar_json_counts.specs.Counts.{members_in_items, members_in_members, capped}
use Rattle.cedar_json_counts.proofs.counting.+count.Given as goal

-- with what is left, the count is that of the whole
abbrev pub invariant-count_in_items-loop-item : goal.invariant-count_in_items-loop-item
invariant-count_in_items-loop-item l = (capped (l.count + members_in_items (items_view (drop l.item-index l.item-items))) ≡ capped (members_in_items (items_view l.items.items))) × (l.count ≤ 2 ^ 64 - 1)

abbrev pub invariant-count_in_members-loop-member : goal.invariant-count_in_members-loop-member
invariant-count_in_members-loop-member l = (capped (l.count + members_in_members (members_view l.member-iterator)) ≡ capped (members_in_members (members_view l.members.entries))) × (l.count ≤ 2 ^ 64 - 1)
