-- SPDX-License-Identifier: Apache-2.0
use Rattle.std.proofs.Common.{◌≡◌, drop}
use Rattle.cedar_json_types.proofs.ItemLoops.{ReadsItems}
use Rattle.cedar_json_types.proofs.collections.read_items.Given as goal

-- the items so far are read, and none had a fault
abbrev pub invariant-loop-item : goal.invariant-loop-item
invariant-loop-item g l = ReadsItems g.T.ReadPart.shapes g.T.ReadPart.fault l.items.items (drop l.item-index l.item-items) l.place l.read × (l.place ≡ l.item-index)
