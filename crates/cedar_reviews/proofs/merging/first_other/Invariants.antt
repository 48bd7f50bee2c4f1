-- SPDX-License-Identifier: Apache-2.0
use Rattle.std.proofs.Common.{◌≡◌, drop}
use Rattle.cedar_reviews.proofs.MergeLoops.{SeesTexts}
use Rattle.cedar_reviews.proofs.merging.first_other.Given as goal

-- the items so far are texts
abbrev pub invariant-loop-item : goal.invariant-loop-item
invariant-loop-item l = SeesTexts l.items (drop l.item-index l.items) l.place × (l.place ≡ l.item-index)
