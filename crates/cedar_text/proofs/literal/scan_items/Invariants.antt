-- SPDX-License-Identifier: Apache-2.0
use Rattle.std.proofs.Common.{◌≡◌, None, drop}
use Rattle.cedar_text.specs.Literals.{scan_items}
use Rattle.cedar_text.proofs.literal.scan_items.Given as goal

-- the items so far leave the rest to tell
abbrev pub invariant-loop-at : goal.invariant-loop-at
invariant-loop-at l = scan_items 0 None l.bytes ≡ scan_items l.at l.backslash (drop l.at l.bytes)
