-- SPDX-License-Identifier: Apache-2.0
use Rattle.std.proofs.Common.{◌≡◌, drop}
use Rattle.cedar_conform.proofs.RepeatLoops.{SeeksRepeats}
use Rattle.cedar_conform.proofs.repeats.check_repeats.Given as goal

-- none of the entities so far stands twice
abbrev pub invariant-loop-uid : goal.invariant-loop-uid
invariant-loop-uid l = SeeksRepeats l.uids (drop l.uid-index l.uids) l.place l.before × (l.place ≡ l.uid-index)
