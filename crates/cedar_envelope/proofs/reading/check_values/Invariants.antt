-- SPDX-License-Identifier: Apache-2.0
use Rattle.std.proofs.Common.{◌≡◌, drop}
use Rattle.serde_json.specs.View.{view}
use Rattle.cedar_envelope.specs.Faults.{first_at, value_fault}
use Rattle.cedar_envelope.proofs.reading.check_values.Given as goal

-- the first fault is at one of the keys that are left
abbrev pub invariant-loop-key : goal.invariant-loop-key
invariant-loop-key l = first_at (value_fault (view l.whole)) (drop l.key-index l.values) ≡ first_at (value_fault (view l.whole)) l.values
