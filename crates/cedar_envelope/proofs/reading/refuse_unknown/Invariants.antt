-- SPDX-License-Identifier: Apache-2.0
use Rattle.std.proofs.Common.{◌≡◌, ◌++◌}
use Rattle.serde_json.specs.View.{members_view}
use Rattle.cedar_envelope.specs.Faults.{unknown_fault}
use Rattle.cedar_envelope.proofs.reading.refuse_unknown.Given as goal

-- what is left has the first unknown key
abbrev pub invariant-loop-key : goal.invariant-loop-key
invariant-loop-key l = unknown_fault (l.texts ++ l.values) (members_view l.members.entries) ≡ unknown_fault (l.texts ++ l.values) (members_view l.key-iterator)
