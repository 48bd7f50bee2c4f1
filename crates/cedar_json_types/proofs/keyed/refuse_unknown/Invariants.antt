-- SPDX-License-Identifier: Apache-2.0
use Rattle.std.proofs.Common.{◌≡◌}
use Rattle.serde_json.specs.View.{members_view}
use Rattle.cedar_json_types.specs.Faults.{unknown_key}
use Rattle.cedar_json_types.specs.Keys.{keys_of, shape_of}
use Rattle.cedar_json_types.proofs.keyed.refuse_unknown.Given as goal

-- what is left has the first unknown key
abbrev pub invariant-loop-key : goal.invariant-loop-key
invariant-loop-key l = unknown_key (shape_of l.set) (keys_of l.set) (members_view l.members.entries) ≡ unknown_key (shape_of l.set) (keys_of l.set) (members_view l.key-iterator)
