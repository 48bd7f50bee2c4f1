-- SPDX-License-Identifier: Apache-2.0
use Rattle.serde_json.specs.View.{members_view}
use Rattle.cedar_json_write.proofs.Building.{Puts}
use Rattle.cedar_json_write.proofs.collections.write_map.Given as goal

-- the entries so far are put in
abbrev pub invariant-loop-key : goal.invariant-loop-key
invariant-loop-key g l = Puts g.K.ToKey.text g.V.ToJson.written l.map l.key-iterator (members_view l.members.entries)
