-- SPDX-License-Identifier: Apache-2.0
use Rattle.serde_json.specs.View.{members_view}
use Rattle.cedar_json_write.specs.Written.{attribute_json}
use Rattle.cedar_json_write.proofs.Building.{Puts}
use Rattle.cedar_json_write.proofs.types.+write.Given as goal

-- the attributes so far are put in
abbrev pub invariant-write_attributes-loop-name : goal.invariant-write_attributes-loop-name
invariant-write_attributes-loop-name l = Puts (λ k. k) attribute_json l.attributes l.name-iterator (members_view l.members.entries)
