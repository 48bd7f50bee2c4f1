-- SPDX-License-Identifier: Apache-2.0
use Rattle.cedar_json_types.proofs.MemberLoops.{ReadsMembers-next}
use Rattle.cedar_json_namespaces.proofs.maps.read_members.Goals as goal

pub loop-key-preserved : goal.loop-key-preserved
loop-key-preserved g c =
    let shape = rw c.as_str.ensures.value at c.in_ok-name.ensures.shape in
    let clean = rw c.as_str.ensures.value at c.in_ok-name.ensures.clean in
    ReadsMembers-next c.loop-key.invariant c.in-Some.ensures.steps shape clean c.in_ok-put.ensures.ok
