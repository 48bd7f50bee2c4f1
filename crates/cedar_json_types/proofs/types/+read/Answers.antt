-- SPDX-License-Identifier: Apache-2.0
use Rattle.std.proofs.Common.{◌≡◌, ◌∙◌, refl}
use Rattle.cedar_json_types.proofs.Chains.{under-none}
use Rattle.cedar_json_types.proofs.MemberLoops.{ReadsMembers-next}
use Rattle.cedar_json_types.proofs.types.+read.Goals as goal

pub read_members-loop-key-preserved : goal.read_members-loop-key-preserved
read_members-loop-key-preserved t c =
    let shape = rw c.in_ok-attribute.ensures.ok at c.read_attribute.ensures.shape in
    let clean = rw c.in_ok-attribute.ensures.ok at c.read_attribute.ensures.clean in
    ReadsMembers-next c.loop-key.invariant c.in-Some.ensures.steps (c.as_str-in-loop-key.ensures.value, shape) (under-none _ _ clean) c.in_ok-put_at.ensures
