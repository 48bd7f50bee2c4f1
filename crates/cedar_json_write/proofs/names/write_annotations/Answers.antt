-- SPDX-License-Identifier: Apache-2.0
use Rattle.std.proofs.Common.{◌∙◌, ap}
use Rattle.serde_json.specs.Data.{put, string}
use Rattle.serde_json.specs.View.{members_view}
use Rattle.cedar_json_write.proofs.Building.{Puts-next}
use Rattle.cedar_json_write.proofs.names.write_annotations.Goals as goal

pub loop-key-preserved : goal.loop-key-preserved
loop-key-preserved c =
    let key = c.in_ok-key.ensures.ok ∙ c.as_ref.ensures in
    let note = c.in_ok-text.ensures ∙ ap string c.as_str.ensures in
    Puts-next c.loop-key.invariant c.in-Some.ensures.steps (c.in_ok-put_at.ensures ∙ (λ i. put (key i) (note i) (members_view c.loop-key.members.entries)))
