-- SPDX-License-Identifier: Apache-2.0
use Rattle.std.proofs.Common.{◌∙◌, ap}
use Rattle.serde_json.specs.Data.{object, put}
use Rattle.serde_json.specs.View.{members_view}
use Rattle.cedar_json_write.proofs.Building.{Puts-end, Puts-next}
use Rattle.cedar_json_write.proofs.Parts.{attributes_of}
use Rattle.cedar_json_write.proofs.types.+write.Goals as goal

pub write_attributes-loop-name-preserved : goal.write_attributes-loop-name-preserved
write_attributes-loop-name-preserved t c =
    Puts-next c.loop-name.invariant c.in-Some.ensures.steps (c.in_ok-put_value.ensures ∙ (λ i. put (c.as_str.ensures i) (c.in_ok-attribute.ensures i) (members_view c.loop-name.members.entries)))

pub write_attributes-returns : goal.write_attributes-returns
write_attributes-returns t c = c.from.ensures ∙ ap object (Puts-end c.loop-name.invariant c.in-None.ensures.steps.0) ∙ attributes_of c.args.attributes.now
