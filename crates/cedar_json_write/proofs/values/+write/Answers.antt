-- SPDX-License-Identifier: Apache-2.0
use Rattle.std.proofs.Common.{◌∷◌, [], ◌∙◌, ap, map}
use Rattle.std.proofs.lemmas.List.{map-append}
use Rattle.serde_json.specs.Data.{put}
use Rattle.serde_json.specs.View.{members_view, view}
use Rattle.cedar_json_write.proofs.Building.{Puts-next, Rows-end, Rows-next, none_left}
use Rattle.cedar_json_write.proofs.Parts.{list_written}
use Rattle.cedar_json_write.proofs.values.+write.Goals as goal

pub write_values-loop-name-preserved : goal.write_values-loop-name-preserved
write_values-loop-name-preserved t c =
    Puts-next c.loop-name.invariant c.in-Some.ensures.steps (c.in_ok-put_value.ensures ∙ (λ i. put (c.as_str.ensures i) (c.in_ok-value.ensures i) (members_view c.loop-name.members.entries)))

pub write_list-loop-value-preserved : goal.write_list-loop-value-preserved
write_list-loop-value-preserved t c =
    Rows-next c.loop-value.invariant c.in-Some.ensures.steps c.in_ok-value.ensures (ap (map view) c.in_ok-push.ensures.items ∙ map-append view c.loop-value.values.items (c.in_ok-value.value ∷ []))

pub write_list-returns : goal.write_list-returns
write_list-returns t c = list_written c.args.list.now (map view c.loop-value.values.items) (view c.from.result) c.from.ensures (Rows-end c.loop-value.invariant (none_left _ c.in-None.ensures.steps.0))
