-- SPDX-License-Identifier: Apache-2.0
use Rattle.std.proofs.Common.{◌∙◌, ap, is_some}
use Rattle.cedar_data.specs.Maps.{get}
use Rattle.cedar_written.specs.CommonTypeIds.{common_id}
use Rattle.cedar_fmt.specs.Collisions.{common_cmp}
use Rattle.cedar_fmt.proofs.collisions.is_common.Goals as goal

pub returns : goal.returns
returns g c =
    c.contains_key.ensures ∙ ap (λ k. is_some (get common_cmp c.args.definition.now.common_types k)) (c.unchecked.ensures ∙ ap common_id c.in_ok-id.ensures)
