-- SPDX-License-Identifier: Apache-2.0
use Rattle.cedar_row_fragments.proofs.Remaining.{Remains-next}
use Rattle.cedar_row_fragments.proofs.types.+types.Goals as goal

pub add_attributes-loop-name-preserved : goal.add_attributes-loop-name-preserved
add_attributes-loop-name-preserved t c = Remains-next c.loop-name.invariant c.in-Some.ensures.steps
