-- SPDX-License-Identifier: Apache-2.0
use Rattle.cedar_names.specs.Annotating.{annotation_entries}
use Rattle.cedar_merge.proofs.Parts.{all_put, put_last}
use Rattle.cedar_merge.proofs.joined.annotations_of.Goals as goal

pub loop-key-preserved : goal.loop-key-preserved
loop-key-preserved c =
    put_last (annotation_entries c.loop-key.annotations) c.in-Some.key c.in-Some.note c.loop-key.invariant c.into_entries-key-items.ensures.ordered
    c.in-Some.ensures.steps c.in_ok-insert.ensures.ok

pub returns : goal.returns
returns c = all_put c.loop-key.annotations c.loop-key.invariant c.in-None.ensures.steps.0
