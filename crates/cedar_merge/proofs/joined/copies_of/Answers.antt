-- SPDX-License-Identifier: Apache-2.0
use Rattle.cedar_data.proofs.Rebuild.{sorted_next}
use Rattle.cedar_names.specs.Annotating.{any_cmp}
use Rattle.cedar_merge.proofs.Parts.{all_copied}
use Rattle.cedar_merge.proofs.joined.copies_of.Goals as goal

pub push_last-requires : goal.push_last-requires
push_last-requires c =
    sorted_next any_cmp c.loop-key.notes c.loop-key.invariant c.in-Some.ensures.steps c.in_ok-key.ensures c.iter-key-items.ensures.ascending

pub returns : goal.returns
returns c = all_copied c.loop-key.notes c.args.annotations.now c.loop-key.invariant c.in-None.ensures.steps.0
