-- SPDX-License-Identifier: Apache-2.0
use Rattle.cedar_merge_laws.proofs.SaidAlike.{alike_said}
use Rattle.cedar_merge_laws.proofs.laws.seen_of_merged.Goals as goal

pub returns : goal.returns
returns c = alike_said
