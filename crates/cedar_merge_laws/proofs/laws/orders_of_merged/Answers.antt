-- SPDX-License-Identifier: Apache-2.0
use Rattle.cedar_merge_laws.proofs.SaidAlike.{merged_said}
use Rattle.cedar_merge_laws.proofs.laws.orders_of_merged.Goals as goal

pub returns : goal.returns
returns c = merged_said
