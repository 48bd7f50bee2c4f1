-- SPDX-License-Identifier: Apache-2.0
use Rattle.cedar_unfold_laws.proofs.Walking.{without_cycle}
use Rattle.cedar_unfold_laws.proofs.laws.what_refers_to_no_cycle_unfolds.Goals as goal

pub returns : goal.returns
returns g c = λ m t acyclic flawless reached. without_cycle m t acyclic flawless reached
