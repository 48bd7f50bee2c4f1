-- SPDX-License-Identifier: Apache-2.0
use Rattle.cedar_written.proofs.FirstRefusal.{type_refused}
use Rattle.cedar_written.proofs.Same.{type_same}
use Rattle.cedar_written.proofs.laws.types_are_walked_in_order.Goals as goal

pub returns-clause-first : goal.returns-clause-first
returns-clause-first g c = λ s t. type_refused (g.S.Step.step s) t

pub returns-clause-same : goal.returns-clause-same
returns-clause-same g c = λ s t made is. type_same (g.S.Step.step s) t made is
