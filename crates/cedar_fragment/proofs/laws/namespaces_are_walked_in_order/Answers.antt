-- SPDX-License-Identifier: Apache-2.0
use Rattle.cedar_fragment.proofs.FirstRefusal.{namespace_refused}
use Rattle.cedar_fragment.proofs.Same.{namespace_same}
use Rattle.cedar_fragment.proofs.laws.namespaces_are_walked_in_order.Goals as goal

pub returns-clause-first : goal.returns-clause-first
returns-clause-first g c = λ s n. namespace_refused g.N.RefName g.S.Made.RefName (g.S.Step.step s) n

pub returns-clause-same : goal.returns-clause-same
returns-clause-same g c = λ s n made is. namespace_same g.N.RefName g.S.Made.RefName (g.S.Step.step s) n made is
