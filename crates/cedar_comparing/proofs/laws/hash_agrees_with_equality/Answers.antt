-- SPDX-License-Identifier: Apache-2.0
use Rattle.cedar_comparing.proofs.laws.hash_agrees_with_equality.Goals as goal

pub returns-clause-equal : goal.returns-clause-equal
returns-clause-equal g c = g.met.T.Hash.respects_eq

pub returns-clause-left : goal.returns-clause-left
returns-clause-left g c bare goes x = g.met.T.Hash.respects_eq x (bare x) (goes.itself x)
