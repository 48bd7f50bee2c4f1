-- SPDX-License-Identifier: Apache-2.0
use Rattle.cedar_refusal_laws.proofs.FragmentsFree.{held_ruled_out}
use Rattle.cedar_refusal_laws.proofs.TextsFree.{text_ruled_out}
use Rattle.cedar_refusal_laws.proofs.laws.fragments_and_texts.Goals as goal

pub returns-clause-fragment : goal.returns-clause-fragment
returns-clause-fragment c = λ behavior extensions f e cause. held_ruled_out behavior extensions f e cause

pub returns-clause-text : goal.returns-clause-text
returns-clause-text c = λ text extensions e cause. text_ruled_out text extensions e cause
