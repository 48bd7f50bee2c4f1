-- SPDX-License-Identifier: Apache-2.0
use Rattle.cedar_text_laws.proofs.WellFormed.{denoted_or_caused, never_both, well_formed_or_caused}
use Rattle.cedar_text_laws.proofs.laws.denoted_or_caused.Goals as goal

pub returns-clause-well_formed : goal.returns-clause-well_formed
returns-clause-well_formed c = well_formed_or_caused

pub returns-clause-denoted : goal.returns-clause-denoted
returns-clause-denoted c = denoted_or_caused

pub returns-clause-never_both : goal.returns-clause-never_both
returns-clause-never_both c = never_both
