-- SPDX-License-Identifier: Apache-2.0
use Rattle.cedar_qualified.proofs.AgreedNames.{names_agree}
use Rattle.cedar_qualified.proofs.laws.agreeing_names.Goals as goal

pub returns : goal.returns
returns c d ds same = names_agree d ds same
