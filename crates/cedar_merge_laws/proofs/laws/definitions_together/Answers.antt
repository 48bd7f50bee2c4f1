-- SPDX-License-Identifier: Apache-2.0
use Rattle.cedar_merge_laws.proofs.Meaning.{worlds_together}
use Rattle.cedar_merge_laws.proofs.laws.definitions_together.Goals as goal

pub returns : goal.returns
returns c = worlds_together
