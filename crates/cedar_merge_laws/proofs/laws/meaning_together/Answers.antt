-- SPDX-License-Identifier: Apache-2.0
use Rattle.cedar_merge_laws.proofs.Meaning.{means_together}
use Rattle.cedar_merge_laws.proofs.laws.meaning_together.Goals as goal

pub returns : goal.returns
returns c = means_together
