-- SPDX-License-Identifier: Apache-2.0
use Rattle.cedar_names.proofs.ExtensionLemmas.{ascending_words}
use Rattle.cedar_names.proofs.extensions.Extensions.ext_types.Goals as goal

pub returns-clause-ascending : goal.returns-clause-ascending
returns-clause-ascending c = ascending_words _ c.iter.ensures.ordered
