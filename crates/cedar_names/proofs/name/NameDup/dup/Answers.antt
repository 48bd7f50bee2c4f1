-- SPDX-License-Identifier: Apache-2.0
use Rattle.std.proofs.Common.{rules}
use Rattle.cedar_names.proofs.NameLemmas.{Name-same}
use Rattle.cedar_names.proofs.name.NameDup.dup.Goals as goal

pub returns : goal.returns
returns c = Name-same _ _ _ _ (search rules)
