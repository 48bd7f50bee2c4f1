-- SPDX-License-Identifier: Apache-2.0
use Rattle.cedar_names.proofs.Ids.{Id-same}
use Rattle.cedar_names.proofs.id.IdDup.dup.Goals as goal

pub returns : goal.returns
returns c = Id-same _ _ _ _ c.in_ok-word.ensures
