-- SPDX-License-Identifier: Apache-2.0
use Rattle.std.proofs.Common.{rules}
use Rattle.cedar_names.proofs.Ids.{UnreservedId-same}
use Rattle.cedar_names.proofs.id.UnreservedIdDup.dup.Goals as goal

pub returns : goal.returns
returns c = UnreservedId-same _ _ _ _ (search rules)
