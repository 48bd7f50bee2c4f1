-- SPDX-License-Identifier: Apache-2.0
use Rattle.std.proofs.Common.{rules}
use Rattle.cedar_fragment.proofs.Uids.{uid-same}
use Rattle.cedar_fragment.proofs.action_calls.ActionEntityUIDDup.dup.Goals as goal

pub returns : goal.returns
returns g c = uid-same g.N.RefName _ _ _ _ _ _ (search rules) (search rules)
