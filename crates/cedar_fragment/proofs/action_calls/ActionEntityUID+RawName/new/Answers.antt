-- SPDX-License-Identifier: Apache-2.0
use Rattle.std.proofs.Common.{refl}
use Rattle.cedar_fragment.specs.ActionUids.{over_raw}
use Rattle.cedar_fragment.proofs.Uids.{uid-same}
use Rattle.cedar_fragment.proofs.action_calls.ActionEntityUID+RawName.new.Goals as goal

pub returns : goal.returns
returns c = uid-same over_raw _ _ _ _ _ _ refl refl
