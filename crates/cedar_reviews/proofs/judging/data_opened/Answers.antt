-- SPDX-License-Identifier: Apache-2.0
use Rattle.std.proofs.Common.{◌∙◌}
use Rattle.cedar_reviews.proofs.Keys.{judged-keys}
use Rattle.cedar_reviews.proofs.judging.data_opened.Goals as goal

pub opened-requires : goal.opened-requires
opened-requires c = record { distinct = judged-keys c.args.judged _ _ c.in_ok-new.ensures (c.in_ok-new-2.ensures ∙ c.key.ensures) }
