-- SPDX-License-Identifier: Apache-2.0
use Rattle.std.proofs.Common.{codes, refl}
use Rattle.cedar_reviews.proofs.Keys.{two-keys}
use Rattle.cedar_reviews.proofs.comparing.schemas_opened.Goals as goal

pub opened-requires : goal.opened-requires
opened-requires c = record { distinct = two-keys (codes "old") (codes "new") _ _ refl c.in_ok-new.ensures c.in_ok-new-2.ensures }
