-- SPDX-License-Identifier: Apache-2.0
use Rattle.cedar_reviews.proofs.Keys.{one-key}
use Rattle.cedar_reviews.proofs.merging.list_opened.Goals as goal

pub opened-requires : goal.opened-requires
opened-requires c = record { distinct = one-key _ }
