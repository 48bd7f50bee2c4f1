-- SPDX-License-Identifier: Apache-2.0
use Rattle.cedar_sound.proofs.OneSchema.{one_schema}
use Rattle.cedar_sound.proofs.laws.one_schema.Goals as goal

pub returns : goal.returns
returns c = one_schema
