-- SPDX-License-Identifier: Apache-2.0
use Rattle.std.proofs.Common.{arith}
use Rattle.cedar_data.proofs.Places.{StandsAt-within, StandsAt-after, BelongsAt-after}
use Rattle.cedar_data.proofs.run.Run.place_after.Goals as goal

pub overflow_add-result : goal.overflow_add-result
overflow_add-result g c = omega (arith, StandsAt-within g.met.K.Ord.total c.args.key.now c.in-Ok.ensures.found, c.in-Ok.ensures.counted)

pub returns-in-Ok : goal.returns-in-Ok
returns-in-Ok g c = StandsAt-after g.met.K.Ord.total c.args.key.now c.in-Ok.ensures.found

pub returns-in-Err : goal.returns-in-Err
returns-in-Err g c = BelongsAt-after g.met.K.Ord.total c.args.key.now c.in-Err.ensures.missing
