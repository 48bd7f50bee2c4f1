-- SPDX-License-Identifier: Apache-2.0
use Rattle.std.proofs.Common.{Some, get_or, ap, sym, ◌∙◌, arith}
use Rattle.cedar_data.proofs.Places.{StandsAt-within, StandsAt-get, BelongsAt-get}
use Rattle.cedar_data.proofs.run.Run.get_near.Goals as goal

pub overflow_add-near : goal.overflow_add-near
overflow_add-near g c = omega (arith, StandsAt-within g.met.K.Ord.total c.args.key.now c.in-Ok.ensures.found, c.in-Ok.ensures.counted)

pub returns-in-Ok : goal.returns-in-Ok
returns-in-Ok g c =
    let entry = c.index-as_slice-at.result in
    ap (λ es. Some (get_or es c.in-Ok.at entry).1) c.as_slice.ensures.entries ∙ sym (StandsAt-get g.met.K.Ord.total c.args.key.now c.in-Ok.ensures.found entry)

pub returns-in-Err : goal.returns-in-Err
returns-in-Err g c = sym (BelongsAt-get g.met.K.Ord.total c.args.key.now c.in-Err.ensures.missing)
