-- SPDX-License-Identifier: Apache-2.0
use Rattle.std.proofs.Common.{Some, get_or, ap, sym, ◌∙◌}
use Rattle.cedar_data.proofs.Places.{StandsAt-get, BelongsAt-get}
use Rattle.cedar_data.proofs.run.Run.get.Goals as goal

pub returns-in-Ok : goal.returns-in-Ok
returns-in-Ok g c =
    let entry = c.index.result.now in
    ap (λ e. Some e.1) (c.index.ensures ∙ ap (λ es. get_or es c.in-Ok.at entry) c.self.view_is) ∙ sym (StandsAt-get g.met.K.Ord.total c.args.key.now c.in-Ok.ensures.found entry)

pub returns-in-Err : goal.returns-in-Err
returns-in-Err g c = sym (BelongsAt-get g.met.K.Ord.total c.args.key.now c.in-Err.ensures.missing)
