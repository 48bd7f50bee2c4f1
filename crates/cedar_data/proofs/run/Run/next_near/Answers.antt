-- SPDX-License-Identifier: Apache-2.0
use Rattle.std.proofs.Common.{rules, Some, get_or, ap, sym, ◌∙◌}
use Rattle.cedar_data.proofs.Nearby.{StandsAt-compared}
use Rattle.cedar_data.proofs.Places.{StandsAt-get}
use Rattle.cedar_data.proofs.run.Run.next_near.Goals as goal

pub returns : goal.returns
returns g c =
    let entry = c.index-as_slice-near.result in
    let near = c.args.near.now in
    let stands = StandsAt-compared g.met.K.Ord.total c.args.key.now c.args.self.now near c.as_slice.ensures.ordered (search rules) in
    record {
      at = near;
      stands = stands;
      is = StandsAt-get g.met.K.Ord.total c.args.key.now stands entry ∙ ap (λ es. Some (get_or es near entry).1) (sym c.as_slice.ensures.entries);
    }
