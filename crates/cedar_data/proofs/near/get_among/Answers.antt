-- SPDX-License-Identifier: Apache-2.0
use Rattle.std.proofs.Common.{rules, ◌∙◌}
use Rattle.cedar_data.proofs.Nearby.{get-stands}
use Rattle.cedar_data.proofs.RunEdits.{get-run}
use Rattle.cedar_data.proofs.near.get_among.Goals as goal

pub returns-in-Some-next_near : goal.returns-in-Some-next_near
returns-in-Some-next_near g c =
    get-stands g.met.K.Ord.total c.args.key.now c.args.runs.now c.requires c.args.near.now.run (search rules) c.in-Some.run'.now c.in-Some-next_near.value.now (search rules) c.in-Some-next_near.ensures

pub returns : goal.returns
returns g c =
    let run = c.index-runs-run.result in
    c.get_near.ensures ∙ get-run g.met.K.Ord.total c.args.key.now c.args.runs.now c.run_near-run.result run (record { inside = c.run_near-run.ensures.within; of = c.run_near-run.ensures.of; is = c.index-runs-run.is })
