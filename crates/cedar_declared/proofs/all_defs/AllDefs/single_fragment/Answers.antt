-- SPDX-License-Identifier: Apache-2.0
use Rattle.std.proofs.Common.{◌∙◌}
use Rattle.cedar_declared.specs.Gathering.{gathered}
use Rattle.cedar_declared.proofs.Gains.{gathers_one}
use Rattle.cedar_declared.proofs.all_defs.AllDefs.single_fragment.Goals as goal

pub returns : goal.returns
returns g c = gathers_one c.in_ok-all.all (gathered c.args.alloc c.none-names.result) c.args.alloc c.args.fragment.now c.none-names.ensures (c.in_ok-all.ensures ∙ c.in_ok-insert_fragment.ensures)
