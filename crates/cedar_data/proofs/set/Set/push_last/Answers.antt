-- SPDX-License-Identifier: Apache-2.0
use Rattle.std.proofs.Common.{◌∙◌}
use Rattle.cedar_data.proofs.Rebuild.{insert_key-last}
use Rattle.cedar_data.proofs.set.Set.push_last.Goals as goal

pub returns-clause-ok : goal.returns-clause-ok
returns-clause-ok g c =
    c.in_ok-insert.ensures.ok ∙ insert_key-last g.met.K.Ord.total c.args.self.now c.args.key c.requires
