-- SPDX-License-Identifier: Apache-2.0
use Rattle.std.proofs.Common.{arith, sym, ◌∙◌, add-one}
use Rattle.cedar_data.proofs.Nearby.{StandsAt-compared, BelongsAt-between}
use Rattle.cedar_data.proofs.run.Run.place_behind.Goals as goal

pub returns-in-Equal-clause-found : goal.returns-in-Equal-clause-found
returns-in-Equal-clause-found g c =
    StandsAt-compared g.met.K.Ord.total c.args.key.now c.args.self.now _ c.requires.ordered (sym c.compared.ensures ∙ c.in-Equal.is)

pub returns-in-Greater-clause-missing : goal.returns-in-Greater-clause-missing
returns-in-Greater-clause-missing g c =
    BelongsAt-between g.met.K.Ord.total c.args.key.now c.args.self.now c.args.near _ c.requires.ordered (search arith) (add-one c.args.near) c.requires.less (sym c.compared.ensures ∙ c.in-Greater.is)
