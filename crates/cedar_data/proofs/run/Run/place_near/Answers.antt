-- SPDX-License-Identifier: Apache-2.0
use Rattle.std.proofs.Common.{sym, ◌∙◌}
use Rattle.cedar_data.proofs.Nearby.{StandsAt-compared}
use Rattle.cedar_data.proofs.run.Run.place_near.Goals as goal

pub returns-in-Equal-clause-found : goal.returns-in-Equal-clause-found
returns-in-Equal-clause-found g c = StandsAt-compared g.met.K.Ord.total c.args.key.now c.args.self.now c.min-near.result c.len.ensures.ordered (sym c.compared.ensures ∙ c.in-Equal.is)
