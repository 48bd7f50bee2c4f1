-- SPDX-License-Identifier: Apache-2.0
use Rattle.cedar_declared.proofs.HeldPlaces.{actions_held}
use Rattle.cedar_declared.proofs.all_defs.AllDefs.actions.Goals as goal

pub returns-clause-held : goal.returns-clause-held
returns-clause-held c = actions_held c.args.self.now c.iter.result c.iter.ensures
