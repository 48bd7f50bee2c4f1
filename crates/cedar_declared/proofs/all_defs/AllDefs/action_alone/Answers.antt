-- SPDX-License-Identifier: Apache-2.0
use Rattle.cedar_declared.proofs.HeldPlaces.{action_held}
use Rattle.cedar_declared.proofs.all_defs.AllDefs.action_alone.Goals as goal

pub returns-clause-held : goal.returns-clause-held
returns-clause-held c = action_held c.args.self.now _ c.alone.ensures.held
