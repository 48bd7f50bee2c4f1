-- SPDX-License-Identifier: Apache-2.0
use Rattle.cedar_declared.proofs.Indexed.{held_found, least_found}
use Rattle.cedar_declared.proofs.action_names.ActionNames.alone.Goals as goal

pub returns-clause-least : goal.returns-clause-least
returns-clause-least c = least_found _ _ c.args.self.now c.args.id.now _ c.self.invariant c.self.view_is c.get.ensures

pub returns-clause-held : goal.returns-clause-held
returns-clause-held c = held_found _ _ c.args.self.now c.args.id.now _ c.self.invariant c.self.view_is c.get.ensures
