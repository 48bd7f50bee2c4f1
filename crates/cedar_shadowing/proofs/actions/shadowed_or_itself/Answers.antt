-- SPDX-License-Identifier: Apache-2.0
use Rattle.cedar_declared.specs.Held.{names_of}
use Rattle.cedar_shadowing.proofs.LookedUp.{shadowed_found}
use Rattle.cedar_shadowing.proofs.actions.shadowed_or_itself.Goals as goal

pub returns-in-Some : goal.returns-in-Some
returns-in-Some c =
    shadowed_found (names_of c.args.all_defs.now).actions c.args.action.now _ c.in-Some.shadowed.now c.eid.ensures c.in-Some.ensures.least
