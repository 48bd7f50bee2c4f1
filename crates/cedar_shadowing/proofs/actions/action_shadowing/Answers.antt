-- SPDX-License-Identifier: Apache-2.0
use Rattle.std.proofs.Common.{sym, subst}
use Rattle.cedar_declared.specs.Held.{names_of}
use Rattle.cedar_declared.specs.HeldPlaces.{IsHeldAction}
use Rattle.cedar_shadowing.proofs.LookedUp.{pair_refused, pair_there}
use Rattle.cedar_shadowing.proofs.actions.action_shadowing.Goals as goal

pub unreachable-requires : goal.unreachable-requires
unreachable-requires c =
    pair_there (names_of c.args.all_defs.now) c.args.shadowing.now _ c.requires c.eid.ensures c.in-None.ensures.least

pub returns-clause-told : goal.returns-clause-told
returns-clause-told c =
    pair_refused (names_of c.args.all_defs.now) c.args.shadowing.now _ _ _ _ c.requires c.eid.ensures c.in-Some.ensures.least c.in_ok-shadowed_def-in-Some.ensures c.in_ok-shadowing_def-in-Some.ensures

pub returns-clause-kept : goal.returns-clause-kept
returns-clause-kept c held = record {
  types = tt;
  actions = (
    subst (IsHeldAction c.args.all_defs.now) (sym c.in_ok-shadowed_def-in-Some.ensures) c.in-Some.ensures.held,
    (subst (IsHeldAction c.args.all_defs.now) (sym c.in_ok-shadowing_def-in-Some.ensures) held, tt),
  );
}
