-- SPDX-License-Identifier: Apache-2.0
use Rattle.std.proofs.Common.{sym, subst}
use Rattle.cedar_declared.specs.HeldPlaces.{IsHeldType}
use Rattle.cedar_shadowing.proofs.KeptPairs.{basename_held}
use Rattle.cedar_shadowing.proofs.Shadowers.{placed_shadowing, told_shadowing}
use Rattle.cedar_shadowing.proofs.types.type_shadowing.Goals as goal

pub returns-clause-told : goal.returns-clause-told
returns-clause-told c =
    told_shadowing c.args.shadowing.now c.basename.result.now c.in_ok-shadowed_def.shadowed_def c.in_ok-shadowing_def.shadowing_def c.basename.ensures c.in_ok-shadowed_def.ensures.name c.in_ok-shadowing_def.ensures

pub returns-clause-places : goal.returns-clause-places
returns-clause-places c =
    placed_shadowing c.args.all_defs.now c.args.shadowing.now c.basename.result.now c.in_ok-shadowed_def.shadowed_def c.in_ok-shadowing_def.shadowing_def c.basename.ensures c.in_ok-shadowed_def.ensures.place c.in_ok-shadowing_def.ensures

pub returns-clause-kept : goal.returns-clause-kept
returns-clause-kept c declared held = record {
  types = (
    basename_held c.args.all_defs.now c.args.shadowing.now c.basename.result.now c.in_ok-shadowed_def.shadowed_def c.basename.ensures c.in_ok-shadowed_def.ensures.name c.in_ok-shadowed_def.ensures.place declared,
    (subst (IsHeldType c.args.all_defs.now) (sym c.in_ok-shadowing_def.ensures) held, tt),
  );
  actions = tt;
}
