-- SPDX-License-Identifier: Apache-2.0
use Rattle.std.proofs.Common.{length, subst}
use Rattle.cedar_schema_error.specs.KeptDeclarations.{placed}
use Rattle.cedar_unfold.specs.Passing.{IsCycleWithin}
use Rattle.cedar_unfold.proofs.Kept.{among-at, among-name, among-none}
use Rattle.cedar_unfold.proofs.all.judged.Goals as goal

pub returns-in_ok-cycle-in-Cycle-clause-kept : goal.returns-in_ok-cycle-in-Cycle-clause-kept
returns-in_ok-cycle-in-Cycle-clause-kept c =
    let name = c.index-keys-least.result in
    let within = subst (IsCycleWithin (length c.args.keys.now)) c.in-Cycle.is c.requires in
    among-name c.args.keys.now name c.in_ok-cycle-in-Cycle.field-0 (among-at placed c.args.keys.now c.in-Cycle.least name name within c.index-keys-least.is) c.in_ok-cycle-in-Cycle.ensures.kept

pub returns-in-Some-clause-kept : goal.returns-in-Some-clause-kept
returns-in-Some-clause-kept c = among-none _ _ c.into_error.result c.into_error.ensures.kept
