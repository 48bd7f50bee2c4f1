-- SPDX-License-Identifier: Apache-2.0
use Rattle.std.proofs.Common.{rules}
use Rattle.cedar_compat.proofs.Each.{PassesSeen-next}
use Rattle.cedar_compat.proofs.Keeping.{descendant-kept}
use Rattle.cedar_compat.proofs.Standing.{StandsIn-next}
use Rattle.cedar_compat.proofs.schemas.check_descendants.Goals as goal

pub loop-name-preserved : goal.loop-name-preserved
loop-name-preserved c =
    let at_left = c.in-Some.ensures.steps in
    (PassesSeen-next c.loop-name.invariant.0 at_left c.in_ok-check_descendant.ensures.told, StandsIn-next c.loop-name.invariant.1 at_left)

pub returns-in_err-check_descendant-clause-kept : goal.returns-in_err-check_descendant-clause-kept
returns-in_err-check_descendant-clause-kept c =
    let x = c.in_err-check_descendant.field-0.0 in
    let kept = descendant-kept c.args.old.now x c.loop-name.invariant.1 c.in-Some.ensures.steps c.in_err-check_descendant.ensures.kept in
    search (rules, kept)
