-- SPDX-License-Identifier: Apache-2.0
use Rattle.std.proofs.Common.{sym, subst, ◌∙◌}
use Rattle.cedar_written.specs.Answers.{Answers}
use Rattle.cedar_declared.specs.Held.{names_of}
use Rattle.cedar_declared.proofs.Targeted.{accepted_step, refused_step}
use Rattle.cedar_declared.proofs.resolving.ResolvingStepConditionalName.go.Goals as goal

pub returns-in-Ok : goal.returns-in-Ok
returns-in-Ok c = accepted_step (names_of c.args.self.now.all_defs.now) c.args._kind c.args.name c.in-Ok.name (sym c.in-Ok.is ∙ c.resolve.ensures)

pub returns-in-Err : goal.returns-in-Err
returns-in-Err c =
    let refused = refused_step (names_of c.args.self.now.all_defs.now) c.args._kind c.args.name c.in-Err.error (sym c.in-Err.is ∙ c.resolve.ensures) in
    subst (Answers c.boxed_refusal.result) (sym refused) c.boxed_refusal.ensures
