-- SPDX-License-Identifier: Apache-2.0
use Rattle.cedar_answers.proofs.Unprintable.{no_collisions, no_fault, unprintable-told}
use Rattle.cedar_answers.proofs.to_cedar.cedar_text.Goals as goal

pub returns-in-Ok-clause-told : goal.returns-in-Ok-clause-told
returns-in-Ok-clause-told c = unprintable-told c.args.text.now c.in-Ok.fragment c.in-Ok.ensures.shape c.printed.result c.printed.ensures.told

pub returns-in-Ok-clause-accepts : goal.returns-in-Ok-clause-accepts
returns-in-Ok-clause-accepts c = λ given. c.printed.ensures.accepts (no_collisions c.args.text.now given.0 given.1 c.in-Ok.fragment c.in-Ok.ensures.shape)

pub returns-in-Err-Refused-clause-accepts : goal.returns-in-Err-Refused-clause-accepts
returns-in-Err-Refused-clause-accepts c =
    λ given. absurd (no_fault c.args.text.now given.0 given.1 c.in-Err-Refused.error (rw c.in-Err-Refused.field-0-is at c.in-Err-Refused.ensures.refused))
