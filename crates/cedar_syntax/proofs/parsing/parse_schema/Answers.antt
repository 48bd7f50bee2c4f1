-- SPDX-License-Identifier: Apache-2.0
use Rattle.std.proofs.Common.{subst, sym}
use Rattle.cedar_syntax.specs.Texts.{ReadsText}
use Rattle.cedar_syntax.proofs.parsing.parse_schema.Goals as goal

pub returns-in-Ok-read_source-clause-accepts : goal.returns-in-Ok-read_source-clause-accepts
returns-in-Ok-read_source-clause-accepts c s whole =
    c.in-Ok-read_source.ensures.accepts s (subst (λ text. ReadsText text s) (sym c.in_ok-source.ensures) whole)

pub returns-in-Err-Refused-read_source-clause-accepts : goal.returns-in-Err-Refused-read_source-clause-accepts
returns-in-Err-Refused-read_source-clause-accepts c s whole =
    let refused = c.in-Err-Refused-read_source.ensures.accepts s (subst (λ text. ReadsText text s) (sym c.in_ok-source.ensures) whole) in
    rw c.in-Err-Refused-read_source.field-0-is at refused
