-- SPDX-License-Identifier: Apache-2.0
use Rattle.std.proofs.Common.{Err, subst}
use Rattle.cedar_syntax.specs.Causes.{AcceptsAs}
use Rattle.cedar_convert_text.proofs.parsing.parsed.Goals as goal

pub returns-in-Err-Refused-clause-accepts : goal.returns-in-Err-Refused-clause-accepts
returns-in-Err-Refused-clause-accepts c =
    λ tree reads. subst (λ f. AcceptsAs tree (Err f)) c.in-Err-Refused.field-0-is (c.in-Err-Refused.ensures.accepts tree reads)
