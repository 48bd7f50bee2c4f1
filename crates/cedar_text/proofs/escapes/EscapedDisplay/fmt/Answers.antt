-- SPDX-License-Identifier: Apache-2.0
use Rattle.std.proofs.Common.{sym, ◌∙◌}
use Rattle.std.proofs.Output.{has_written_of_eq}
use Rattle.cedar_text.proofs.PlainTexts.{plain_text}
use Rattle.cedar_text.proofs.escapes.EscapedDisplay.fmt.Goals as goal

pub returns-then-has_no_escape-clause-writes : goal.returns-then-has_no_escape-clause-writes
returns-then-has_no_escape-clause-writes g c = λ plain ok.
    has_written_of_eq _ _ _ _ _ (sym (plain_text c.args.self.now.0.now (sym c.has_no_escape.ensures ∙ c.if-has_no_escape.true))) (c.write_str.ensures.writes plain ok)
