-- SPDX-License-Identifier: Apache-2.0
use Rattle.cedar_answers.proofs.to_json.json_line.Goals as goal

pub returns-in-Err-Refused-clause-accepts : goal.returns-in-Err-Refused-clause-accepts
returns-in-Err-Refused-clause-accepts c = λ given. absurd (rw c.in-Err-Refused.field-0-is at (c.in-Err-Refused.ensures.accepts given.0 given.1 given.2))
