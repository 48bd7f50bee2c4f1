-- SPDX-License-Identifier: Apache-2.0
use Rattle.cedar_schema.proofs.Refusing.{one_text_cause}
use Rattle.cedar_schema.proofs.laws.one_text_cause.Goals as goal

pub returns : goal.returns
returns c = one_text_cause
