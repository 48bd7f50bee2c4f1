-- SPDX-License-Identifier: Apache-2.0
use Rattle.cedar_text_laws.proofs.Declaring.{declared_or_told}
use Rattle.cedar_text_laws.proofs.laws.declared_or_told.Goals as goal

pub returns : goal.returns
returns c = declared_or_told
