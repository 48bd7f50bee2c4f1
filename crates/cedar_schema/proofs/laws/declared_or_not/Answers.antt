-- SPDX-License-Identifier: Apache-2.0
use Rattle.cedar_schema.proofs.Declaring.{declared_or_not}
use Rattle.cedar_schema.proofs.laws.declared_or_not.Goals as goal

pub returns : goal.returns
returns c = declared_or_not
