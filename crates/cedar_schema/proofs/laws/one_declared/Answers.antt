-- SPDX-License-Identifier: Apache-2.0
use Rattle.cedar_schema.proofs.Declaring.{one_declared}
use Rattle.cedar_schema.proofs.laws.one_declared.Goals as goal

pub returns : goal.returns
returns c = one_declared
