-- SPDX-License-Identifier: Apache-2.0
use Rattle.cedar_syntax_laws.proofs.Whole.{few_open, few_open_well}
use Rattle.cedar_syntax_laws.proofs.laws.few_brackets_open.Goals as goal

pub returns-clause-any : goal.returns-clause-any
returns-clause-any c = few_open

pub returns-clause-well : goal.returns-clause-well
returns-clause-well c = few_open_well
