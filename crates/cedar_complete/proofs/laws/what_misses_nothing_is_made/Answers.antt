-- SPDX-License-Identifier: Apache-2.0
use Rattle.cedar_complete.proofs.NothingMissed.{whole_definition}
use Rattle.cedar_complete.proofs.laws.what_misses_nothing_is_made.Goals as goal

pub returns-clause-definition : goal.returns-clause-definition
returns-clause-definition c = whole_definition
