-- SPDX-License-Identifier: Apache-2.0
use Rattle.cedar_listing_laws.proofs.Denoted.{alike, alike_of_text}
use Rattle.cedar_listing_laws.proofs.laws.one_refusal_text.Goals as goal

pub returns-clause-errors : goal.returns-clause-errors
returns-clause-errors c = alike

pub returns-clause-text : goal.returns-clause-text
returns-clause-text c = alike_of_text
