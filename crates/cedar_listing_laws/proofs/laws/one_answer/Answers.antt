-- SPDX-License-Identifier: Apache-2.0
use Rattle.cedar_listing_laws.proofs.Denoted.{counts_of_text, listing_of_text}
use Rattle.cedar_listing_laws.proofs.laws.one_answer.Goals as goal

pub returns-clause-listing : goal.returns-clause-listing
returns-clause-listing c = listing_of_text

pub returns-clause-counts : goal.returns-clause-counts
returns-clause-counts c = counts_of_text
