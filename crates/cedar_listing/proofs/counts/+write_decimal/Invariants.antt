-- SPDX-License-Identifier: Apache-2.0
use Rattle.cedar_listing.proofs.counts.+write_decimal.Given as goal

-- the digits before the last are those of a lesser number
abbrev pub decreases-write_decimal : goal.decreases-write_decimal
decreases-write_decimal g l = l.number
