-- SPDX-License-Identifier: Apache-2.0
use Rattle.cedar_row_schema_calls.proofs.two_attributes.shape_told.Given as goal

-- the new ledger
abbrev pub ghosts-unfolded : goal.ghosts-unfolded
ghosts-unfolded a = record { name = a.blank.name; parts = a.blank.parts }
