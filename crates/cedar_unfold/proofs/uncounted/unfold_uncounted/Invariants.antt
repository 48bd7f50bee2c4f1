-- SPDX-License-Identifier: Apache-2.0
use Rattle.cedar_unfold.proofs.uncounted.unfold_uncounted.Given as goal

-- the new ledger
abbrev pub ghosts-unfold_in : goal.ghosts-unfold_in
ghosts-unfold_in g a = record { name = a.blank.name; parts = a.blank.parts }
