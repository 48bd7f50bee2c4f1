-- SPDX-License-Identifier: Apache-2.0
use Rattle.std.proofs.Common.{◌≡◌, ◌++◌, map}
use Rattle.cedar_tables.specs.Declarations.{placed_by}
use Rattle.cedar_tables.proofs.declarations.append_placed.Given as goal

-- the entries so far, with those that are left, are all
abbrev pub invariant-loop-name : goal.invariant-loop-name
invariant-loop-name g l = l.entries.items ++ map (placed_by l.fn.locs) l.name-iterator ≡ l.fn.entries.items ++ map (placed_by l.fn.locs) l.fn.defs
