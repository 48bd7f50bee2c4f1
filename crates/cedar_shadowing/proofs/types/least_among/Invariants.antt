-- SPDX-License-Identifier: Apache-2.0
use Rattle.std.specs.Option.{option_copied}
use Rattle.cedar_shadowing.proofs.KeptPairs.{PicksType}
use Rattle.cedar_shadowing.proofs.types.least_among.Given as goal

-- the least so far, with those that are left, gives the least of all
abbrev pub invariant-loop-name : goal.invariant-loop-name
invariant-loop-name l = PicksType l.fn.all_defs (option_copied l.fn.best) l.fn.names l.name-iterator (option_copied l.least)
