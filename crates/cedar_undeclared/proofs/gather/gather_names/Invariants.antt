-- SPDX-License-Identifier: Apache-2.0
use Rattle.std.proofs.Common.{◌≡◌, drop}
use Rattle.cedar_missing.specs.of_declared.Held.{names_of}
use Rattle.cedar_undeclared.specs.Gathering.{with_all_undeclared}
use Rattle.cedar_undeclared.proofs.gather.gather_names.Given as goal

-- what the names that are left add now is what all add
abbrev pub invariant-loop-name : goal.invariant-loop-name
invariant-loop-name l = with_all_undeclared (names_of l.fn.all_defs) l.names (drop l.name-index l.more) ≡ with_all_undeclared (names_of l.fn.all_defs) l.fn.names l.fn.more
