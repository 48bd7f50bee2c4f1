-- SPDX-License-Identifier: Apache-2.0
use Rattle.std.proofs.Common.{◌≡◌, fold, drop}
use Rattle.cedar_declared.specs.Held.{names_of}
use Rattle.cedar_missing.specs.Undeclared.{missing_in_definition, no_missing, with_missing}
use Rattle.cedar_missing.proofs.looked_at.gather_missing.Given as goal

-- what those that are left add now is what all add
abbrev pub invariant-loop-definition : goal.invariant-loop-definition
invariant-loop-definition l =
    fold (with_missing (missing_in_definition (names_of l.fn.all_defs))) l.all (drop l.definition-index l.fn.definitions)
    ≡ fold (with_missing (missing_in_definition (names_of l.fn.all_defs))) no_missing l.fn.definitions
