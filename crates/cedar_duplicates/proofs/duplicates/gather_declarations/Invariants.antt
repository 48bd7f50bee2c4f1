-- SPDX-License-Identifier: Apache-2.0
use Rattle.std.proofs.Common.{◌≡◌, [], fold, drop}
use Rattle.cedar_duplicates.specs.Declarations.{with_declarations}
use Rattle.cedar_duplicates.proofs.duplicates.gather_declarations.Given as goal

-- what those that are left add now is what all add
abbrev pub invariant-loop-definition : goal.invariant-loop-definition
invariant-loop-definition g l = fold with_declarations l.all (drop l.definition-index l.fn.definitions) ≡ fold with_declarations [] l.fn.definitions
