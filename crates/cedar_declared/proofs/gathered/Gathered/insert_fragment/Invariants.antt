-- SPDX-License-Identifier: Apache-2.0
use Rattle.std.proofs.Common.{◌≡◌, fold, drop}
use Rattle.cedar_definitions.specs.Structures.{definitions_of}
use Rattle.cedar_declared.specs.Gathering.{gathered, with_definition}
use Rattle.cedar_declared.proofs.gathered.Gathered.insert_fragment.Given as goal

-- what the definitions that are left add now is what all add
abbrev pub invariant-loop-definition : goal.invariant-loop-definition
invariant-loop-definition g l = fold with_definition (gathered l.fn.alloc l.self) (drop l.definition-index l.definition-items) ≡ fold with_definition (gathered l.fn.alloc l.fn.self) (definitions_of l.fn.fragment)
