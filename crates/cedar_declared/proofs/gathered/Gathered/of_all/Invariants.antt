-- SPDX-License-Identifier: Apache-2.0
use Rattle.std.proofs.Common.{◌≡◌, fold, drop}
use Rattle.cedar_declared.specs.Gathering.{gathered, no_names, with_fragment}
use Rattle.cedar_declared.proofs.gathered.Gathered.of_all.Given as goal

-- what the fragments that are left add now is what all add
abbrev pub invariant-loop-fragment : goal.invariant-loop-fragment
invariant-loop-fragment g l = fold with_fragment (gathered l.fn.alloc l.all) (drop l.fragment-index l.fragments) ≡ fold with_fragment (no_names l.fn.alloc) l.fn.fragments
