-- SPDX-License-Identifier: Apache-2.0
use Rattle.std.proofs.Common.{◌≡◌, ◌++◌, map}
use Rattle.std.specs.Vec.Iter.{into_iter_items}
use Rattle.cedar_convert_declarations.specs.of_convert_faults.Gathering.{gathered_tree}
use Rattle.cedar_convert_declarations.specs.of_convert_fragment.Declares.{declared_by}
use Rattle.cedar_convert_declarations.specs.of_convert_fragment.Views.{namespaces_seen}
use Rattle.cedar_convert_namespaces.proofs.namespaces.namespaces_declared.Given as goal

-- what was declared so far, with what the rest declares, is all
abbrev pub invariant-loop-gathered : goal.invariant-loop-gathered
invariant-loop-gathered l = namespaces_seen l.made.items ++ declared_by (map gathered_tree (into_iter_items l.gathered-iterator)) ≡ declared_by (map gathered_tree l.fn.all)
