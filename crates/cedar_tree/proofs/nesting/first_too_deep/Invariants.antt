-- SPDX-License-Identifier: Apache-2.0
use Rattle.std.proofs.Common.{◌≡◌, drop}
use Rattle.std.specs.List.{flat_map}
use Rattle.cedar_tree.specs.Meanings.{annotated_tree, namespace_tree}
use Rattle.cedar_tree.specs.Nesting.{types_of_namespace, deep_place}
use Rattle.cedar_tree.proofs.nesting.first_too_deep.Given as goal

-- the first of the types of the namespaces that are left is the first of all
abbrev pub invariant-loop-namespace : goal.invariant-loop-namespace
invariant-loop-namespace l = deep_place (flat_map (λ n. types_of_namespace (annotated_tree namespace_tree n)) (drop l.namespace-index l.namespace-items)) ≡ deep_place (flat_map (λ n. types_of_namespace (annotated_tree namespace_tree n)) l.fn.schema)
