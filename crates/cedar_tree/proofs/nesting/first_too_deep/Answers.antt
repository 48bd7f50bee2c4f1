-- SPDX-License-Identifier: Apache-2.0
use Rattle.std.proofs.Common.{◌∙◌, sym, arith}
use Rattle.cedar_tree.specs.Meanings.{annotated_tree, namespace_tree}
use Rattle.cedar_tree.specs.Nesting.{types_of_namespace}
use Rattle.cedar_tree.proofs.DeepPlaces.{deep_found, deep_on, deep_end, schema_types}
use Rattle.cedar_tree.proofs.nesting.first_too_deep.Goals as goal

pub returns-in-Some : goal.returns-in-Some
returns-in-Some c =
    deep_found (λ n. types_of_namespace (annotated_tree namespace_tree n)) c.as_slice-namespace-items.result.now c.loop-namespace.namespace-index c.namespace-item.result _ c.deep_in_namespace.result c.in-Some.place c.loop-namespace-test.true c.namespace-item.is c.loop-namespace.invariant
    c.deep_in_namespace.ensures c.in-Some.is
    ∙ sym (schema_types c.args.schema.now)

pub loop-namespace-preserved : goal.loop-namespace-preserved
loop-namespace-preserved c =
    deep_on (λ n. types_of_namespace (annotated_tree namespace_tree n)) c.as_slice-namespace-items.result.now c.loop-namespace.namespace-index c.namespace-item.result _ c.deep_in_namespace.result c.loop-namespace-test.true c.namespace-item.is c.loop-namespace.invariant
    c.deep_in_namespace.ensures c.in_default.is

pub returns : goal.returns
returns c = deep_end (λ n. types_of_namespace (annotated_tree namespace_tree n)) c.as_slice-namespace-items.result.now c.loop-namespace.namespace-index _ (omega arith) c.loop-namespace.invariant ∙ sym (schema_types c.args.schema.now)
