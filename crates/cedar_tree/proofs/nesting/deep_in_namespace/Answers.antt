-- SPDX-License-Identifier: Apache-2.0
use Rattle.std.proofs.Common.{◌∙◌, sym, arith}
use Rattle.cedar_tree.specs.Meanings.{decl_tree}
use Rattle.cedar_tree.specs.Nesting.{types_of_decl}
use Rattle.cedar_tree.proofs.DeepPlaces.{deep_found, deep_on, deep_end, namespace_types}
use Rattle.cedar_tree.proofs.nesting.deep_in_namespace.Goals as goal

pub returns-in-Some : goal.returns-in-Some
returns-in-Some c =
    deep_found (λ d. types_of_decl (decl_tree d.item.node)) c.as_slice-decl-items.result.now c.loop-decl.decl-index c.decl-item.result _ c.deep_in_decl.result c.in-Some.place c.loop-decl-test.true c.decl-item.is c.loop-decl.invariant
    c.deep_in_decl.ensures c.in-Some.is
    ∙ sym (namespace_types c.args.namespace.now)

pub loop-decl-preserved : goal.loop-decl-preserved
loop-decl-preserved c =
    deep_on (λ d. types_of_decl (decl_tree d.item.node)) c.as_slice-decl-items.result.now c.loop-decl.decl-index c.decl-item.result _ c.deep_in_decl.result c.loop-decl-test.true c.decl-item.is c.loop-decl.invariant
    c.deep_in_decl.ensures c.in_default.is

pub returns : goal.returns
returns c = deep_end (λ d. types_of_decl (decl_tree d.item.node)) c.as_slice-decl-items.result.now c.loop-decl.decl-index _ (omega arith) c.loop-decl.invariant ∙ sym (namespace_types c.args.namespace.now)
