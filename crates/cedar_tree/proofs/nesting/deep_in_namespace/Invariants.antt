-- SPDX-License-Identifier: Apache-2.0
use Rattle.std.proofs.Common.{◌≡◌, drop}
use Rattle.std.specs.List.{flat_map}
use Rattle.cedar_tree.specs.Meanings.{decl_tree}
use Rattle.cedar_tree.specs.Nesting.{types_of_decl, deep_place}
use Rattle.cedar_tree.proofs.nesting.deep_in_namespace.Given as goal

-- the first of the types of the declarations that are left is the first of all
abbrev pub invariant-loop-decl : goal.invariant-loop-decl
invariant-loop-decl l = deep_place (flat_map (λ d. types_of_decl (decl_tree d.item.node)) (drop l.decl-index l.decl-items)) ≡ deep_place (flat_map (λ d. types_of_decl (decl_tree d.item.node)) l.fn.namespace.item.decls)
