-- SPDX-License-Identifier: Apache-2.0
use Rattle.std.proofs.Common.{◌≡◌, drop}
use Rattle.std.specs.List.{flat_map}
use Rattle.cedar_tree.specs.Meanings.{app_tree}
use Rattle.cedar_tree.specs.Nesting.{types_of_app, deep_place}
use Rattle.cedar_tree.proofs.nesting.deep_in_lines.Given as goal

-- the first of the types of the lines that are left is the first of all
abbrev pub invariant-loop-line : goal.invariant-loop-line
invariant-loop-line l = deep_place (flat_map (λ line. types_of_app (app_tree line.node)) (drop l.line-index l.lines)) ≡ deep_place (flat_map (λ line. types_of_app (app_tree line.node)) l.lines)
