-- SPDX-License-Identifier: Apache-2.0
use Rattle.std.proofs.Common.{◌≡◌, drop, nat_lt}
use Rattle.cedar_tree.specs.Meanings.{attrs_tree}
use Rattle.cedar_tree.specs.Nesting.{greatest_nest}
use Rattle.cedar_tree.proofs.nesting.+nesting.Given as goal

-- some attribute nests too deep exactly where one of those that are left does
abbrev pub invariant-any_nests_past-loop-attr : goal.invariant-any_nests_past-loop-attr
invariant-any_nests_past-loop-attr l = nat_lt l.limit (greatest_nest (attrs_tree (drop l.attr-index l.attr-items))) ≡ nat_lt l.limit (greatest_nest (attrs_tree l.fn.attrs))
