-- SPDX-License-Identifier: Apache-2.0
use Rattle.std.proofs.Common.{◌≡◌, take}
use Rattle.cedar_tree.proofs.ty.+dup.Given as goal

-- the copies so far are the first attributes
abbrev pub invariant-dup_attributes-loop-attr : goal.invariant-dup_attributes-loop-attr
invariant-dup_attributes-loop-attr l = l.copies ≡ take l.attr-index l.attr-items
