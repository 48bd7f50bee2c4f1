-- SPDX-License-Identifier: Apache-2.0
use Rattle.std.proofs.Common.{◌≡◌, ◌∷◌, take}
use Rattle.cedar_tree.proofs.declaration.ActionDeclDecl.names.Given as goal

-- the names so far are the first, and as many as were looked at behind it
abbrev pub invariant-loop-name : goal.invariant-loop-name
invariant-loop-name l = l.names.items ≡ l.fn.self.names.head ∷ take l.name-index l.name-items
