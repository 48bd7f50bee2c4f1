-- SPDX-License-Identifier: Apache-2.0
use Rattle.std.proofs.Common.{◌≡◌, take}
use Rattle.cedar_names.proofs.namespace.Namespace.to_ids_with.Given as goal

-- the copies so far are the first identifiers
abbrev pub invariant-loop-id : goal.invariant-loop-id
invariant-loop-id l = l.ids.items ≡ take l.id-index l.outer
