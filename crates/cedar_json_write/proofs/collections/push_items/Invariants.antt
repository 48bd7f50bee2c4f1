-- SPDX-License-Identifier: Apache-2.0
use Rattle.std.proofs.Common.{◌≡◌, ◌++◌, drop, map}
use Rattle.serde_json.specs.View.{view}
use Rattle.cedar_json_write.proofs.collections.push_items.Given as goal

-- with what is left, what is written so far is all
abbrev pub invariant-loop-item : goal.invariant-loop-item
invariant-loop-item g l = map view l.values.items ++ map g.T.ToJson.written (drop l.item-index l.items) ≡ map view l.fn.values.items ++ map g.T.ToJson.written l.items
