-- SPDX-License-Identifier: Apache-2.0
use Rattle.std.proofs.Common.{◌≡◌, drop}
use Rattle.cedar_conform.specs.of_checks.SchemaViews.{schema_in}
use Rattle.cedar_request.proofs.RequestLoops.{FindsNumbers}
use Rattle.cedar_request.proofs.requests.check_items.Given as goal

-- the numbers of the requests so far are found
abbrev pub invariant-loop-item : goal.invariant-loop-item
invariant-loop-item l = FindsNumbers (schema_in l.schema) l.items.items (drop l.item-index l.item-items) l.place l.numbers.items × (l.place ≡ l.item-index)
