-- SPDX-License-Identifier: Apache-2.0
use Rattle.std.proofs.Common.{◌≡◌, drop}
use Rattle.cedar_checks.specs.SchemaViews.{schema_in}
use Rattle.cedar_conform.proofs.EntityLoops.{ReadsEntities}
use Rattle.cedar_conform.proofs.entities.read_entities.Given as goal

-- the entities so far are read
abbrev pub invariant-loop-item : goal.invariant-loop-item
invariant-loop-item l = ReadsEntities (schema_in l.schema) l.items.items (drop l.item-index l.item-items) l.place l.read × (l.place ≡ l.item-index)
