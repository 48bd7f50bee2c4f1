-- SPDX-License-Identifier: Apache-2.0
use Rattle.std.specs.Iterator.Adapters.{zip_first, zip_second}
use Rattle.cedar_checks.specs.SchemaViews.{schema_in}
use Rattle.cedar_compat.proofs.TypeLoops.{PassesTypes}
use Rattle.cedar_compat.proofs.schemas.check_types.Given as goal

-- the entity types so far stay
abbrev pub invariant-loop-name : goal.invariant-loop-name
invariant-loop-name l = PassesTypes (schema_in l.new) l.old (zip_first l.name-iterator) (zip_second l.name-iterator)
