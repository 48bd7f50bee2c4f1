-- SPDX-License-Identifier: Apache-2.0
use Rattle.cedar_compat.specs.of_checks.SchemaViews.{schema_in}
use Rattle.cedar_compat_laws.specs.NamesDiffer.{AllNamesDiffer}
use Rattle.cedar_compat_laws.proofs.NameLoops.{DifferAll, TypeDiffers}
use Rattle.cedar_compat_laws.proofs.differing.all_types_differ.Given as goal

-- the entity types so far have no name twice
abbrev pub invariant-loop-ty : goal.invariant-loop-ty
invariant-loop-ty l = DifferAll TypeDiffers (AllNamesDiffer (schema_in l.schema)) l.ty-iterator
