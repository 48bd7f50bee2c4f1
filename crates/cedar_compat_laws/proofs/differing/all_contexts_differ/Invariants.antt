-- SPDX-License-Identifier: Apache-2.0
use Rattle.cedar_compat.specs.of_checks.SchemaViews.{schema_in}
use Rattle.cedar_compat_laws.specs.NamesDiffer.{ContextNamesDiffer}
use Rattle.cedar_compat_laws.proofs.NameLoops.{DifferAll, ContextDiffers}
use Rattle.cedar_compat_laws.proofs.differing.all_contexts_differ.Given as goal

-- the contexts so far have no name twice
abbrev pub invariant-loop-action : goal.invariant-loop-action
invariant-loop-action l = DifferAll ContextDiffers (ContextNamesDiffer (schema_in l.schema)) l.action-iterator
