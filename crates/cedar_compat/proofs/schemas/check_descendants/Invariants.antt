-- SPDX-License-Identifier: Apache-2.0
use Rattle.cedar_names.specs.Names.{entity_words}
use Rattle.cedar_checks.specs.SchemaViews.{entity_of}
use Rattle.cedar_compat.specs.BreakChecks.{descendant_check}
use Rattle.cedar_compat.proofs.Each.{PassesSeen}
use Rattle.cedar_compat.proofs.Standing.{StandsIn}
use Rattle.cedar_compat.proofs.schemas.check_descendants.Given as goal

-- the old descendants so far are there, and the others are left
abbrev pub invariant-loop-name : goal.invariant-loop-name
invariant-loop-name l =
    PassesSeen entity_words (descendant_check (entity_of l.new)) l.old.descendants l.name-iterator × StandsIn l.old.descendants l.name-iterator
