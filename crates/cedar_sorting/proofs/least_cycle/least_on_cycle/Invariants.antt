-- SPDX-License-Identifier: Apache-2.0
use Rattle.cedar_sorting.proofs.Parts.{SearchedTo}
use Rattle.cedar_sorting.proofs.least_cycle.least_on_cycle.Given as goal

abbrev pub invariant-loop-start : goal.invariant-loop-start
invariant-loop-start l = SearchedTo l.rows l.start l.seen l.places l.least
