-- SPDX-License-Identifier: Apache-2.0
use Rattle.cedar_names.proofs.ExtensionLemmas.{Gathered}
use Rattle.cedar_names.proofs.extensions.Extensions.new.Given as goal

-- the names so far have no fault, and the set has their words
abbrev pub invariant-loop-index : goal.invariant-loop-index
invariant-loop-index l = Gathered l.names l.index l.types
