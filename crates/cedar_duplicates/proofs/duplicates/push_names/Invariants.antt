-- SPDX-License-Identifier: Apache-2.0
use Rattle.cedar_duplicates.proofs.Pushed.{Pushes}
use Rattle.cedar_duplicates.proofs.duplicates.push_names.Given as goal

-- those so far, with those that are left, are all
abbrev pub invariant-loop-name : goal.invariant-loop-name
invariant-loop-name g l = Pushes (λ e. g.K.Declares.declaration e.0) l.fn.all l.fn.entries l.name-iterator l.all
