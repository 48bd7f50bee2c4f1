-- SPDX-License-Identifier: Apache-2.0
use Rattle.cedar_convert_faults.proofs.FewNames.{Sought}
use Rattle.cedar_convert_faults.proofs.repeats.first_repeat_of_few.Given as goal

-- the first repeat of all is to come
abbrev pub invariant-loop-at : goal.invariant-loop-at
invariant-loop-at l = Sought l.names l.at
