-- SPDX-License-Identifier: Apache-2.0
use Rattle.std.proofs.Common.{◌≡◌}
use Rattle.cedar_data.specs.Fronts.{digits}
use Rattle.cedar_data.proofs.text.front_of.Given as goal

-- the digits of the text so far
abbrev pub invariant-loop-at : goal.invariant-loop-at
invariant-loop-at l = l.digits ≡ digits l.at l.text
