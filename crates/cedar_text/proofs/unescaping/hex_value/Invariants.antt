-- SPDX-License-Identifier: Apache-2.0
use Rattle.std.proofs.Common.{◌≡◌, ◌<◌, ◌^◌, take}
use Rattle.cedar_text.specs.Unescaping.{hex_value}
use Rattle.cedar_text.proofs.unescaping.hex_value.Given as goal

-- the number that the digits so far write, which that many digits can
abbrev pub invariant-loop-digit : goal.invariant-loop-digit
invariant-loop-digit l = (l.value ≡ hex_value (take l.digit-index l.digits)) × (l.value < 16 ^ l.digit-index)
