-- SPDX-License-Identifier: Apache-2.0
use Rattle.std.proofs.Common.{◌≡◌}
use Rattle.cedar_data.specs.Maps.{get_text}
use Rattle.cedar_data.proofs.map.Map+Text+V.get_text.Given as goal

-- what is left has at the name what the whole map has
abbrev pub invariant-loop-key : goal.invariant-loop-key
invariant-loop-key g l = get_text l.key-iterator l.name ≡ get_text l.self l.name
