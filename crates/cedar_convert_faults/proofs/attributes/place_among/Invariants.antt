-- SPDX-License-Identifier: Apache-2.0
use Rattle.std.proofs.Common.{◌≡◌, map, drop}
use Rattle.cedar_convert_faults.specs.Repeats.{place_of}
use Rattle.cedar_convert_faults.proofs.attributes.place_among.Given as goal

-- the first that has the name is among the rest
abbrev pub invariant-loop-attr : goal.invariant-loop-attr
invariant-loop-attr l = place_of (map (λ attr. attr.node.item.name) (drop l.attr-index l.attrs)) l.name ≡ place_of (map (λ attr. attr.node.item.name) l.attrs) l.name
