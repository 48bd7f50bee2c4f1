-- SPDX-License-Identifier: Apache-2.0
use Rattle.std.proofs.Common.{◌&&◌, true, ◌∙◌}
use Rattle.std.specs.Cmp.Lexicographic.{pointwise}
use Rattle.cedar_data.proofs.SetKeys.{pointwise-keys_of}
use Rattle.cedar_data.proofs.set.SetPartialEq.eq.Goals as goal

pub returns : goal.returns
returns g c =
    let answer = g.K.PartialEq.eq in
    let pairs = pointwise (λ (p q : g.row.K.Denot × Unit {0}). (answer p.0 q.0 && true)) in
    c.same_entries.ensures ∙ (λ i. pairs (c.iter.ensures.rest i) (c.iter-2.ensures.rest i))
    ∙ pointwise-keys_of answer c.self.inside.keys c.other.inside.keys ∙ (λ i. pointwise answer (c.self.view_is i) (c.other.view_is i))
