-- SPDX-License-Identifier: Apache-2.0
use Rattle.std.proofs.Common.{◌∙◌}
use Rattle.std.specs.Cmp.Lexicographic.{slice_cmp}
use Rattle.std.specs.Ordering.{ordering_then}
use Rattle.std.specs.declared.cmp.Ordering.TheVariants.{Equal}
use Rattle.cedar_data.proofs.SetKeys.{slice_cmp-keys_of}
use Rattle.cedar_data.proofs.set.SetOrd.cmp.Goals as goal

pub returns : goal.returns
returns g c =
    let answer = g.K.Ord.cmp in
    let pairs = slice_cmp (λ (p q : g.row.K.Denot × Unit {0}). ordering_then (answer p.0 q.0) Equal) in
    c.compare_entries.ensures ∙ (λ i. pairs (c.iter.ensures.rest i) (c.iter-2.ensures.rest i))
    ∙ slice_cmp-keys_of answer c.self.inside.keys c.other.inside.keys ∙ (λ i. slice_cmp answer (c.self.view_is i) (c.other.view_is i))
