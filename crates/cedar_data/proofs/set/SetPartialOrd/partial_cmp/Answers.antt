-- SPDX-License-Identifier: Apache-2.0
use Rattle.std.proofs.Common.{Some, ◌∙◌}
use Rattle.std.specs.Cmp.Lexicographic.{slice_partial_cmp}
use Rattle.std.specs.Ordering.{partial_ordering_then}
use Rattle.std.specs.declared.cmp.Ordering.TheVariants.{Equal}
use Rattle.cedar_data.proofs.SetKeys.{slice_partial_cmp-keys_of}
use Rattle.cedar_data.proofs.set.SetPartialOrd.partial_cmp.Goals as goal

pub returns : goal.returns
returns g c =
    let answer = g.K.PartialOrd.partial_cmp in
    let pairs = slice_partial_cmp (λ (p q : g.row.K.Denot × Unit {0}). partial_ordering_then (answer p.0 q.0) (Some Equal)) in
    c.partially_compare_entries.ensures ∙ (λ i. pairs (c.iter.ensures.rest i) (c.iter-2.ensures.rest i))
    ∙ slice_partial_cmp-keys_of answer c.self.inside.keys c.other.inside.keys ∙ (λ i. slice_partial_cmp answer (c.self.view_is i) (c.other.view_is i))
