-- SPDX-License-Identifier: Apache-2.0
use Rattle.cedar_reread_laws.proofs.Denoting.{declares_it_again, denotes_the_same, is_well_formed}
use Rattle.cedar_reread_laws.proofs.laws.what_is_printed_denotes_the_same.Goals as goal

pub returns-clause-well_formed : goal.returns-clause-well_formed
returns-clause-well_formed c = λ F X source is u ordered printable sound.
    let law = c.places_left_out.ensures in
    let w = declares_it_again F X ordered printable sound law source is u in
    (w.0, w.1, is_well_formed F X ordered printable sound law source is u)

pub returns-clause-denotes : goal.returns-clause-denotes
returns-clause-denotes c = λ F X source S is u ordered printable sound d.
    let law = c.places_left_out.ensures in
    ((declares_it_again F X ordered printable sound law source is u).1, denotes_the_same F X ordered printable sound law source is u S d)
