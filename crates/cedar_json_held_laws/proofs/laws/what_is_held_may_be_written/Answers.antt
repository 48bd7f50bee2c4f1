-- SPDX-License-Identifier: Apache-2.0
use Rattle.cedar_json_held_laws.proofs.HeldFragments.{held_writable}
use Rattle.cedar_json_held_laws.proofs.laws.what_is_held_may_be_written.Goals as goal

pub returns-clause-writable : goal.returns-clause-writable
returns-clause-writable c = held_writable c.args.fragment.now c.maps_in_order.ensures

pub returns-clause-well_formed : goal.returns-clause-well_formed
returns-clause-well_formed c = λ extensions readable sound.
    c.what_is_written_denotes_the_same.ensures.well_formed c.args.fragment.now extensions (held_writable c.args.fragment.now c.maps_in_order.ensures extensions readable sound) sound

pub returns-clause-denotes : goal.returns-clause-denotes
returns-clause-denotes c = λ extensions S readable sound d.
    c.what_is_written_denotes_the_same.ensures.denotes c.args.fragment.now extensions S (held_writable c.args.fragment.now c.maps_in_order.ensures extensions readable sound) sound d
