-- SPDX-License-Identifier: Apache-2.0
use Rattle.cedar_convert_fragment.specs.Views.{fragment_seen}
use Rattle.cedar_reread_laws.proofs.held.printed_and_read_again.Goals as goal

pub returns-clause-shown : goal.returns-clause-shown
returns-clause-shown c = c.what_is_held_has_a_text.ensures c.args.fragment.now

pub returns-clause-not_refused : goal.returns-clause-not_refused
returns-clause-not_refused c = λ X printable. c.what_is_printable_is_not_refused.ensures c.args.fragment.now X printable

pub returns-clause-declares : goal.returns-clause-declares
returns-clause-declares c = λ X source is u printable sound. c.what_is_printed_declares_it_again.ensures c.args.fragment.now X source is u c.maps_in_order.ensures printable sound

pub returns-clause-warned : goal.returns-clause-warned
returns-clause-warned c = λ extensions source G given declares same. c.what_is_read_again_is_warned_of_alike.ensures (fragment_seen c.args.fragment.now) G extensions source given declares same

pub returns-clause-reread_sound : goal.returns-clause-reread_sound
returns-clause-reread_sound c = λ X printable sound. c.what_is_read_again_denotes_the_same.ensures.sound c.args.fragment.now X c.maps_in_order.ensures printable sound

pub returns-clause-reread_denotes : goal.returns-clause-reread_denotes
returns-clause-reread_denotes c = λ X S printable sound d. c.what_is_read_again_denotes_the_same.ensures.denotes c.args.fragment.now X S c.maps_in_order.ensures printable sound d

pub returns-clause-well_formed : goal.returns-clause-well_formed
returns-clause-well_formed c = λ X source is u printable sound. c.what_is_printed_denotes_the_same.ensures.well_formed c.args.fragment.now X source is u c.maps_in_order.ensures printable sound

pub returns-clause-denotes : goal.returns-clause-denotes
returns-clause-denotes c = λ X source S is u printable sound d. c.what_is_printed_denotes_the_same.ensures.denotes c.args.fragment.now X source S is u c.maps_in_order.ensures printable sound d
