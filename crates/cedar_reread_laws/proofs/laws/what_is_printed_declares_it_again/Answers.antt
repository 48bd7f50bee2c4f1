-- SPDX-License-Identifier: Apache-2.0
use Rattle.cedar_reread_laws.proofs.Denoting.{declares_it_again}
use Rattle.cedar_reread_laws.proofs.laws.what_is_printed_declares_it_again.Goals as goal

pub returns : goal.returns
returns c = λ F X source is u ordered printable sound. declares_it_again F X ordered printable sound c.places_left_out.ensures source is u
