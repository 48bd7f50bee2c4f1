-- SPDX-License-Identifier: Apache-2.0
use Rattle.cedar_grammar.proofs.Moving.{same_but_places}
use Rattle.cedar_grammar.proofs.grammar.places_left_out.Goals as goal

pub returns : goal.returns
returns c = same_but_places
