-- SPDX-License-Identifier: Apache-2.0
use Rattle.cedar_grammar.proofs.Moving.{same_but_places}
use Rattle.cedar_convert_laws.proofs.Conditioned.{declares_too}
use Rattle.cedar_convert_laws.proofs.laws.places_left_out.Goals as goal

pub returns : goal.returns
returns c = λ ts us s s' fragment same reads reads' d. declares_too s s' (same_but_places ts us s s' same reads reads') fragment d
