-- SPDX-License-Identifier: Apache-2.0
use Rattle.cedar_reread_laws.proofs.Told.{fragment_told}
use Rattle.cedar_reread_laws.proofs.laws.what_is_held_has_a_text.Goals as goal

pub returns : goal.returns
returns c = λ F. fragment_told F
