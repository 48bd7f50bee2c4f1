-- SPDX-License-Identifier: Apache-2.0
use Rattle.cedar_refusal_laws.proofs.TextsAlone.{text_alone}
use Rattle.cedar_refusal_laws.proofs.laws.texts_alone.Goals as goal

pub returns : goal.returns
returns c = record { text = text_alone }
