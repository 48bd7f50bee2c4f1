-- SPDX-License-Identifier: Apache-2.0
use Rattle.cedar_envelope.proofs.FaultLemmas.{one_envelope}
use Rattle.cedar_envelope.proofs.laws.what_has_an_envelope_has_one.Goals as goal

pub returns : goal.returns
returns c = one_envelope
