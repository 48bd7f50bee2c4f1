-- SPDX-License-Identifier: Apache-2.0
use Rattle.cedar_envelope.proofs.FaultLemmas.{has_envelope, no_fault}
use Rattle.cedar_envelope.proofs.laws.what_has_an_envelope_has_no_fault.Goals as goal

pub returns : goal.returns
returns c = λ s texts values. (no_fault s texts values, has_envelope s texts values)
