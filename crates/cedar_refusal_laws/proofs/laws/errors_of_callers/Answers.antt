-- SPDX-License-Identifier: Apache-2.0
use Rattle.cedar_refusal_laws.proofs.NoCallers.{never_handed_in}
use Rattle.cedar_refusal_laws.proofs.laws.errors_of_callers.Goals as goal

pub returns : goal.returns
returns c = record { worlds = never_handed_in }
