-- SPDX-License-Identifier: Apache-2.0
use Rattle.cedar_decided_laws.proofs.Fragments.{fragment_sound_or_caused}
use Rattle.cedar_decided_laws.proofs.laws.fragment_sound_or_caused.Goals as goal

pub returns : goal.returns
returns c = fragment_sound_or_caused
