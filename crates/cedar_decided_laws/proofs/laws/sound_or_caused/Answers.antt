-- SPDX-License-Identifier: Apache-2.0
use Rattle.cedar_decided_laws.proofs.Worlds.{sound_or_caused}
use Rattle.cedar_decided_laws.proofs.laws.sound_or_caused.Goals as goal

pub returns : goal.returns
returns c = sound_or_caused
