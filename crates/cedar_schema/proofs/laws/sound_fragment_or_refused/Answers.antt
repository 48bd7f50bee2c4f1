-- SPDX-License-Identifier: Apache-2.0
use Rattle.cedar_schema.proofs.Refusing.{sound_fragment_or_refused}
use Rattle.cedar_schema.proofs.laws.sound_fragment_or_refused.Goals as goal

pub returns : goal.returns
returns c = sound_fragment_or_refused
