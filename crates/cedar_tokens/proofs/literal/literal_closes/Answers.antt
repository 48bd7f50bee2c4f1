-- SPDX-License-Identifier: Apache-2.0
use Rattle.cedar_tokens.proofs.Closing.{closes_exactly}
use Rattle.cedar_tokens.proofs.literal.literal_closes.Goals as goal

pub returns : goal.returns
returns c = closes_exactly
