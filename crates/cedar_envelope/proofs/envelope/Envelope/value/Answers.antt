-- SPDX-License-Identifier: Apache-2.0
use Rattle.std.proofs.Common.{rules}
use Rattle.cedar_envelope.specs.Envelopes.{contents}
use Rattle.cedar_envelope.proofs.HeldLemmas.{value_held}
use Rattle.cedar_envelope.proofs.envelope.Envelope.value.Goals as goal

pub returns : goal.returns
returns c = value_held (contents c.args.self.now) c.args.key.now c.get.result c.args.self.now.values_there (search rules) (search rules)
