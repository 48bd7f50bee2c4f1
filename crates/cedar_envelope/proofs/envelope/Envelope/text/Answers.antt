-- SPDX-License-Identifier: Apache-2.0
use Rattle.std.proofs.Common.{rules}
use Rattle.serde_json.specs.View.{view}
use Rattle.cedar_envelope.specs.Envelopes.{contents}
use Rattle.cedar_envelope.proofs.HeldLemmas.{no_text, text_held}
use Rattle.cedar_envelope.proofs.envelope.Envelope.text.Goals as goal

pub returns-in_default : goal.returns-in_default
returns-in_default c = no_text (contents c.args.self.now) c.args.key.now c.args.self.now.texts_there (search rules)

pub returns : goal.returns
returns c = text_held (contents c.args.self.now) c.args.key.now (view c.in-Some.member.now) c.as_str.result c.args.self.now.texts_there (search rules) (search rules) (search rules)
