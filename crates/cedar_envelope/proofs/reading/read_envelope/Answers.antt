-- SPDX-License-Identifier: Apache-2.0
use Rattle.std.proofs.Common.{rules, subst, sym}
use Rattle.serde_json.specs.View.{view}
use Rattle.cedar_envelope.specs.Envelopes.{IsEnvelope}
use Rattle.cedar_envelope.proofs.FaultLemmas.{is_enveloped, texts_from, values_from}
use Rattle.cedar_envelope.proofs.reading.read_envelope.Goals as goal

pub new-requires-clause-texts : goal.new-requires-clause-texts
new-requires-clause-texts c = texts_from c.args.text.now c.args.texts.now c.args.values.now (view c.in_ok-whole.whole) (search rules)

pub new-requires-clause-values : goal.new-requires-clause-values
new-requires-clause-values c = values_from c.args.text.now c.args.texts.now c.args.values.now (view c.in_ok-whole.whole) (search rules)

pub returns-clause-ok : goal.returns-clause-ok
returns-clause-ok c =
    subst (IsEnvelope c.args.text.now c.args.texts.now c.args.values.now) (sym c.in_ok-envelope.ensures)
    (is_enveloped c.args.text.now c.args.texts.now c.args.values.now (view c.in_ok-whole.whole) (search rules) (search rules))
