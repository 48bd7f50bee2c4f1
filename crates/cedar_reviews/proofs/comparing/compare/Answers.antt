-- SPDX-License-Identifier: Apache-2.0
use Rattle.std.specs.String.{string_bytes}
use Rattle.cedar_envelope.specs.Envelopes.{contents}
use Rattle.cedar_names.specs.Extensions.{extension_words}
use Rattle.cedar_reviews.proofs.Compared.{held-due}
use Rattle.cedar_reviews.proofs.comparing.compare.Goals as goal

pub returns-clause-due : goal.returns-clause-due
returns-clause-due c =
    held-due string_bytes c.args.input.now (extension_words c.args.extensions.now) (contents c.in_ok-envelope.envelope) c.compare_held-answer.result c.in_ok-envelope.ensures.is c.compare_held-answer.ensures.due
