-- SPDX-License-Identifier: Apache-2.0
use Rattle.std.proofs.Common.{sym, ap, ◌∙◌}
use Rattle.std.specs.Option.{option_copied}
use Rattle.cedar_request.proofs.Counting.{named-before, named-places}
use Rattle.cedar_request.proofs.entering.action_named.Goals as goal

pub returns-clause-before : goal.returns-clause-before
returns-clause-before c =
    named-before c.args.schema.now c.args.counted.now c.requires c.args.uid.now c.in-Some.found.now (sym c.get.ensures ∙ ap option_copied c.in-Some.is)

pub returns-clause-places : goal.returns-clause-places
returns-clause-places c =
    named-places c.args.schema.now c.args.counted.now c.requires c.args.uid.now c.in-Some.found.now (sym c.get.ensures ∙ ap option_copied c.in-Some.is)
