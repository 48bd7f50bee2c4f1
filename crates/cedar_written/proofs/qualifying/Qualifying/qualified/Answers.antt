-- SPDX-License-Identifier: Apache-2.0
use Rattle.std.proofs.Common.{IfOk, ◌≡◌, ◌∙◌, ap, subst}
use Rattle.std.specs.Option.{option_copied}
use Rattle.cedar_print.specs.of_names.Components.{qualified_in}
use Rattle.cedar_written.proofs.Possible.{qualified-in}
use Rattle.cedar_written.proofs.qualifying.Qualifying.qualified.Goals as goal

pub returns : goal.returns
returns c =
    let step = c.args.self.now in
    subst (λ made. IfOk c.qualify_within.result (λ n. n ≡ made))
    (ap (λ within. qualified_in c.args.name within) (c.as_ref.ensures.value ∙ step.held) ∙ qualified-in (option_copied step.namespace) c.args.name)
    c.qualify_within.ensures
