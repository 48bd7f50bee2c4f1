-- SPDX-License-Identifier: Apache-2.0
use Rattle.std.proofs.Common.{IfOk, ◌≡◌, ◌∙◌, subst}
use Rattle.std.specs.Option.{option_copied}
use Rattle.cedar_written.proofs.Possible.{conditional-in}
use Rattle.cedar_written.proofs.qualifying.Qualifying.full_names.Goals as goal

pub returns : goal.returns
returns c =
    let step = c.args.self.now in
    subst (λ made. IfOk c.conditionally_qualify_within.result (λ n. n ≡ made))
    (conditional-in (option_copied step.namespace) _ c.args.kind c.args.name (c.as_ref.ensures.value ∙ step.held))
    c.conditionally_qualify_within.ensures
